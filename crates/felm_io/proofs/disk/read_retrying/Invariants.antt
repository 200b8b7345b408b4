use Rattle.std.specs.Io.KnownBytes.{Keeps}
use Rattle.felm_io.proofs.disk.read_retrying.Given as goal

-- an interrupted read left known bytes as they were
abbrev pub invariant-loop : goal.invariant-loop
invariant-loop g l = Keeps (g.R.Read.remaining l.fn.reader) (g.R.Read.remaining l.reader)
