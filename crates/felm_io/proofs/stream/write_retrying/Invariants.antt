use Rattle.std.specs.Io.KnownBytes.{Keeps}
use Rattle.felm_io.proofs.stream.write_retrying.Given as goal

-- an interrupted write left known bytes as they were
abbrev pub invariant-loop : goal.invariant-loop
invariant-loop g l = Keeps (g.W.Write.contents l.fn.stream) (g.W.Write.contents l.stream)
