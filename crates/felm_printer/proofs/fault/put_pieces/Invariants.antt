use Rattle.std.proofs.Common.{◌≡◌, take}
use Rattle.std.specs.Io.KnownBytes.{Appends}
use Rattle.felm_printer.proofs.Pieces.{joined}
use Rattle.felm_printer.proofs.fault.put_pieces.Given as goal

-- the pieces so far were appended, and no count changed
abbrev pub invariant-loop-piece : goal.invariant-loop-piece
invariant-loop-piece g l = record {
  appended : Appends (g.S.Sink.bytes l.fn.sink) (g.S.Sink.bytes l.sink) (joined (take l.piece-index l.pieces));
  faults : g.S.Sink.faults l.sink ≡ g.S.Sink.faults l.fn.sink;
  short : g.S.Sink.short l.sink ≡ g.S.Sink.short l.fn.sink;
}
