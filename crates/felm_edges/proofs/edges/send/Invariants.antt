use Rattle.std.proofs.Common.{◌≡◌, ◌+◌, take}
use Rattle.felm_edges.specs.Parts.{with_message, changed_at_each}
use Rattle.felm_edges.proofs.edges.send.Given as goal

abbrev pub invariant-loop-reader : goal.invariant-loop-reader
invariant-loop-reader l = record {
  sent : l.rows ≡ changed_at_each (with_message l.initial.outlet.message) l.initial.rows (take l.reader-index l.readers);
  message : l.outlet.message ≡ l.initial.outlet.message;
  left : l.outlet.left + l.reader-index ≡ l.initial.outlet.left;
  room : l.outlet.room ≡ l.initial.outlet.room;
}
