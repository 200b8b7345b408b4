use Rattle.std.proofs.Common.{◌≡◌, None}
use Rattle.std.specs.Prelude.{replicate, vec_len, vec_capacity}
use Rattle.felm_edges.proofs.outlet.Outlet.prepare.Given as goal

abbrev pub invariant-loop-copied : goal.invariant-loop-copied
invariant-loop-copied l = record {
  none : l.self-inside.message ≡ None;
  copies : l.self-inside.copies.items ≡ replicate l._copied l.message;
  count : vec_len l.self-inside.copies ≡ l._copied;
  room : vec_capacity l.self-inside.copies ≡ l.fn.self.room;
}
