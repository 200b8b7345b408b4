use Rattle.std.proofs.Common.{◌≡◌, ℕ, ◌<◌, [], length, get_or}
use Rattle.felm_engine.specs.Lists.{asyncs_over, items_in}
use Rattle.felm_engine.proofs.lists.Asyncs.of.Given as goal

abbrev pub invariant-loop-made : goal.invariant-loop-made
invariant-loop-made l = record {
  lengths : length l.lists.items ≡ l._made;
  empty : (x : ℕ) → get_or (items_in l.lists.items) x [] ≡ [];
}

abbrev pub invariant-loop-node : goal.invariant-loop-node
invariant-loop-node l = record {
  lengths : length (items_in l.lists.items) ≡ length l.graph.nodes;
  over : (x : ℕ) → x < length l.graph.nodes → get_or (items_in l.lists.items) x [] ≡ asyncs_over l.graph.nodes x l.node;
}
