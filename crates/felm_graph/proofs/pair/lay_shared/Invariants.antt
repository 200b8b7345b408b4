use Rattle.std.proofs.Common.{drop}
use Rattle.felm_graph.specs.Pairs.{InOrder}
use Rattle.felm_graph.proofs.pair.lay_shared.Given as goal

abbrev pub invariant-loop-term : goal.invariant-loop-term
invariant-loop-term l = InOrder l.fn.nodes.items l.shared l.roots.items l.nodes.items (drop l.term-index l.shared)
