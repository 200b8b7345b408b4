use Rattle.std.proofs.Common.{◌≡◌, map, take}
use Rattle.felm_edges.specs.EdgesValue.{wiring_of}
use Rattle.felm_edges.specs.Parts.{new_edge}
use Rattle.felm_edges.proofs.making.make_rows.Given as goal

abbrev pub invariant-loop-node : goal.invariant-loop-node
invariant-loop-node l = l.rows.items ≡ map (map (new_edge l.capacity)) (take l.node (wiring_of l.graph.nodes))
