use Rattle.std.proofs.Common.{◌≡◌, ◌++◌, map, take, drop}
use Rattle.felm_edges.specs.Parts.{without_first}
use Rattle.felm_edges.proofs.ports.drop_firsts.Given as goal

abbrev pub invariant-loop-edge : goal.invariant-loop-edge
invariant-loop-edge l = l.edges ≡ map without_first (take l.edge-index l.initial.edges) ++ drop l.edge-index l.initial.edges
