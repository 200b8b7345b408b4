use Rattle.std.proofs.Common.{◌≡◌, map, take}
use Rattle.felm_edges.specs.Parts.{new_edge}
use Rattle.felm_edges.proofs.ports.Ports.make.Given as goal

abbrev pub invariant-loop-source : goal.invariant-loop-source
invariant-loop-source l = l.edges.items ≡ map (new_edge l.capacity) (take l.source-index l.sources)
