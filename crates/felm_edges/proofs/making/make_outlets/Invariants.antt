use Rattle.std.proofs.Common.{◌≡◌, map, take, length}
use Rattle.felm_edges.specs.Parts.{new_outlet}
use Rattle.felm_edges.proofs.making.make_outlets.Given as goal

abbrev pub invariant-loop-own : goal.invariant-loop-own
invariant-loop-own l = l.outlets.items ≡ map (λ readers. new_outlet (length readers)) (take l.own-index l.readers)
