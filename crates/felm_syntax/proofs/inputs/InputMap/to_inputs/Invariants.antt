use Rattle.std.proofs.Common.{◌≡◌, ◌-◌, length, take}
use Rattle.felm_syntax.proofs.inputs.InputMap.to_inputs.Given as goal

-- the list has the first inputs
abbrev pub invariant-inputs : goal.invariant-inputs
invariant-inputs l = l.inputs.items ≡ take (length l.inputs.items) l.self

abbrev pub decreases-inputs : goal.decreases-inputs
decreases-inputs l = length l.self - length l.inputs.items
