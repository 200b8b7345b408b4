use Rattle.std.proofs.Common.{◌≡◌, take}
use Rattle.felm_meaning.proofs.equality.same_inputs.Given as goal

abbrev pub invariant-loop-place : goal.invariant-loop-place
invariant-loop-place l = take l.place l.left ≡ take l.place l.right
