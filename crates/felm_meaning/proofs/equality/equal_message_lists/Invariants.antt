use Rattle.std.proofs.Common.{◌≡◌, take}
use Rattle.felm_meaning.proofs.equality.equal_message_lists.Given as goal

abbrev pub invariant-loop-place : goal.invariant-loop-place
invariant-loop-place l = take l.place l.left ≡ take l.place l.right
