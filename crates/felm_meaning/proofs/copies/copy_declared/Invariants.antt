use Rattle.std.proofs.Common.{◌≡◌, take}
use Rattle.felm_meaning.proofs.copies.copy_declared.Given as goal

abbrev pub invariant-loop-declared : goal.invariant-loop-declared
invariant-loop-declared l = l.copy.items ≡ take l.declared-index l.inputs
