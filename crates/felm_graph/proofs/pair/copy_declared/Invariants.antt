use Rattle.std.proofs.Common.{◌≡◌, take}
use Rattle.felm_graph.proofs.pair.copy_declared.Given as goal

abbrev pub invariant-loop-declared : goal.invariant-loop-declared
invariant-loop-declared l = l.copy.items ≡ take l.declared-index l.inputs
