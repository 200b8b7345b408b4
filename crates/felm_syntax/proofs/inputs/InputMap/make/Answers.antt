use Rattle.std.proofs.Common.{ap}
use Rattle.felm_term.proofs.Names.{none_distinct}
use Rattle.felm_syntax.specs.InputMap.{declarations}
use Rattle.felm_syntax.proofs.inputs.InputMap.make.Goals as goal

pub invariant_of-result : goal.invariant_of-result
invariant_of-result c = none_distinct (declarations c.new.result.entries) (ap declarations c.new.ensures.empty)
