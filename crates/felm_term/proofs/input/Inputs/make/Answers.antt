use Rattle.felm_term.proofs.Names.{none_distinct}
use Rattle.felm_term.proofs.input.Inputs.make.Goals as goal

pub invariant_of-result : goal.invariant_of-result
invariant_of-result c = none_distinct c.make.result.items c.make.ensures
