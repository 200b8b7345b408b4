use Rattle.felm_laws.proofs.Budgets.{value_typed}
use Rattle.felm_laws.proofs.outcomes.values_have_the_type.Goals as goal

pub returns : goal.returns
returns c = value_typed
