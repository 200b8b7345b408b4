use Rattle.felm_laws.proofs.Budgets.{one_value}
use Rattle.felm_laws.proofs.outcomes.values_are_unique.Goals as goal

pub returns : goal.returns
returns c = one_value
