use Rattle.felm_laws.proofs.Budgets.{over_is_exact}
use Rattle.felm_laws.proofs.outcomes.over_is_exact.Goals as goal

pub returns : goal.returns
returns c = over_is_exact
