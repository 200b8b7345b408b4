use Rattle.felm_laws.proofs.Budgets.{within_or_over}
use Rattle.felm_laws.proofs.outcomes.budgets_decide.Goals as goal

pub returns : goal.returns
returns c = within_or_over
