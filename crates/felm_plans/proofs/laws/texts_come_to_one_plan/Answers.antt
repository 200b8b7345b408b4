use Rattle.felm_plans.proofs.Outcomes.{one_outcome}
use Rattle.felm_plans.proofs.laws.texts_come_to_one_plan.Goals as goal

pub returns : goal.returns
returns c = one_outcome
