use Rattle.felm_laws.proofs.StepLaws.{steps_same}
use Rattle.felm_laws.proofs.outcomes.runs_are_unique.Goals as goal

pub returns : goal.returns
returns c = λ n B C D e f g r q. steps_same r q
