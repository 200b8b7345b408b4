use Rattle.felm_laws.proofs.StepLaws.{no_more}
use Rattle.felm_laws.proofs.outcomes.ended_runs_are_longest.Goals as goal

pub returns : goal.returns
returns c = λ m n B C D e f g r w q. no_more r w q
