use Rattle.felm_laws.proofs.StepLaws.{one_end}
use Rattle.felm_laws.proofs.steps.one_end.Goals as goal

pub returns : goal.returns
returns c = λ m n B C D e f g s w t x. one_end s w t x
