use Rattle.felm_laws.proofs.OneNext.{one_next}
use Rattle.felm_laws.proofs.steps.one_next_pair.Goals as goal

pub returns : goal.returns
returns c = λ B C D e f g s t. one_next s t
