use Rattle.felm_laws.proofs.StepLaws.{steps_signals}
use Rattle.felm_laws.proofs.steps.steps_share_signal_terms.Goals as goal

pub returns : goal.returns
returns c = λ n B C e f s h. steps_signals s h
