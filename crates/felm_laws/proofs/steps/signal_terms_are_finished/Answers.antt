use Rattle.felm_laws.proofs.StepLaws.{signal_is_finished}
use Rattle.felm_laws.proofs.steps.signal_terms_are_finished.Goals as goal

pub returns : goal.returns
returns c = signal_is_finished
