use Rattle.felm_laws.proofs.StepLaws.{signal_has_no_step}
use Rattle.felm_laws.proofs.steps.signal_terms_stay.Goals as goal

pub returns : goal.returns
returns c = signal_has_no_step
