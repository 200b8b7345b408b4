use Rattle.felm_laws.proofs.SimpleTerms.{simple_never_stick}
use Rattle.felm_laws.proofs.steps.simple_terms_never_stick.Goals as goal

pub returns : goal.returns
returns c = simple_never_stick
