use Rattle.felm_meaning.proofs.Fitting.{legal_fits}
use Rattle.felm_meaning.proofs.laws.legal_journals_fit.Goals as goal

pub returns : goal.returns
returns c = legal_fits
