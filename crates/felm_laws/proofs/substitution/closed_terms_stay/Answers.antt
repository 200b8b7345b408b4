use Rattle.felm_laws.proofs.ClosedTerms.{closed_stays}
use Rattle.felm_laws.proofs.substitution.closed_terms_stay.Goals as goal

pub returns : goal.returns
returns c = closed_stays
