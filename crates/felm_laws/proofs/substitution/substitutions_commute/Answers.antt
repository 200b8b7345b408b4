use Rattle.felm_laws.proofs.ClosedTerms.{substitutions_commute}
use Rattle.felm_laws.proofs.substitution.substitutions_commute.Goals as goal

pub returns : goal.returns
returns c = substitutions_commute
