use Rattle.felm_laws.proofs.ClosedTerms.{value_substituted}
use Rattle.felm_laws.proofs.substitution.values_keep_types.Goals as goal

pub returns : goal.returns
returns c = value_substituted
