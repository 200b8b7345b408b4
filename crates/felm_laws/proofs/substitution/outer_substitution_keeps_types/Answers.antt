use Rattle.felm_laws.proofs.ClosedTerms.{outer_substituted}
use Rattle.felm_laws.proofs.substitution.outer_substitution_keeps_types.Goals as goal

pub returns : goal.returns
returns c = outer_substituted
