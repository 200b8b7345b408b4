use Rattle.felm_laws.proofs.Substituted.{substitute_typed}
use Rattle.felm_laws.proofs.types.substitution_keeps_types.Goals as goal

pub returns : goal.returns
returns c = substitute_typed
