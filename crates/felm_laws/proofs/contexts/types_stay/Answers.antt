use Rattle.felm_laws.proofs.Weakening.{types_stay}
use Rattle.felm_laws.proofs.contexts.types_stay.Goals as goal

pub returns : goal.returns
returns c = types_stay
