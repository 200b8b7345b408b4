use Rattle.felm_meaning.proofs.Types.{values_typed}
use Rattle.felm_meaning.proofs.laws.values_have_their_types.Goals as goal

pub returns : goal.returns
returns c = λ g b j k p node v graph events. values_typed g b graph j events p k node v
