use Rattle.felm_types.proofs.FirstFaults.{type_in_typed}
use Rattle.felm_types.proofs.laws.types_are_by_typing.Goals as goal

pub returns : goal.returns
returns c = type_in_typed
