use Rattle.felm_laws.proofs.Formed.{declared_signals}
use Rattle.felm_laws.proofs.types.inputs_are_signals.Goals as goal

pub returns : goal.returns
returns c = declared_signals
