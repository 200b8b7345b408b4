use Rattle.felm_laws.proofs.SharedSignals.{shared_are_signals}
use Rattle.felm_laws.proofs.contexts.shared_are_signals.Goals as goal

pub returns : goal.returns
returns c = shared_are_signals
