use Rattle.felm_laws.proofs.SharedSignals.{shared_types_kept}
use Rattle.felm_laws.proofs.pairs.steps_keep_shared_types.Goals as goal

pub returns : goal.returns
returns c = shared_types_kept
