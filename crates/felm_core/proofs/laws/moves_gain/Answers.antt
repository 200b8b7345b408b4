use Rattle.felm_core.proofs.Room.{progress_gains}
use Rattle.felm_core.proofs.laws.moves_gain.Goals as goal

pub returns : goal.returns
returns c = progress_gains
