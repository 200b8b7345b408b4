use Rattle.felm_core.proofs.Room.{progress_bound}
use Rattle.felm_core.proofs.laws.progress_is_bounded.Goals as goal

pub returns : goal.returns
returns c = progress_bound
