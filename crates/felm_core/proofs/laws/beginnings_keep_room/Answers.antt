use Rattle.felm_core.proofs.Spares.{begin_room}
use Rattle.felm_core.proofs.laws.beginnings_keep_room.Goals as goal

pub returns : goal.returns
returns c = begin_room
