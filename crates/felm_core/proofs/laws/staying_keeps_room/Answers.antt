use Rattle.felm_core.proofs.Spares.{stay_room}
use Rattle.felm_core.proofs.laws.staying_keeps_room.Goals as goal

pub returns : goal.returns
returns c = stay_room
