use Rattle.felm_core.proofs.Spares.{event_room}
use Rattle.felm_core.proofs.laws.events_keep_room.Goals as goal

pub returns : goal.returns
returns c = event_room
