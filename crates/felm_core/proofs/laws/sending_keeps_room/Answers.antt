use Rattle.felm_core.proofs.Spares.{sent_room}
use Rattle.felm_core.proofs.laws.sending_keeps_room.Goals as goal

pub returns : goal.returns
returns c = sent_room
