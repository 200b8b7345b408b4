use Rattle.felm_core.proofs.Spares.{sent_finds_room}
use Rattle.felm_core.proofs.laws.sending_finds_room.Goals as goal

pub returns : goal.returns
returns c = sent_finds_room
