use Rattle.felm_core.proofs.Holds.{event_holds}
use Rattle.felm_core.proofs.laws.events_hold.Goals as goal

pub returns : goal.returns
returns c = λ s c e message old new before after comes messages holds made. event_holds s c e message old new before after comes messages holds made
