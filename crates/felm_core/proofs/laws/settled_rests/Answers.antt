use Rattle.felm_core.proofs.Sticks.{settled_rests, settled_room, settled_done, settled_shown, settled_waits}
use Rattle.felm_core.proofs.Measures.{settled_all}
use Rattle.felm_core.proofs.laws.settled_rests.Goals as goal

pub returns : goal.returns
returns c = λ s c graph sound settled. record {
  none_ready = settled_rests s c graph sound settled;
  room = λ one. settled_room s c graph sound one settled;
  done = settled_done s c graph sound settled;
  shown = settled_shown s c graph sound settled;
  waits = settled_waits s c graph sound settled;
  turns = settled_all s c graph sound settled;
}
