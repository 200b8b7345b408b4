use Rattle.felm_session.proofs.Ending.{settled_has_room}
use Rattle.felm_session.proofs.laws.settled_sessions_have_room.Goals as goal

pub returns : goal.returns
returns c = λ old new a graph sound settled. (
  λ fed. settled_has_room old.engine graph sound settled fed.1.1,
  λ entered. settled_has_room old.engine graph sound settled entered.1.1,
  λ entered. settled_has_room old.engine graph sound settled entered.1.1,
)
