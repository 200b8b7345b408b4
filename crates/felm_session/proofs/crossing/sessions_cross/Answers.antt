use Rattle.felm_session.proofs.Crosses.{session_sent}
use Rattle.felm_session.proofs.crossing.sessions_cross.Goals as goal

pub returns : goal.returns
returns c = session_sent c.engines_cross.ensures
