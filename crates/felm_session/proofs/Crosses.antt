-- That a session may cross threads, from its engine.
use denote.Param.Send.{IsSend}
use Rattle.felm_engine.proofs.Crosses.{by_fields}
use Rattle.felm_engine.specs.contracts.engine.Engine as Engine
use Rattle.felm_session.specs.contracts.session.Session as Session

pub session_sent : IsSend Engine.the_row → IsSend Session.the_row
session_sent engine = search by_fields depth 60
