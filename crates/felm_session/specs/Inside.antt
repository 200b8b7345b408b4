-- What the fields of a session stand for, and what they keep.
use Rattle.felm_session.specs.SessionValue.{SessionValue, IsInStep}
use Rattle.felm_session.specs.declared.session.Session.TheInside.{Inside}

abbrev pub session_of : Inside → SessionValue
session_of a = record { engine = a.engine; cursor = a.cursor }

abbrev pub KeepsStep : Inside → Type 0
KeepsStep a = IsInStep a.engine a.cursor
