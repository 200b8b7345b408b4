use Rattle.felm_session.proofs.Alike.{one_end}
use Rattle.felm_session.proofs.laws.without_asyncs_one_end.Goals as goal

pub returns : goal.returns
returns c = one_end
