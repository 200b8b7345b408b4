use Rattle.felm_meaning.proofs.Edges.{front-there}
use Rattle.felm_meaning.proofs.laws.none_follows_none.Goals as goal

pub returns : goal.returns
returns c = front-there
