use Rattle.felm_meaning.proofs.Causes.{causes, caused_by}
use Rattle.felm_meaning.proofs.laws.causes_come_before.Goals as goal

pub returns : goal.returns
returns c = λ g b j. (causes g b j, caused_by g b j)
