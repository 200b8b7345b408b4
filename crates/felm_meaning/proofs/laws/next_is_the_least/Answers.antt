use Rattle.felm_meaning.proofs.Legal.{next-is}
use Rattle.felm_meaning.proofs.laws.next_is_the_least.Goals as goal

pub returns : goal.returns
returns c = next-is
