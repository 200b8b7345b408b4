use Rattle.felm_meaning.proofs.Graphs.{ordered}
use Rattle.felm_meaning.proofs.Recursion.{meaning-is}
use Rattle.felm_meaning.proofs.laws.meaning_is_the_recursion.Goals as goal

pub returns : goal.returns
returns c = λ g b j graph. meaning-is g b j (ordered g graph)
