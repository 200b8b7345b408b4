use Rattle.felm_meaning.proofs.Graphs.{ordered}
use Rattle.felm_meaning.proofs.Causes.{completed}
use Rattle.felm_meaning.proofs.Edges.{default-there}
use Rattle.felm_meaning.proofs.laws.what_ends_is_complete.Goals as goal

pub returns : goal.returns
returns c = λ g b script j graph legal defaults all. completed g b script j (ordered g graph) legal all (λ k l. default-there g b j k (defaults k l))
