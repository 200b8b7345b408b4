use Rattle.felm_meaning.proofs.Graphs.{ordered}
use Rattle.felm_meaning.proofs.Recursion.{meaning-is, meaning-only}
use Rattle.felm_meaning.specs.Meaning.{val, msg}
use Rattle.felm_meaning.proofs.laws.only_the_meaning_is.Goals as goal

pub returns : goal.returns
returns c = λ g b j value message graph is. let ok = ordered g graph in meaning-only g b j value (val g b j) message (msg g b j) ok is (meaning-is g b j ok)
