use Rattle.felm_meaning.proofs.Edges.{meaning-take}
use Rattle.felm_meaning.proofs.laws.prefixes_are_enough.Goals as goal

pub returns : goal.returns
returns c = meaning-take
