use Rattle.felm_core.proofs.Measures.{settled_most}
use Rattle.felm_core.proofs.laws.turns_are_counted.Goals as goal

pub returns : goal.returns
returns c = settled_most
