use Rattle.felm_core.proofs.Measures.{turning_whole}
use Rattle.felm_core.proofs.laws.turn_nodes_are_counted.Goals as goal

pub returns : goal.returns
returns c = turning_whole
