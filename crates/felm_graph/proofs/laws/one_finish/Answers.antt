use Rattle.felm_graph.proofs.Finishes.{finish_once}
use Rattle.felm_graph.proofs.laws.one_finish.Goals as goal

pub returns : goal.returns
returns c = finish_once
