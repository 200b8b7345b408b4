use Rattle.felm_meaning.proofs.Edges.{edge-holds}
use Rattle.felm_meaning.proofs.laws.edges_hold_the_messages.Goals as goal

pub returns : goal.returns
returns c = edge-holds
