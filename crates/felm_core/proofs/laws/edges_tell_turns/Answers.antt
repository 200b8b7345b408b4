use Rattle.felm_core.proofs.Holds.{fed_by_edges, room_by_edges}
use Rattle.felm_core.proofs.laws.edges_tell_turns.Goals as goal

pub returns : goal.returns
returns c = λ s c k graph sound. (fed_by_edges s c graph sound k, room_by_edges s c graph sound k)
