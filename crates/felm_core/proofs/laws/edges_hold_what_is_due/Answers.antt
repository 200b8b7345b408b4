use Rattle.felm_core.proofs.Heads.{edge_length, edge_first}
use Rattle.felm_core.proofs.laws.edges_hold_what_is_due.Goals as goal

pub returns : goal.returns
returns c = λ s c k port a graph sound h. (edge_length s c graph sound k port a h, edge_first s c graph sound k port a h)
