use Rattle.felm_core.proofs.Entered.{next_put, next_edge}
use Rattle.felm_core.proofs.Entered.{kept_source}
use Rattle.felm_core.proofs.laws.events_move_edges.Goals as goal

pub returns : goal.returns
returns c = λ s c e h. record {
  put = λ k r port m reads source sends. next_put s c e h.graph h.sound h.source k r port m reads source (kept_source s c e h.sound k source m sends);
  other = next_edge s c e h.graph h.sound h.source;
}
