use Rattle.felm_core.proofs.Sent.{sent_put, sent_take, sent_edge}
use Rattle.felm_core.proofs.laws.sending_moves_edges.Goals as goal

pub returns : goal.returns
returns c = λ s c k m h. record {
  put = sent_put s c k m h.graph h.sound h.out h.message;
  taken = sent_take s c k m h.graph h.sound h.out h.message;
  other = sent_edge s c k m h.graph h.sound h.out h.message;
}
