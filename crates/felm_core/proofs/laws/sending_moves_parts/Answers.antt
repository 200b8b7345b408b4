use Rattle.felm_core.proofs.Sent.{sent_kept, sent_kept-other, sent_waits, sent_waits-other, sent_shown, sent_shown-other}
use Rattle.felm_core.proofs.laws.sending_moves_parts.Goals as goal

pub returns : goal.returns
returns c = λ s c k m h. record {
  kept = sent_kept s c k m h.graph h.sound h.out h.message;
  kept_other = sent_kept-other s c k m h.graph h.sound h.out h.message;
  waits = sent_waits s c k m h.graph h.sound h.out h.message;
  waits_other = sent_waits-other s c k m h.graph h.sound h.out h.message;
  shown = sent_shown s c k m h.graph h.sound h.out h.message;
  shown_other = sent_shown-other s c k m h.graph h.sound h.out h.message;
}
