use Rattle.felm_core.proofs.Sent.{sent_settled, sent_owed, sent_owed-other}
use Rattle.felm_core.proofs.laws.sending_counts.Goals as goal

pub returns : goal.returns
returns c = λ s c k m h. record {
  settled = sent_settled s c k m h.graph h.sound h.out h.message;
  owed = sent_owed s c k m h.graph h.sound h.out h.message;
  owed_other = sent_owed-other s c k m h.graph h.sound h.out h.message;
}
