use Rattle.felm_core.proofs.Entered.{next_settled, next_owed, next_owed-source}
use Rattle.felm_core.proofs.laws.events_count.Goals as goal

pub returns : goal.returns
returns c = λ s c e h. record {
  settled = next_settled s c e h.graph h.sound h.source;
  owed = next_owed s c e h.graph h.sound h.source;
  owed_source = next_owed-source s c e h.graph h.sound h.source;
}
