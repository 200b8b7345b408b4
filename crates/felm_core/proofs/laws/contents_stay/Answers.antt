use Rattle.felm_core.proofs.Stays.{stay_edge, stay_kept, stay_waits, stay_shown, stay_settled, stay_owed}
use Rattle.felm_core.proofs.laws.contents_stay.Goals as goal

pub returns : goal.returns
returns c = λ s c d journal done. record {
  edges = stay_edge s c d journal done;
  kept = stay_kept s c d journal done;
  waits = stay_waits s c d journal done;
  shown = stay_shown s c d journal done;
  settled = stay_settled s c d journal done;
  owed = stay_owed s c d journal done;
}
