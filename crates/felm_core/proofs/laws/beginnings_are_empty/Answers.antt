use Rattle.felm_core.proofs.Stays.{begin_edge, begin_kept, begin_waits, begin_shown, begin_settled, begin_owed}
use Rattle.felm_core.proofs.laws.beginnings_are_empty.Goals as goal

pub returns : goal.returns
returns c = λ s. record {
  edges = begin_edge s;
  kept = begin_kept s;
  waits = begin_waits s;
  shown = begin_shown s;
  settled = begin_settled s;
  owed = begin_owed s;
}
