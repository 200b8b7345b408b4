use Rattle.felm_lexer.proofs.Faults.{fault_stops}
use Rattle.felm_lexer.proofs.laws.text_before_a_fault_reads.Goals as goal

pub returns : goal.returns
returns c = record {
  within = λ text reading at reads is. (fault_stops text reading reads at is).within;
  before = λ text reading at reads is. let stops = fault_stops text reading reads at is in (stops.tokens, stops.before);
}
