use Rattle.felm_script.proofs.Refusals.{first_refusal}
use Rattle.felm_script.proofs.laws.faults_are_of_the_first_refused_line.Goals as goal

pub returns : goal.returns
returns c = first_refusal
