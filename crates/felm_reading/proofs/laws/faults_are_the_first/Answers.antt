use Rattle.felm_reading.proofs.Exact.{first_fault}
use Rattle.felm_reading.proofs.laws.faults_are_the_first.Goals as goal

pub returns : goal.returns
returns c = first_fault
