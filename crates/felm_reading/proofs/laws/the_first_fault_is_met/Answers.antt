use Rattle.felm_reading.proofs.OneFault.{first_fault_met}
use Rattle.felm_reading.proofs.laws.the_first_fault_is_met.Goals as goal

pub returns : goal.returns
returns c = first_fault_met
