use Rattle.felm_reading.proofs.OneFault.{one_first_fault}
use Rattle.felm_reading.proofs.laws.one_first_fault.Goals as goal

pub returns : goal.returns
returns c = one_first_fault
