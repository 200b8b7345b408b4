use Rattle.felm_reading.proofs.Whole.{one_program}
use Rattle.felm_reading.proofs.laws.one_program.Goals as goal

pub returns : goal.returns
returns c = one_program
