use Rattle.felm_reading.proofs.Complete.{program_passes}
use Rattle.felm_reading.proofs.laws.the_tokens_of_a_program_pass.Goals as goal

pub returns : goal.returns
returns c = program_passes
