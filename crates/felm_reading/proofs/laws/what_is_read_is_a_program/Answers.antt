use Rattle.felm_reading.proofs.Complete.{program_sound}
use Rattle.felm_reading.proofs.laws.what_is_read_is_a_program.Goals as goal

pub returns : goal.returns
returns c = program_sound
