use Rattle.felm_reading.proofs.Longest.{whole_is_front}
use Rattle.felm_reading.proofs.laws.a_program_is_a_front.Goals as goal

pub returns : goal.returns
returns c = whole_is_front
