use Rattle.felm_reading.proofs.Complete.{program_complete}
use Rattle.felm_reading.proofs.laws.every_program_is_read.Goals as goal

pub returns : goal.returns
returns c = program_complete
