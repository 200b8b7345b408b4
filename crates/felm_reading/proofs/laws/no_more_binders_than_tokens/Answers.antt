use Rattle.felm_reading.proofs.Sizes.{program_size}
use Rattle.felm_reading.proofs.laws.no_more_binders_than_tokens.Goals as goal

pub returns : goal.returns
returns c = program_size
