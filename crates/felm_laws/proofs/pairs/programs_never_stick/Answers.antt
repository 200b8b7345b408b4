use Rattle.felm_laws.proofs.SharedSignals.{program_never_stuck}
use Rattle.felm_laws.proofs.pairs.programs_never_stick.Goals as goal

pub returns : goal.returns
returns c = program_never_stuck
