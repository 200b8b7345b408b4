use Rattle.felm_core.proofs.Runs.{move_sound}
use Rattle.felm_core.proofs.laws.moves_stay_sound.Goals as goal

pub returns : goal.returns
returns c = λ s c m d graph sound h. move_sound s graph c m d sound h
