use Rattle.felm_core.proofs.Runs.{run_sound}
use Rattle.felm_core.proofs.laws.runs_stay_sound.Goals as goal

pub returns : goal.returns
returns c = λ s c moves d graph sound h. run_sound s graph c moves d sound h
