use Rattle.felm_core.proofs.Runs.{beginning_sound}
use Rattle.felm_core.proofs.laws.beginnings_are_sound.Goals as goal

pub returns : goal.returns
returns c = beginning_sound
