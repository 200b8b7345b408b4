use Rattle.felm_core.proofs.Scripted.{run_comes}
use Rattle.felm_core.proofs.laws.runs_come_to_sound_positions.Goals as goal

pub returns : goal.returns
returns c = run_comes
