use Rattle.felm_core.proofs.Scripted.{run_grows}
use Rattle.felm_core.proofs.laws.runs_grow.Goals as goal

pub returns : goal.returns
returns c = run_grows
