use Rattle.felm_core.proofs.Scripted.{run_fits}
use Rattle.felm_core.proofs.laws.runs_keep_types.Goals as goal

pub returns : goal.returns
returns c = run_fits
