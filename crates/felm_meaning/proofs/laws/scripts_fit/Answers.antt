use Rattle.felm_meaning.proofs.Fitting.{script_fits}
use Rattle.felm_meaning.proofs.laws.scripts_fit.Goals as goal

pub returns : goal.returns
returns c = script_fits
