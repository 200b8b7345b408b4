use Rattle.felm_script.proofs.Fits.{fit}
use Rattle.felm_script.proofs.laws.read_events_fit.Goals as goal

pub returns : goal.returns
returns c = fit
