use Rattle.felm_meaning.proofs.Fitting.{turn_fits}
use Rattle.felm_meaning.proofs.laws.turns_fit.Goals as goal

pub returns : goal.returns
returns c = λ g b j k p node job old messages graph events. turn_fits g b j graph events k p node job old messages
