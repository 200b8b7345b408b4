use Rattle.felm_core.proofs.Sticks.{never_sticks}
use Rattle.felm_core.proofs.laws.never_sticks.Goals as goal

pub returns : goal.returns
returns c = λ s c graph sound one no_out no_stop. never_sticks s c graph sound one no_out no_stop
