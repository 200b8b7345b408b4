use Rattle.felm_core.proofs.Ends.{stop_is_over}
use Rattle.felm_core.proofs.laws.stops_are_over_budget.Goals as goal

pub returns : goal.returns
returns c = λ s c t graph sound h. stop_is_over s c graph sound t h
