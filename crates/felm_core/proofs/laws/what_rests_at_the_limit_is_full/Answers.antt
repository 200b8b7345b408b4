use Rattle.felm_core.proofs.Ends.{rests_full}
use Rattle.felm_core.proofs.laws.what_rests_at_the_limit_is_full.Goals as goal

pub returns : goal.returns
returns c = λ s c graph sound legal settled full left. rests_full s c graph sound legal settled full left
