use Rattle.felm_core.proofs.Ends.{rests_complete}
use Rattle.felm_core.proofs.laws.what_rests_is_complete.Goals as goal

pub returns : goal.returns
returns c = λ s c graph sound legal settled none used. rests_complete s c graph sound legal settled none used
