use Rattle.felm_meaning.proofs.Causes.{entered_within}
use Rattle.felm_meaning.proofs.laws.events_follow_changes.Goals as goal

pub returns : goal.returns
returns c = entered_within
