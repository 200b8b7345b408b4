use Rattle.felm_core.proofs.Scripted.{run_feeds}
use Rattle.felm_core.proofs.laws.runs_have_what_they_are_fed.Goals as goal

pub returns : goal.returns
returns c = run_feeds
