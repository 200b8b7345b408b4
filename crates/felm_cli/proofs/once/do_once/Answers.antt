use Rattle.felm_cli.specs.Outcomes.{text_put}
use Rattle.felm_cli.proofs.once.do_once.Goals as goal

pub returns-in-Ok-clause-outcome : goal.returns-in-Ok-clause-outcome
returns-in-Ok-clause-outcome g c = text_put _ _ c.in-Ok.ensures.text c.put_end.ensures.put
