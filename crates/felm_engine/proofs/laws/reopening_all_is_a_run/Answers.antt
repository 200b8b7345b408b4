use Rattle.felm_engine.specs.Answers.{planned}
use Rattle.felm_engine.proofs.EngineLaws.{reopen_all_run}
use Rattle.felm_engine.proofs.laws.reopening_all_is_a_run.Goals as goal

pub returns : goal.returns
returns c = λ engine. reopen_all_run (planned engine) engine.position
