use Rattle.felm_meaning.proofs.Causes.{causes}
use Rattle.felm_engine.proofs.laws.journals_have_causes.Goals as goal

pub returns : goal.returns
returns c = λ engine sound. causes engine.plan.graph engine.plan.limits.turn_steps engine.position.journal sound.caused
