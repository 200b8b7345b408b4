use Rattle.felm_core.proofs.Sticks.{settled_room}
use Rattle.felm_engine.specs.Answers.{planned}
use Rattle.felm_engine.proofs.laws.settled_engines_have_room.Goals as goal

pub returns : goal.returns
returns c = λ old new e graph sound settled lacks.
    lacks.1.2 (settled_room (planned old) old.position graph sound old.plan.limits.edge_in_range.0 settled lacks.1.0 lacks.1.1)
