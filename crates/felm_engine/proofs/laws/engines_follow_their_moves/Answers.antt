use Rattle.std.proofs.Common.{subst, ◌∙◌}
use Rattle.felm_meaning.specs.declared.plan.Plan.{Plan}
use Rattle.felm_meaning.specs.Plans.{plan_of}
use Rattle.felm_core.specs.Positions.{Position}
use Rattle.felm_core.specs.Moves.{Runs, beginning}
use Rattle.felm_core.proofs.Scripted.{run_comes}
use Rattle.felm_engine.specs.Laws.{moves_in}
use Rattle.felm_engine.proofs.EngineLaws.{follows_runs}
use Rattle.felm_engine.proofs.laws.engines_follow_their_moves.Goals as goal

pub returns : goal.returns
returns c = λ plan first engine calls graph defaults same begins follows.
    let h = follows_runs first engine calls follows in
    let runs : Runs (plan_of plan) (beginning plan.graph) (moves_in calls) engine.position =
    subst (λ (at : Position). Runs (plan_of plan) at (moves_in calls) engine.position) begins
    (subst (λ (p : Plan). Runs (plan_of p) first.position (moves_in calls) engine.position) same h.1) in
    (h.0 ∙ same, runs, run_comes (plan_of plan) (moves_in calls) engine.position graph defaults runs)
