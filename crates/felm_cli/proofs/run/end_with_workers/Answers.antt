use Rattle.std.proofs.Common.{sym, ap, ◌∙◌, subst}
use Rattle.felm_meaning.specs.declared.plan.Plan.{Plan}
use Rattle.felm_meaning.specs.Plans.{plan_of}
use Rattle.felm_meaning.specs.Presets.{IsPreset}
use Rattle.felm_meaning.specs.declared.preset.Preset.TheVariants as preset
use Rattle.felm_meaning.specs.Histories.{IsStoppedAt}
use Rattle.felm_meaning.specs.PlanValue.{PlanValue}
use Rattle.felm_core.specs.Contents.{settled_at}
use Rattle.felm_core.proofs.Stays.{begin_settled}
use Rattle.felm_session.specs.Answers.{BegunAs}
use Rattle.felm_session.proofs.Ending.{stopped_at_once, same_plans}
use Rattle.felm_cli.proofs.run.end_with_workers.Goals as goal

pub run_bench-requires-clause-fresh : goal.run_bench-requires-clause-fresh
run_bench-requires-clause-fresh g c κs within =
    let plan = c.in_ok-copy.field-0 in
    let engine = c.in-Ready.session.engine in
    let begun = subst (BegunAs plan) c.in-Ready.is c.in_ok-session.ensures in
    ap (λ (p : Plan). settled_at (plan_of p) engine.position) begun.plan_is
    ∙ ap (settled_at (plan_of plan)) begun.position
    ∙ begin_settled (plan_of plan)

pub returns-in-Over : goal.returns-in-Over
returns-in-Over g c =
    let plan = c.in_ok-copy.field-0 in
    let node = c.in-Over.node in
    let over = subst (BegunAs plan) c.in-Over.is c.in_ok-session.ensures in
    subst (λ (p : PlanValue). IsStoppedAt p c.make.result.items node 0) (sym (same_plans c.args.plan.now plan c.in_ok-copy.ensures))
    (stopped_at_once plan c.make.result node c.make.ensures over)
