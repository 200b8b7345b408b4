use Rattle.std.proofs.Common.{refl, sym, ap, ◌∙◌, subst}
use Rattle.felm_meaning.specs.declared.plan.Plan.{Plan}
use Rattle.felm_meaning.specs.Presets.{IsPreset}
use Rattle.felm_core.specs.Moves.{beginning}
use Rattle.felm_engine.proofs.Beginning.{defaults_there}
use Rattle.felm_session.proofs.Stepping.{begun_in_step}
use Rattle.felm_session.proofs.session.Session.begin.Goals as goal

pub invariant_of-result : goal.invariant_of-result
invariant_of-result c =
    let e = c.in_ok-engine-in-All.ensures in
    begun_in_step c.in_ok-engine-in-All.engine (e.position ∙ ap (λ (p : Plan). beginning p.graph) (sym e.plan))

pub returns-in_ok-engine-in-All : goal.returns-in_ok-engine-in-All
returns-in_ok-engine-in-All c =
    let e = c.in_ok-engine-in-All.ensures in
    let h = subst (IsPreset c.args.plan.graph c.args.plan.limits.turn_steps) c.in-All.is c.in_ok-values.ensures in
    record {
      plan_is = e.plan;
      position = e.position;
      cursor = refl;
      defaults = defaults_there c.args.plan.graph c.args.plan.limits.turn_steps c.in-All.values.items h.0 h.1;
    }
