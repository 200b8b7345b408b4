use Rattle.felm_meaning.specs.Presets.{IsPreset}
use Rattle.std.proofs.Common.{subst}
use Rattle.felm_plain.proofs.Runs.{ends_at_once}
use Rattle.felm_plain.proofs.run.plain_run.Goals as goal

pub returns-in-Over : goal.returns-in-Over
returns-in-Over c =
    let p = subst (IsPreset c.args.plan.now.graph c.args.plan.now.limits.turn_steps) c.in-Over.is c.in_ok-values.ensures in
    ends_at_once c.args.plan.now.graph c.args.plan.now.limits.turn_steps c.args.plan.now.script.items c.args.plan.now.limits.journal c.make.result c.in-Over.node
    p.0 p.1 p.2 c.make.ensures
