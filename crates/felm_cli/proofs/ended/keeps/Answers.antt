use Rattle.felm_meaning.proofs.Fitting.{script_fits}
use Rattle.felm_cli.proofs.ended.keeps.Goals as goal

pub returns-clause-named : goal.returns-clause-named
returns-clause-named c =
    let plan = c.args.plan.now in (script_fits plan.graph plan.script.items c.nodes.ensures.graph plan.events_fit).0
