use Rattle.std.proofs.Common.{ap, length}
use Rattle.felm_meaning.proofs.Fitting.{script_fits}
use Rattle.felm_plain.proofs.Runs.{begins}
use Rattle.felm_plain.proofs.run.Run.begin.Goals as goal

pub returns : goal.returns
returns c = (
  rw (c.make.ensures, c.make-3.ensures) (begins c.args.plan.now.graph c.args.plan.now.limits.turn_steps c.args.plan.now.script.items c.args.plan.now.limits.journal
      c.args.defaults.now c.in_ok-of_defaults.field-0 c.in_ok-make.field-0 (length c.nodes-count.result.now) c.nodes-count.ensures.graph
      (script_fits c.args.plan.now.graph c.args.plan.now.script.items c.nodes-count.ensures.graph c.args.plan.now.events_fit) c.requires
      c.in_ok-of_defaults.ensures (ap length c.nodes-count.ensures.nodes) c.in_ok-make.ensures),
  c.make.ensures,
)
