use Rattle.felm_meaning.specs.Plans.{plan_of}
use Rattle.felm_cli.proofs.RunEnds.{complete_printable, full_printable}
use Rattle.felm_cli.proofs.ended.text_of_end.Goals as goal

pub text_of_history-requires : goal.text_of_history-requires
text_of_history-requires c =
    complete_printable (plan_of c.args.plan.now) c.keeps.ensures.graph c.in-Complete.history (rw c.in-Complete.is at c.requires)

pub text_of_history-requires-in-Full : goal.text_of_history-requires-in-Full
text_of_history-requires-in-Full c =
    full_printable (plan_of c.args.plan.now) c.keeps.ensures.graph c.in-Full.history (rw c.in-Full.is at c.requires)
