use Rattle.felm_meaning.specs.Plans.{plan_of}
use Rattle.felm_cli.proofs.RunEnds.{plain_concluded}
use Rattle.felm_cli.proofs.ended.run_plan.Goals as goal

pub text_of_end-requires : goal.text_of_end-requires
text_of_end-requires c =
    plain_concluded (plan_of c.args.plan.now) c.keeps.ensures.graph c.keeps.ensures.named c.in_ok-end.end c.in_ok-end.ensures
