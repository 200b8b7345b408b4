use Rattle.std.proofs.Common.{subst}
use Rattle.felm_session.specs.Concluding.{StepsAs}
use Rattle.felm_session.proofs.Running.{reaches_then}
use Rattle.felm_session.proofs.conclusion.go_on.Goals as goal

pub steps-preserved : goal.steps-preserved
steps-preserved c =
    let h = subst (StepsAs c.steps.session.engine c.step.new.session.engine) c.in_default.is c.in_ok-rest.ensures in
    record {
      reaches = reaches_then c.args.session.now.engine c.steps.session.engine c.step.new.session.engine c.steps.invariant.reaches h.reaches;
      none_out = h.none_out;
    }
