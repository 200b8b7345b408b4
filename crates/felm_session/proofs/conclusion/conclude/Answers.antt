use Rattle.std.proofs.Common.{subst}
use Rattle.felm_session.specs.Answers.{BegunAs}
use Rattle.felm_session.proofs.Ending.{stopped_at_once, stays_put}
use Rattle.felm_session.proofs.conclusion.conclude.Goals as goal

pub returns-clause-end : goal.returns-clause-end
returns-clause-end c =
    let h = subst (BegunAs c.args.plan) c.in-Over.is c.in_ok-session.ensures in
    stopped_at_once c.args.plan c.make.result c.in-Over.node c.make.ensures h

pub returns-clause-anew : goal.returns-clause-anew
returns-clause-anew c = λ other. stays_put c.args.plan c.make.result c.in-Over.node c.make.ensures
