use Rattle.std.proofs.Common.{ap, subst}
use Rattle.felm_session.specs.SessionValue.{SessionValue}
use Rattle.felm_session.specs.Answers.{EnteredNext}
use Rattle.felm_session.proofs.Running.{entry_advances}
use Rattle.felm_session.proofs.Ending.{waiting_full}
use Rattle.felm_session.proofs.conclusion.enter_some.Goals as goal

pub returns-in-At : goal.returns-in-At
returns-in-At c =
    let h = subst (EnteredNext c.args.session.now c.enter_next.new.self) c.in-At.is c.in_ok-enter_next.ensures.ok in
    entry_advances c.args.session.now.engine c.enter_next.new.self.engine h.0 c.legal.ensures.graph c.legal.ensures.sound h.2.moved
    c.requires.none_out

pub returns-in-Full : goal.returns-in-Full
returns-in-Full c =
    let h = subst (EnteredNext c.args.session.now c.enter_next.new.self) c.in-Full.is c.in_ok-enter_next.ensures.ok in (
      ap (λ (s : SessionValue). s.engine) h.2,
      (
        c.requires.settled,
        waiting_full c.args.session.now.engine h.0.0 c.legal.ensures.graph c.legal.ensures.sound c.legal.ensures.legal c.requires.settled
            h.0.1.waits h.1,
      ),
    )
