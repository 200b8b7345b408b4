use Rattle.std.proofs.Common.{ap, subst}
use Rattle.felm_session.specs.SessionValue.{SessionValue}
use Rattle.felm_session.specs.Answers.{FedAs}
use Rattle.felm_session.proofs.Running.{feed_advances}
use Rattle.felm_session.proofs.Ending.{session_complete, left_full}
use Rattle.felm_session.proofs.conclusion.feed_next.Goals as goal

pub returns-in-At : goal.returns-in-At
returns-in-At c =
    let h = subst (FedAs c.args.session.now c.feed.new.self) c.in-At.is c.in_ok-feed.ensures.ok in
    feed_advances c.args.session.now.engine c.feed.new.self.engine h.event c.legal.ensures.graph c.legal.ensures.sound h.moved c.requires.none_out

pub returns-in-NoneLeft : goal.returns-in-NoneLeft
returns-in-NoneLeft c =
    let h = subst (FedAs c.args.session.now c.feed.new.self) c.in-NoneLeft.is c.in_ok-feed.ensures.ok in (
      ap (λ (s : SessionValue). s.engine) h.1,
      (
        c.requires.settled,
        session_complete c.args.session.now c.legal.ensures.graph c.legal.ensures.sound c.legal.ensures.legal c.legal.ensures.fed
            c.requires.settled c.requires.none_waits h.0,
      ),
    )

pub returns-in-Full : goal.returns-in-Full
returns-in-Full c =
    let h = subst (FedAs c.args.session.now c.feed.new.self) c.in-Full.is c.in_ok-feed.ensures.ok in (
      ap (λ (s : SessionValue). s.engine) h.2,
      (
        c.requires.settled,
        left_full c.args.session.now c.legal.ensures.graph c.legal.ensures.sound c.legal.ensures.legal c.legal.ensures.fed
            c.requires.settled h.0 h.1,
      ),
    )
