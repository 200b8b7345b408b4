use Rattle.std.proofs.Common.{subst}
use Rattle.felm_engine.specs.Answers.{ClaimedNextAs}
use Rattle.felm_session.proofs.Running.{turn_advances}
use Rattle.felm_session.proofs.conclusion.take_turn.Goals as goal

pub returns-in_ok-deposit-in-Got : goal.returns-in_ok-deposit-in-Got
returns-in_ok-deposit-in-Got c =
    let old = c.args.session.now.engine in
    let mid = c.claim_next.new.self.engine in
    let h = subst (ClaimedNextAs old mid) c.in-Got.is c.in_ok-claim_next.ensures.ok in
    turn_advances old mid c.deposit.new.self.engine c.in-Got.turn c.in_ok-done-in-Got.done c.in_ok-deposit-in-Got.field-0
    c.legal.ensures.graph c.legal.ensures.sound c.requires h.1.0 h.1.1 c.in_ok-done-in-Got.ensures c.in_ok-deposit-in-Got.ensures.ok
