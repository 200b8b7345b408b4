use Rattle.std.proofs.Common.{◌-◌, refl, arith}
use Rattle.felm_session.proofs.Running.{reaches_reopened, reaches_then}
use Rattle.felm_session.proofs.Ending.{settles_on, gone_on}
use Rattle.felm_session.proofs.conclusion.finish.Goals as goal

pub overflow_sub-own_turns : goal.overflow_sub-own_turns
overflow_sub-own_turns c =
    let start = c.args.session.engine in
    let mid = c.reopen_all.new.self.engine in
    let last = c.go_on.new.session.engine in
    let way = reaches_then start mid last (reaches_reopened start mid c.reopen_all.ensures.plan c.reopen_all.ensures.position)
    c.in_ok-rest.ensures.reaches in
    omega (
      arith,
      c.turns_settled-before.ensures.count,
      c.turns_settled.ensures.count,
      settles_on start last c.legal.ensures.graph c.legal.ensures.sound way,
    )

pub returns-clause-goes_on : goal.returns-clause-goes_on
returns-clause-goes_on c =
    let start = c.args.session.engine in
    let mid = c.reopen_all.new.self.engine in
    let last = c.go_on.new.session.engine in
    let way = reaches_then start mid last (reaches_reopened start mid c.reopen_all.ensures.plan c.reopen_all.ensures.position)
    c.in_ok-rest.ensures.reaches in
    gone_on start last c.turns_settled-before.result c.turns_settled.result (c.turns_settled.result - c.turns_settled-before.result)
    c.in_ok-end.end c.legal.ensures.graph c.legal.ensures.sound way c.in_ok-end.ensures.journal c.in_ok-end.ensures.rests
    c.turns_settled-before.ensures.count c.turns_settled.ensures.count refl
