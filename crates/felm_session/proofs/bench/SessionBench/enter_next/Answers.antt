use Rattle.std.proofs.lemmas.Result.{IfOk-weaker}
use Rattle.felm_engine.specs.declared.answers.Fed.{Fed}
use Rattle.felm_session.specs.Answers.{EnteredAt}
use Rattle.felm_session.proofs.Entering.{waits_at, entered_next}
use Rattle.felm_session.proofs.Settling.{enter_result_settles}
use Rattle.felm_session.proofs.bench.SessionBench.enter_next.Goals as goal

pub enter-requires : goal.enter-requires
enter-requires c = waits_at c.args.self.now.engine c.in-Some.node c.legal.ensures.graph c.in-Some.ensures.waits

pub returns-in-Some-clause-ok : goal.returns-in-Some-clause-ok
returns-in-Some-clause-ok c =
    IfOk-weaker c.enter.result _ _
    (λ (answer : Fed) (h : EnteredAt c.args.self.now c.in-Some.node c.enter.new.self answer).
    entered_next c.args.self.now c.enter.new.self c.in-Some.node answer c.in-Some.ensures h)
    c.enter.ensures.ok

pub returns-in-Some-clause-settled : goal.returns-in-Some-clause-settled
returns-in-Some-clause-settled c =
    enter_result_settles c.args.self.now c.enter.new.self c.legal.ensures.graph c.legal.ensures.sound c.in-Some.node c.enter.result
    c.enter.ensures.ok c.enter.ensures.err
