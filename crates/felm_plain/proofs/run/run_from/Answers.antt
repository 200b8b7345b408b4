use Rattle.std.proofs.Common.{◌∙◌, ap, sym, refl, subst, arith, Some}
use Rattle.std.proofs.lemmas.Bool.{false≢true}
use Rattle.felm_plain.specs.Runs.{IsBetween, next_in, TakesNext, Enters}
use Rattle.felm_plain.proofs.Runs.{some_event, no_event, ends_complete, ends_stopped, ends_full}
use Rattle.felm_plain.proofs.run.run_from.Goals as goal

pub returns-in_default : goal.returns-in_default
returns-in_default c =
    let t = subst (TakesNext c.args.plan.now c.loop-entered.run c.take_next.new.self) c.in_default.is c.in_ok-event.ensures in
    let between = subst (IsBetween c.args.plan.now) (sym t.1) c.loop-entered.invariant.between in
    ends_complete between
    c.history.result (c.loop-entered.invariant.default ∙ ap (λ v. Some v) (sym c.history.ensures.default)) c.history.ensures.journal c.history.ensures.outputs t.0

pub returns-in-Some-2 : goal.returns-in-Some-2
returns-in-Some-2 c =
    let s = subst (Enters c.args.plan.now c.take_next.new.self c.in-Some.event c.enter.new.self) c.in-Some-2.is c.in_ok-node.ensures in
    ends_stopped c.args.plan.now.graph c.args.plan.now.limits.turn_steps c.args.plan.now.script.items c.args.plan.now.limits.journal
    c.enter.new.self.journal.items c.enter.new.self.journal c.in-Some-2.node c.len.result s.1 s.2 refl c.len.ensures

pub returns-then-has_next : goal.returns-then-has_next
returns-then-has_next c =
    let n = some_event (next_in c.args.plan.now c.loop-entered.run) (c.has_next.ensures.0 c.if-has_next.true) in
    ends_full
    c.loop-entered.invariant.between c.history-then-has_next.result
    (c.loop-entered.invariant.default ∙ ap (λ v. Some v) (sym c.history-then-has_next.ensures.default)) c.history-then-has_next.ensures.journal
    c.history-then-has_next.ensures.outputs n.0 (omega (arith, c.loop-entered.invariant.count)) n.1

pub returns-else-has_next : goal.returns-else-has_next
returns-else-has_next c =
    let n = no_event (next_in c.args.plan.now c.loop-entered.run) (λ h. false≢true (sym c.if-has_next.false ∙ c.has_next.ensures.1 h)) in
    ends_complete
    c.loop-entered.invariant.between c.history-else-has_next.result
    (c.loop-entered.invariant.default ∙ ap (λ v. Some v) (sym c.history-else-has_next.ensures.default)) c.history-else-has_next.ensures.journal
    c.history-else-has_next.ensures.outputs n
