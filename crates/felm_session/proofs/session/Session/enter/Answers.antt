use Rattle.std.proofs.Common.{◌≡◌, ℕ, Option, Some, Bor, refl, sym, ap, ◌∙◌, subst, option_copied}
use Rattle.felm_term.specs.declared.value.Value.{Value}
use Rattle.felm_meaning.specs.Nodes.{inner}
use Rattle.felm_core.specs.Contents.{waiting_at}
use Rattle.felm_engine.specs.Answers.{planned}
use Rattle.felm_engine.specs.Bench.{fed_of}
use Rattle.felm_session.specs.SessionValue.{SessionValue}
use Rattle.felm_session.specs.Inside.{session_of}
use Rattle.felm_session.specs.Answers.{NoneWaits, NeverFull}
use Rattle.felm_session.proofs.Stepping.{in_step_legal}
use Rattle.felm_session.proofs.Entering.{none_first, waiting_may_come, entered_in_step, entered_at}
use Rattle.felm_session.proofs.Fullness.{enter_not_full}
use Rattle.felm_session.proofs.session.Session.enter.Goals as goal

pub returns-in_default-clause-ok : goal.returns-in_default-clause-ok
returns-in_default-clause-ok c = (
  subst (λ (s : SessionValue). NoneWaits s.engine c.args.node) c.self.view_is
      (none_first (waiting_at (planned c.self.inside.engine) c.self.inside.engine.position c.args.node)
      (sym c.waiting_first.ensures ∙ ap (λ (o : Option (Bor Value)). option_copied o) c.in_default.is)),
  refl,
)

pub dispatch-requires : goal.dispatch-requires
dispatch-requires c =
    let first = sym c.in-Some.ensures ∙ ap (λ (v : Value). Some v) (sym c.in_ok-value.ensures.value) in
    waiting_may_come c.self.inside.engine c.args.node c.in_ok-value.value c.sound.ensures.graph c.sound.ensures.sound
    (in_step_legal c.self.inside.engine c.self.inside.cursor c.sound.ensures.sound c.self.invariant) first

pub invariant_of-self-2 : goal.invariant_of-self-2
invariant_of-self-2 c =
    let w = subst (λ (s : SessionValue). (x : ℕ) × (inner s.engine.plan.graph.nodes c.args.node ≡ Some x)) (sym c.self.view_is) c.requires in
    entered_in_step c.self.inside.engine c.dispatch.new.self c.self.inside.cursor c.args.node c.in_ok-value.value w.0 c.in_ok-entered.entered
    c.sound.ensures.graph c.self.invariant w.1 c.in_ok-entered.ensures.ok

pub returns-clause-never_full : goal.returns-clause-never_full
returns-clause-never_full c =
    let w = subst (λ (s : SessionValue). (x : ℕ) × (inner s.engine.plan.graph.nodes c.args.node ≡ Some x)) (sym c.self.view_is) c.requires in
    let first = sym c.in-Some.ensures ∙ ap (λ (v : Value). Some v) (sym c.in_ok-value.ensures.value) in
    let old = session_of c.self.inside in
    let new : SessionValue = record { engine = c.dispatch.new.self; cursor = c.self.inside.cursor } in
    subst (λ (s : SessionValue). NeverFull (planned s.engine) c.from.result) c.self.view_is
    (λ ample full. enter_not_full old c.sound.ensures.graph c.sound.ensures.sound
    (in_step_legal c.self.inside.engine c.self.inside.cursor c.sound.ensures.sound c.self.invariant) c.self.invariant ample c.args.node new
    (fed_of c.in_ok-entered.entered)
    (entered_at old new c.args.node c.in_ok-value.value w.0 c.in_ok-entered.entered w.1 first refl c.in_ok-entered.ensures.ok)
    (sym c.from.ensures ∙ full))
