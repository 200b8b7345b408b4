use Rattle.std.proofs.Common.{◌≡◌, ◌+◌, Some, refl, sym, ◌∙◌, subst, arith}
use Rattle.std.specs.List.{slice_get}
use Rattle.std.proofs.lemmas.Option.{slice_get_within}
use Rattle.felm_core.specs.Moves.{Feed}
use Rattle.felm_engine.specs.Answers.{planned, EnteredAs}
use Rattle.felm_engine.specs.declared.answers.Fed.TheVariants as fed
use Rattle.felm_session.specs.SessionValue.{SessionValue, script_of, settled_in}
use Rattle.felm_session.specs.Inside.{session_of}
use Rattle.felm_session.specs.Answers.{IsLeft, IsBlocked, IsAtLimit, IsFed, NeverFull}
use Rattle.felm_session.proofs.Stepping.{fed_in_step, in_step_legal, cursor_fits}
use Rattle.felm_session.proofs.Entering.{script_may_come, fed_at, same_session}
use Rattle.felm_session.proofs.Fullness.{feed_not_full}
use Rattle.felm_session.proofs.Settling.{stays_settled}
use Rattle.felm_session.proofs.bench.SessionBench.feed.Goals as goal

pub dispatch-requires : goal.dispatch-requires
dispatch-requires c =
    let next = subst (λ (s : SessionValue). slice_get (script_of s) s.cursor ≡ Some c.in-Some.event) (sym c.self.view_is)
    (sym c.in_ok-event.ensures ∙ c.in-Some.is) in
    script_may_come c.self.inside.engine c.self.inside.cursor c.in-Some.event c.sound.ensures.graph next

pub overflow_add-self : goal.overflow_add-self
overflow_add-self c =
    omega (arith, cursor_fits c.self.inside.engine c.self.inside.cursor c.sound.ensures.sound c.self.invariant)

pub invariant_of-self-in-At : goal.invariant_of-self-in-At
invariant_of-self-in-At c =
    let next = subst (λ (s : SessionValue). slice_get (script_of s) s.cursor ≡ Some c.in-Some.event) (sym c.self.view_is)
    (sym c.in_ok-event.ensures ∙ c.in-Some.is) in
    let h = subst (EnteredAs c.self.inside.engine c.in-Some.event c.dispatch.new.self) c.in-At.is c.in_ok-position.ensures.ok in
    fed_in_step c.self.inside.engine c.dispatch.new.self c.self.inside.cursor c.in-Some.event c.sound.ensures.graph c.self.invariant next
    (fed_at c.self.inside.engine c.dispatch.new.self c.self.inside.cursor c.in-Some.event c.in-At.position c.sound.ensures.graph next h).1

pub returns-in-At-clause-ok : goal.returns-in-At-clause-ok
returns-in-At-clause-ok c =
    let next = subst (λ (s : SessionValue). slice_get (script_of s) s.cursor ≡ Some c.in-Some.event) (sym c.self.view_is)
    (sym c.in_ok-event.ensures ∙ c.in-Some.is) in
    let h = subst (EnteredAs c.self.inside.engine c.in-Some.event c.dispatch.new.self) c.in-At.is c.in_ok-position.ensures.ok in
    let f = fed_at c.self.inside.engine c.dispatch.new.self c.self.inside.cursor c.in-Some.event c.in-At.position c.sound.ensures.graph next h in
    let new : SessionValue = record { engine = c.dispatch.new.self; cursor = c.self.inside.cursor + 1 } in
    subst (λ (s : SessionValue). IsFed s new c.in-At.position) c.self.view_is
    (record { event = c.in-Some.event; next = next; position_is = f.0; moved = f.1; cursor = refl })

pub returns-in-At-clause-settled : goal.returns-in-At-clause-settled
returns-in-At-clause-settled c =
    let next = subst (λ (s : SessionValue). slice_get (script_of s) s.cursor ≡ Some c.in-Some.event) (sym c.self.view_is)
    (sym c.in_ok-event.ensures ∙ c.in-Some.is) in
    let h = subst (EnteredAs c.self.inside.engine c.in-Some.event c.dispatch.new.self) c.in-At.is c.in_ok-position.ensures.ok in
    let f = fed_at c.self.inside.engine c.dispatch.new.self c.self.inside.cursor c.in-Some.event c.in-At.position c.sound.ensures.graph next h in
    let new : SessionValue = record { engine = c.dispatch.new.self; cursor = c.self.inside.cursor + 1 } in
    subst (λ (s : SessionValue). settled_in new ≡ settled_in s) c.self.view_is
    (stays_settled c.self.inside.engine c.dispatch.new.self (Feed c.in-Some.event.source c.in-Some.event.value) c.sound.ensures.graph c.sound.ensures.sound refl f.1)

pub returns-in-NoRoom-clause-ok : goal.returns-in-NoRoom-clause-ok
returns-in-NoRoom-clause-ok c =
    let next = subst (λ (s : SessionValue). slice_get (script_of s) s.cursor ≡ Some c.in-Some.event) (sym c.self.view_is)
    (sym c.in_ok-event.ensures ∙ c.in-Some.is) in
    let h = subst (EnteredAs c.self.inside.engine c.in-Some.event c.dispatch.new.self) c.in-NoRoom.is c.in_ok-position.ensures.ok in
    let new : SessionValue = record { engine = c.dispatch.new.self; cursor = c.self.inside.cursor } in
    subst (λ (s : SessionValue). IsLeft s × IsBlocked s.engine × (new ≡ s)) c.self.view_is (
      slice_get_within c.self.inside.engine.plan.script.items c.self.inside.cursor c.in-Some.event next,
      (h.0, h.1),
      same_session (session_of c.self.inside) new h.2 refl,
    )

pub returns-in-Full-clause-ok : goal.returns-in-Full-clause-ok
returns-in-Full-clause-ok c =
    let next = subst (λ (s : SessionValue). slice_get (script_of s) s.cursor ≡ Some c.in-Some.event) (sym c.self.view_is)
    (sym c.in_ok-event.ensures ∙ c.in-Some.is) in
    let h = subst (EnteredAs c.self.inside.engine c.in-Some.event c.dispatch.new.self) c.in-Full.is c.in_ok-position.ensures.ok in
    let new : SessionValue = record { engine = c.dispatch.new.self; cursor = c.self.inside.cursor } in
    subst (λ (s : SessionValue). IsLeft s × IsAtLimit s.engine × (new ≡ s)) c.self.view_is (
      slice_get_within c.self.inside.engine.plan.script.items c.self.inside.cursor c.in-Some.event next,
      h.0,
      same_session (session_of c.self.inside) new h.1 refl,
    )

pub returns-in-Full-clause-never_full : goal.returns-in-Full-clause-never_full
returns-in-Full-clause-never_full c =
    let next = subst (λ (s : SessionValue). slice_get (script_of s) s.cursor ≡ Some c.in-Some.event) (sym c.self.view_is)
    (sym c.in_ok-event.ensures ∙ c.in-Some.is) in
    let h = subst (EnteredAs c.self.inside.engine c.in-Some.event c.dispatch.new.self) c.in-Full.is c.in_ok-position.ensures.ok in
    let old = session_of c.self.inside in
    let new : SessionValue = record { engine = c.dispatch.new.self; cursor = c.self.inside.cursor } in
    subst (λ (s : SessionValue). NeverFull (planned s.engine) fed.Full) c.self.view_is
    (λ ample same. feed_not_full old c.sound.ensures.graph c.sound.ensures.sound
    (in_step_legal c.self.inside.engine c.self.inside.cursor c.sound.ensures.sound c.self.invariant) c.self.invariant ample new fed.Full
    (slice_get_within c.self.inside.engine.plan.script.items c.self.inside.cursor c.in-Some.event next, h.0, same_session old new h.1 refl) same)
