use Rattle.std.proofs.Common.{◌≡◌, ◌∙◌, ap, sym, refl, List, ◌+◌, Some, None}
use Rattle.std.specs.List.{slice_get}
use Rattle.felm_term.specs.declared.event.Event.{Event}
use Rattle.felm_term.specs.declared.value.Value.{Value}
use Rattle.felm_plain.proofs.Runs.{waiting_comes, scripted_comes, takes_waiting, takes_scripted}
use Rattle.felm_plain.proofs.run.Run.take_next.Goals as goal

pub returns-in-Some : goal.returns-in-Some
returns-in-Some c = (
  takes_waiting c.requires c.take_first.new.self c.in-Some.event c.in-Some.ensures.0 c.in-Some.ensures.1,
  waiting_comes c.requires c.in-Some.event c.in-Some.ensures.0,
  refl,
)

pub returns-in-Some-2 : goal.returns-in-Some-2
returns-in-Some-2 c =
    let here : slice_get c.args.plan.now.script.items c.args.self.now.cursor ≡ Some c.in-Some-2.event =
    sym (ap (λ (es : List Event). slice_get es c.args.self.now.cursor) c.as_slice.ensures) ∙ (sym c.in_ok-event.ensures ∙ c.in-Some-2.is) in (
      takes_scripted c.requires c.take_first.new.self c.in-Some-2.event (c.args.self.now.cursor + 1) c.in_default.ensures.1 here refl,
      scripted_comes c.requires (Some c.in-Some-2.event) c.in_default.ensures.0 here,
      refl,
    )

pub returns-in-None : goal.returns-in-None
returns-in-None c =
    let here : slice_get c.args.plan.now.script.items c.args.self.now.cursor ≡ None =
    sym (ap (λ (es : List Event). slice_get es c.args.self.now.cursor) c.as_slice.ensures) ∙ (sym c.in_ok-event.ensures ∙ c.in-None.is) in
    let stays = ap (λ (queues : List (List Value)). record c.args.self.now { queues = queues }) c.in_default.ensures.1 in
    (scripted_comes c.requires None c.in_default.ensures.0 here, stays)
