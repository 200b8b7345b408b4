use Rattle.std.proofs.Common.{◌≡◌, ◌∙◌, ◌<◌, ap, sym, subst, refl, length, get_or}
use Rattle.std.specs.Prelude.{IfOk}
use Rattle.std.proofs.lemmas.Option.{slice_get-get_or, get_or_from_slice_get, slice_get_read}
use Rattle.std.proofs.lemmas.List.Elements.{All-get_or}
use Rattle.felm_term.specs.CoreTerm.{App}
use Rattle.felm_term.specs.Values.{term_of}
use Rattle.felm_term.specs.declared.value.Value.TheVariants as value
use Rattle.felm_meaning.specs.Values.{values_at}
use Rattle.felm_meaning.proofs.Calls.{argument_more, arguments_all, application_typed, call_is}
use Rattle.felm_meaning.proofs.call.call_at.Goals as goal

pub loop-place-preserved : goal.loop-place-preserved
loop-place-preserved c =
    let place = get_or c.args.places.now c.loop-place.place-index 0 in
    let within = All-get_or (λ place. place < length c.args.values.now) c.args.places.now c.loop-place.place-index 0 c.loop-place-test.true c.requires.there in
    let v = get_or_from_slice_get c.args.values.now place c.index-values-place.result value.Unit
    (slice_get_read c.args.values.now (length c.args.values.now) place c.index-values-place.result refl within c.index-values-place.is) in
    argument_more c.args.function.now (λ place. get_or c.args.values.now place value.Unit) c.args.places.now c.loop-place.place-index place
    c.loop-place.application c.in_ok-application-2.application
    (slice_get-get_or c.args.places.now c.loop-place.place-index 0 c.loop-place-test.true) c.loop-place.invariant
    (c.in_ok-application-2.ensures ∙ ap (λ v. App c.loop-place.application (term_of v)) (sym v))

pub value_within-requires : goal.value_within-requires
value_within-requires c =
    application_typed c.args.function.now (values_at c.args.values.now c.args.places.now) c.loop-place.application c.requires.callable
    (arguments_all c.args.function.now (λ place. get_or c.args.values.now place value.Unit) c.args.places.now c.loop-place.place-index c.loop-place.application c.loop-place-test.false c.loop-place.invariant)

pub returns : goal.returns
returns c =
    let e = arguments_all c.args.function.now (λ place. get_or c.args.values.now place value.Unit) c.args.places.now c.loop-place.place-index c.loop-place.application c.loop-place-test.false c.loop-place.invariant in
    subst (λ o. IfOk c.value_within.result (λ v. v ≡ o))
    (call_is c.args.function.now (values_at c.args.values.now c.args.places.now) c.args.budget c.loop-place.application e) c.value_within.ensures
