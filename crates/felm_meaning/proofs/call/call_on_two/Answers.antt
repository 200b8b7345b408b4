use Rattle.std.proofs.Common.{◌≡◌, ◌∙◌, ap, subst, [], ◌∷◌}
use Rattle.std.specs.Prelude.{IfOk}
use Rattle.felm_term.specs.CoreTerm.{App}
use Rattle.felm_term.specs.Values.{term_of}
use Rattle.felm_meaning.proofs.Calls.{call_is}
use Rattle.felm_meaning.proofs.call.call_on_two.Goals as goal

pub returns : goal.returns
returns c =
    let e = c.in_ok-application-2.ensures ∙ ap (λ t. App t (term_of c.args.second.now))
    (c.in_ok-application.ensures ∙ ap (λ t. App t (term_of c.args.first.now)) c.in_ok-to_term.ensures) in
    subst (λ o. IfOk c.value_within.result (λ v. v ≡ o))
    (call_is c.args.function.now (c.args.first.now ∷ c.args.second.now ∷ []) c.args.budget c.in_ok-application-2.application e) c.value_within.ensures
