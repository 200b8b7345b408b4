use Rattle.std.proofs.Common.{◌≡◌, ◌∙◌, ap, sym, refl, [], ◌∷◌}
use Rattle.std.specs.List.{slice_get}
use Rattle.std.proofs.lemmas.Result.{IfOk-weaker}
use Rattle.felm_term.specs.declared.value.Value.{Value}
use Rattle.felm_meaning.specs.declared.step.Step.{Step}
use Rattle.felm_meaning.specs.Step.{lift_step, foldp_step, step}
use Rattle.felm_meaning.specs.Steps.{sent_by}
use Rattle.felm_meaning.proofs.Calls.{lift_steps, foldp_steps, one_input}
use Rattle.felm_meaning.proofs.outcome.step_of.Goals as goal

pub returns-in-Lift : goal.returns-in-Lift
returns-in-Lift c =
    let t = c.args.turn.now in
    IfOk-weaker c.lift_step.result
    (λ (s : Step). (old : Value) → sent_by old s ≡ lift_step c.in-Lift.function old c.inputs-inputs.result.now c.budget-budget.result)
    (λ (s : Step). sent_by t.previous s ≡ step t.job t.previous t.inputs t.budget)
    (λ s h. h t.previous ∙
    lift_steps t c.job.result.now c.in-Lift.function t.previous c.inputs-inputs.result.now c.budget-budget.result c.job.ensures.job c.in-Lift.is refl
    c.inputs-inputs.ensures c.budget-budget.ensures)
    c.lift_step.ensures

pub returns-in-Foldp : goal.returns-in-Foldp
returns-in-Foldp c =
    let t = c.args.turn.now in
    let inputs : c.at.result.now ∷ [] ≡ t.inputs =
    one_input t.job c.in-Foldp.function t.previous t.inputs c.at.result.now c.job.ensures.fits (sym c.job.ensures.job ∙ c.in-Foldp.is)
    (ap (λ ms. slice_get ms 0) (sym c.inputs-inputs.ensures) ∙ c.at.ensures) in
    IfOk-weaker c.foldp_step.result
    (λ (s : Step). sent_by c.previous.result.now s ≡
    foldp_step c.in-Foldp.function c.previous.result.now (c.at.result.now ∷ []) c.budget-budget.result)
    (λ (s : Step). sent_by t.previous s ≡ step t.job t.previous t.inputs t.budget)
    (λ s h. ap (λ v. sent_by v s) (sym c.previous.ensures) ∙
    (h ∙
    foldp_steps t c.job.result.now c.in-Foldp.function c.previous.result.now (c.at.result.now ∷ []) c.budget-budget.result c.job.ensures.job c.in-Foldp.is
    c.previous.ensures inputs c.budget-budget.ensures))
    c.foldp_step.ensures
