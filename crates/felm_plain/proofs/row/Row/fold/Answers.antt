use Rattle.std.proofs.Common.{◌∙◌, ap, sym, subst, Option, [], ◌∷◌}
use Rattle.felm_term.specs.Values.{value_of}
use Rattle.felm_term.specs.declared.value.Value.{Value}
use Rattle.felm_term.specs.declared.message.Message.{Message}
use Rattle.felm_meaning.specs.Step.{foldp_step}
use Rattle.felm_meaning.specs.Steps.{sent_by}
use Rattle.felm_meaning.specs.Types.{IsCallable}
use Rattle.felm_plain.specs.Rows.{kept_at, Sends}
use Rattle.felm_plain.proofs.row.Row.fold.Goals as goal

pub foldp_step-requires : goal.foldp_step-requires
foldp_step-requires c =
    subst (λ (m : Message). IsCallable c.args.function.now (value_of m ∷ c.value.result.now ∷ [])) (sym c.message-argument.ensures)
    (subst (λ (v : Value). IsCallable c.args.function.now (kept_at c.args.self.now c.args.argument ∷ v ∷ [])) (sym c.value.ensures) c.requires.callable)

pub returns : goal.returns
returns c =
    let old = kept_at c.args.self.now c.args.node in
    subst (λ (m : Option Message). Sends c.args.self.now c.args.node m c.put.new.self c.put.result)
    (ap (λ (v : Value). sent_by v c.in_ok-step.step) (sym c.value.ensures) ∙
    (c.in_ok-step.ensures ∙
    (ap (λ (v : Value). foldp_step c.args.function.now v (c.message-argument.result.now ∷ []) c.args.budget) c.value.ensures ∙
    ap (λ (m : Message). foldp_step c.args.function.now old (m ∷ []) c.args.budget) c.message-argument.ensures)))
    c.put.ensures
