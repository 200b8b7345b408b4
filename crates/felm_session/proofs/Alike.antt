-- Without asyncs complete ends of a plan are one.
use Rattle.std.proofs.Common.{◌≡◌, ℕ, Some, [], List, length, refl, sym, ap, ◌∙◌}
use Rattle.std.proofs.lemmas.Option.{same_Some}
use Rattle.felm_term.specs.declared.event.Event.{Event}
use Rattle.felm_meaning.specs.declared.history.History.{History}
use Rattle.felm_meaning.specs.declared.history.RunEnd.TheVariants.{Complete}
use Rattle.felm_meaning.specs.Nodes.{inner}
use Rattle.felm_meaning.specs.PlanValue.{PlanValue}
use Rattle.felm_meaning.specs.OfPlans.{val_for, sends_for}
use Rattle.felm_meaning.specs.Histories.{SameHistory, IsConcluded}
use Rattle.felm_meaning.proofs.Causes.{complete_without_asyncs}

module _ (plan : PlanValue) (left right : History) (none : (a x : ℕ) → inner plan.graph.nodes a ≡ Some x → ⊥)
    (l : IsConcluded plan (Complete left)) (r : IsConcluded plan (Complete right)) where
  left_script : left.journal.items ≡ plan.script
  left_script = complete_without_asyncs plan.graph plan.budget plan.script left.journal.items none l.0

  same_journal : left.journal.items ≡ right.journal.items
  same_journal = left_script ∙ sym (complete_without_asyncs plan.graph plan.budget plan.script right.journal.items none r.0)

  pub one_end : SameHistory left right × (left.journal.items ≡ plan.script)
  one_end = (
    record {
      default =
          same_Some left.default right.default
          (sym l.1.default ∙ (ap (λ (j : List Event). val_for plan j plan.graph.main 0) same_journal ∙ r.1.default));
      journal = same_journal;
      outputs =
          l.1.outputs ∙
          (ap (λ (j : List Event). sends_for plan j plan.graph.main (length j)) same_journal ∙ sym r.1.outputs);
    },
    left_script,
  )
