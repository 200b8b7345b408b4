-- What a run of steps to a value, or to a redex, says of a budget.
use Rattle.std.proofs.Common.{◌≡◌, ℕ, ◌≤◌, [], sym, subst}
use Rattle.felm_term.specs.CoreTerm.{CoreTerm}
use Rattle.felm_term.specs.Reduction.{IsValue, Steps}
use Rattle.felm_term.specs.Values.{term_of}
use Rattle.felm_term.specs.declared.value.Value.{Value}
use Rattle.felm_laws.proofs.Budgets.{one_value, not_within_and_over}
use Rattle.felm_reduce.specs.declared.reduction.Reduced.{Reduced}
use Rattle.felm_reduce.specs.declared.reduction.Reduced.TheVariants as reduced
use Rattle.felm_reduce.specs.Outcome.{IsOutcome, IsOnlyOutcome}

pub value_reached : (budget steps : ℕ) (e whole : CoreTerm) (v : Value) → steps ≤ budget → Steps steps [] e [] whole → IsValue (term_of v)
    → term_of v ≡ whole → IsOutcome budget e (reduced.Value v steps)
value_reached budget steps e whole v l s w h = (l, (w, subst (λ t. Steps steps [] e [] t) (sym h) s))

pub no_other : (budget : ℕ) (e : CoreTerm) (r : Reduced) → IsOutcome budget e r → IsOnlyOutcome budget e r
no_other budget e (reduced.Value v steps) h = λ n w r. one_value e n steps w (term_of v) r h.1
no_other budget e reduced.Over h = not_within_and_over budget e h
