-- What a term comes to within a budget of steps.
use Rattle.std.proofs.Common.{◌≡◌, ◌↔◌, ℕ, suc, zero, ◌≤◌, List, [], ◌⊎◌, inl, inr, refl, sym, subst, arith}
use Rattle.felm_term.specs.CoreType.{CoreType}
use Rattle.felm_term.specs.CoreTerm.{CoreTerm}
use Rattle.felm_term.specs.Typing.{HasType, HasSimpleType}
use Rattle.felm_term.specs.Reduction.{IsValue, Steps, none, more}
use Rattle.felm_term.specs.Call.{ReachesValue}
use Rattle.felm_laws.specs.StepLaws.{GoesOnAlone}
use Rattle.felm_laws.specs.OutcomeLaws.{HasValueWithin, TakesMoreThan}
use Rattle.felm_laws.proofs.SimpleTerms.{simple_never_stick}
use Rattle.felm_laws.proofs.StepLaws.{value_has_no_step, no_more, one_end, steps_typed}

pub one_value : (e : CoreTerm) (m n : ℕ) (v w : CoreTerm) → ReachesValue e m v → ReachesValue e n w → (m ≡ n) × (v ≡ w)
one_value e m n v w r q =
    let h = one_end r.1 (value_has_no_step [] v r.0) q.1 (value_has_no_step [] w q.0) in
    (h.0, h.2)

pub value_is_longest : (e : CoreTerm) (m n : ℕ) (v : CoreTerm) (B : List CoreTerm) (f : CoreTerm) → ReachesValue e m v → Steps n [] e B f → n ≤ m
value_is_longest e m n v B f r q = no_more r.1 (value_has_no_step [] v r.0) q

pub value_typed : (e : CoreTerm) (u : CoreType) (n : ℕ) (v : CoreTerm) → HasType [] [] [] e u → ReachesValue e n v → HasType [] [] [] v u
value_typed e u n v h r =
    let k = steps_typed [] tt u r.1 ([], refl, h) in
    subst (λ shared. HasType [] shared [] v u) (sym k.1) k.2

-- ---- budgets

-- after so many steps a value, or one step more
after : (n : ℕ) (e f : CoreTerm) (u : CoreType) → Steps n [] e [] f → IsValue f ⊎ GoesOnAlone f u → HasValueWithin n e ⊎ TakesMoreThan n e
after n e f u r (inl w) = inl (f, n, omega arith, (w, r))
after n e f u r (inr g) = inr (g.next, more r (g.step []))

-- what comes after so many steps of a closed term of a simple type
pub value_or_more : (n : ℕ) (e f : CoreTerm) → HasSimpleType e → Steps n [] e [] f → HasValueWithin n e ⊎ TakesMoreThan n e
value_or_more n e f h r = after n e f h.0 r (simple_never_stick n [] [] e f h.0 h.1 h.2 r).2

pub within_or_over : (budget : ℕ) (e : CoreTerm) → HasSimpleType e → HasValueWithin budget e ⊎ TakesMoreThan budget e
within_or_over zero e h = value_or_more zero e e h none
within_or_over (suc n) e h =
    elim (within_or_over n e h) [
      | inl w ↦ inl (w.0, w.1, omega (arith, w.2), w.3)
      | inr k ↦ value_or_more (suc n) e k.0 h k.1
    ]

pub not_within_and_over : (budget : ℕ) (e : CoreTerm) → TakesMoreThan budget e → ¬ HasValueWithin budget e
not_within_and_over budget e k w =
    let longest = value_is_longest e w.1 (suc budget) w.0 [] k.0 w.3 k.1 in omega (arith, w.2, longest)

over_otherwise : (budget : ℕ) (e : CoreTerm) → HasValueWithin budget e ⊎ TakesMoreThan budget e → ¬ HasValueWithin budget e → TakesMoreThan budget e
over_otherwise budget e (inl w) n = absurd (n w)
over_otherwise budget e (inr k) n = k

pub over_is_exact : (budget : ℕ) (e : CoreTerm) → HasSimpleType e → TakesMoreThan budget e ↔ ¬ HasValueWithin budget e
over_is_exact budget e h = (not_within_and_over budget e, over_otherwise budget e (within_or_over budget e h))
