-- Laws of counted runs: what a term comes to within a budget of steps.
use Rattle.std.specs.Prelude.{◌≡◌, ◌⊎◌, ◌↔◌, ℕ, suc, ◌≤◌, List, []}
use Rattle.felm_term.specs.CoreType.{CoreType}
use Rattle.felm_term.specs.CoreTerm.{CoreTerm}
use Rattle.felm_term.specs.Typing.{HasType, HasSimpleType}
use Rattle.felm_term.specs.Reduction.{Steps, HasNoStep}
use Rattle.felm_term.specs.Call.{ReachesValue}

-- the same number of steps leads to the same pair
abbrev pub RunsAreUnique : Type 0
RunsAreUnique =
    (n : ℕ) (B C D : List CoreTerm) (e f g : CoreTerm) → Steps n B e C f → Steps n B e D g → (C ≡ D) × (f ≡ g)

-- no run is longer than one to a pair that has no step
abbrev pub EndedRunsAreLongest : Type 0
EndedRunsAreLongest =
    (m n : ℕ) (B C D : List CoreTerm) (e f g : CoreTerm) → Steps m B e C f → HasNoStep C f → Steps n B e D g → n ≤ m

-- a term reaches at most one value, by one number of steps
abbrev pub ValuesAreUnique : Type 0
ValuesAreUnique =
    (e : CoreTerm) (m n : ℕ) (v w : CoreTerm) → ReachesValue e m v → ReachesValue e n w → (m ≡ n) × (v ≡ w)

-- a value that a closed term reaches has the term's type
abbrev pub ValuesHaveTheType : Type 0
ValuesHaveTheType =
    (e : CoreTerm) (u : CoreType) (n : ℕ) (v : CoreTerm) → HasType [] [] [] e u → ReachesValue e n v → HasType [] [] [] v u

-- a value in at most so many steps
abbrev pub HasValueWithin : ℕ → CoreTerm → Type 0
HasValueWithin budget e = (v : CoreTerm) × (steps : ℕ) × (steps ≤ budget) × ReachesValue e steps v

-- a run of one step more than the budget
abbrev pub TakesMoreThan : ℕ → CoreTerm → Type 0
TakesMoreThan budget e = (f : CoreTerm) × Steps (suc budget) [] e [] f

-- a closed term of a simple type has a value within a budget, or takes more steps
abbrev pub BudgetsDecide : Type 0
BudgetsDecide = (budget : ℕ) (e : CoreTerm) → HasSimpleType e → HasValueWithin budget e ⊎ TakesMoreThan budget e

-- it takes more steps than the budget exactly where it has no value within it
abbrev pub OverIsExact : Type 0
OverIsExact = (budget : ℕ) (e : CoreTerm) → HasSimpleType e → TakesMoreThan budget e ↔ ¬ HasValueWithin budget e
