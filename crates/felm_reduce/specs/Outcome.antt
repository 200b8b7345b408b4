-- What a reduction comes to.
use Rattle.std.specs.Prelude.{◌≡◌, ℕ, ◌≤◌}
use Rattle.felm_term.specs.CoreTerm.{CoreTerm}
use Rattle.felm_term.specs.Call.{ReachesValue}
use Rattle.felm_term.specs.Values.{term_of}
use Rattle.felm_laws.specs.OutcomeLaws.{HasValueWithin, TakesMoreThan}
use Rattle.felm_reduce.specs.Search.{HoldsFunction}
use Rattle.felm_reduce.specs.declared.reduction.Reduced.{Reduced}
use Rattle.felm_reduce.specs.declared.reduction.Reduced.TheVariants as reduced

-- a value in so many steps, at most the budget; or more steps than the budget
abbrev pub IsOutcome : ℕ → CoreTerm → Reduced → Type 0
IsOutcome budget e (reduced.Value v steps) = (steps ≤ budget) × ReachesValue e steps (term_of v)
IsOutcome budget e reduced.Over = TakesMoreThan budget e

-- no other value, by no other number of steps; or none within the budget
abbrev pub IsOnlyOutcome : ℕ → CoreTerm → Reduced → Type 0
IsOnlyOutcome budget e (reduced.Value v steps) =
    (n : ℕ) (w : CoreTerm) → ReachesValue e n w → (n ≡ steps) × (w ≡ term_of v)
IsOnlyOutcome budget e reduced.Over = ¬ HasValueWithin budget e

-- a value that is a function is a closed one of a simple type
abbrev pub GivesFunction : Reduced → Type 0
GivesFunction (reduced.Value v steps) = HoldsFunction v
GivesFunction reduced.Over = Unit {0}
