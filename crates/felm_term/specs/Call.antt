-- Calls of functions on values.
use Rattle.std.specs.Prelude.{ℕ, ◌≤◌, List, [], ◌∷◌, Option, Some, None}
use Rattle.felm_term.specs.CoreTerm.{CoreTerm, App}
use Rattle.felm_term.specs.Reduction.{IsValue, Steps}

-- a function on its arguments, the first one innermost
abbrev pub applied : CoreTerm → List CoreTerm → CoreTerm
applied f [] = f
applied f (a ∷ arguments) = applied (App f a) arguments

-- so many steps lead from a term to a value, and share no signal on the way
abbrev pub ReachesValue : CoreTerm → ℕ → CoreTerm → Type 0
ReachesValue e steps v = IsValue v × Steps steps [] e [] v

-- the value of a call within a budget of steps, or none
abbrev pub CallGives : CoreTerm → List CoreTerm → ℕ → Option CoreTerm → Type 0
CallGives f arguments budget (Some v) = (steps : ℕ) × (steps ≤ budget) × ReachesValue (applied f arguments) steps v
CallGives f arguments budget None = (v : CoreTerm) (steps : ℕ) → steps ≤ budget → ¬ ReachesValue (applied f arguments) steps v
