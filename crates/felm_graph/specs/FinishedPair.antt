-- Where a program's reduction ends: the finished pair of shared signals and a last term.
use Rattle.std.specs.Prelude.{◌≡◌, ℕ, ◌≤◌, List, [], Option, Some, None}
use Rattle.felm_term.specs.CoreType.{CoreType}
use Rattle.felm_term.specs.CoreTerm.{CoreTerm}
use Rattle.felm_term.specs.Typing.{PairHasType}
use Rattle.felm_term.specs.Inputs.{signal_types}
use Rattle.felm_term.specs.Reduction.{Steps, IsFinished}
use Rattle.felm_term.specs.declared.input.InputDecl.{InputDecl}

-- a finished pair, and the number of the steps that lead to it
pub record FinishedPair : Type 0 where
  pub shared : List CoreTerm
  pub last : CoreTerm
  pub steps : ℕ

-- a term without shared signals comes to this finished pair, in so many steps
abbrev pub ReachesFinished : CoreTerm → FinishedPair → Type 0
ReachesFinished e pair = IsFinished pair.shared pair.last × Steps pair.steps [] e pair.shared pair.last

-- the finished pair that a term comes to within a budget of steps, or none
abbrev pub FinishGives : CoreTerm → ℕ → Option FinishedPair → Type 0
FinishGives e budget (Some pair) = (pair.steps ≤ budget) × ReachesFinished e pair
FinishGives e budget None = (pair : FinishedPair) → pair.steps ≤ budget → ¬ ReachesFinished e pair

-- a term finishes in one way, or not within the budget
abbrev pub OneFinish : Type 0
OneFinish = (e : CoreTerm) (budget : ℕ) (p q : Option FinishedPair) → FinishGives e budget p → FinishGives e budget q → p ≡ q

-- the pair has a type under declared inputs
abbrev pub IsTyped : List InputDecl → List CoreTerm → CoreTerm → Type 0
IsTyped inputs shared last = (u : CoreType) × PairHasType (signal_types inputs) shared last u
