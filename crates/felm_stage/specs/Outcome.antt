-- What stage one comes to.
use Rattle.std.specs.Prelude.{◌≡◌, ℕ, suc, ◌+◌, ◌<◌, ◌≤◌, List, [], length, Some, None}
use Rattle.felm_term.specs.CoreType.{CoreType, Signal}
use Rattle.felm_term.specs.CoreTerm.{CoreTerm}
use Rattle.felm_term.specs.Typing.{HasType}
use Rattle.felm_term.specs.Inputs.{signal_types}
use Rattle.felm_term.specs.Reduction.{Steps}
use Rattle.felm_term.specs.declared.input.InputDecl.{InputDecl}
use Rattle.felm_graph.specs.FinishedPair.{FinishedPair, ReachesFinished, FinishGives}
use Rattle.felm_graph.specs.GraphValue.{GraphValue}
use Rattle.felm_graph.specs.Layout.{layout}
use Rattle.felm_graph.specs.Graphs.{most_nodes}
use Rattle.felm_stage.specs.declared.frame.Frame.{Frame}
use Rattle.felm_stage.specs.declared.reduction.Reached.{Reached}
use Rattle.felm_stage.specs.declared.reduction.Reached.TheVariants as reached
use Rattle.felm_stage.specs.declared.stage.Staged.{Staged}
use Rattle.felm_stage.specs.declared.stage.Staged.TheVariants as staged
use Rattle.felm_stage.specs.Frames.{plug, AreGood}

-- a closed term with the type of a signal under declared inputs
abbrev pub IsProgram : List InputDecl → CoreTerm → Type 0
IsProgram inputs e = (t : CoreType) × HasType (signal_types inputs) [] [] e (Signal t)

-- the same under some inputs
abbrev pub IsStart : CoreTerm → Type 0
IsStart e = (inputs : List InputDecl) × IsProgram inputs e

-- a run of one step more than the budget
abbrev pub TakesMoreThan : ℕ → CoreTerm → Type 0
TakesMoreThan budget e = (B : List CoreTerm) × (f : CoreTerm) × Steps (suc budget) [] e B f

-- a finished pair in so many steps, at most the budget; or more steps than the budget
abbrev pub IsReached : ℕ → CoreTerm → Reached → Type 0
IsReached budget e (reached.Pair p steps) =
    (steps ≤ budget) × ReachesFinished e (record { shared = p.shared.items; last = p.last; steps = steps })
IsReached budget e reached.Over = TakesMoreThan budget e

-- the graph is the layout of a pair, which has no more nodes than a graph may have
abbrev pub IsGraphOf : List InputDecl → FinishedPair → GraphValue → Type 0
IsGraphOf inputs pair g = (g ≡ layout inputs pair.shared pair.last) × (length g.nodes ≤ most_nodes)

-- the layout of a pair has more nodes
abbrev pub IsLarge : List InputDecl → FinishedPair → Type 0
IsLarge inputs pair = most_nodes < length (layout inputs pair.shared pair.last).nodes

-- the graph of a finished pair within the budget, and the number of the steps that lead to it; or a graph that is too large;
-- or more steps than the budget
abbrev pub IsStaged : List InputDecl → ℕ → CoreTerm → Staged → Type 0
IsStaged inputs budget e (staged.Graph g steps) =
    (pair : FinishedPair) × FinishGives e budget (Some pair) × IsGraphOf inputs pair g × (steps ≡ pair.steps)
IsStaged inputs budget e staged.Large = (pair : FinishedPair) × FinishGives e budget (Some pair) × IsLarge inputs pair
IsStaged inputs budget e staged.Over = TakesMoreThan budget e

-- no finished pair has another graph, or comes by another number of steps; or none has few enough nodes; or none is within the budget
abbrev pub IsOnlyStaged : List InputDecl → ℕ → CoreTerm → Staged → Type 0
IsOnlyStaged inputs budget e (staged.Graph g steps) =
    (pair : FinishedPair) → ReachesFinished e pair → IsGraphOf inputs pair g × (steps ≡ pair.steps)
IsOnlyStaged inputs budget e staged.Large = (pair : FinishedPair) → ReachesFinished e pair → (pair.steps ≤ budget) × IsLarge inputs pair
IsOnlyStaged inputs budget e staged.Over = FinishGives e budget None

-- between two steps: those taken, and those that are left of the budget
pub record IsUnderWay (budget : ℕ) (e : CoreTerm) (B : List CoreTerm) (frames : List Frame) (t : CoreTerm) (left : ℕ) : Type 0 where
  pub steps : ℕ
  pub count : budget ≡ left + steps
  pub taken : Steps steps [] e B (plug frames t)
  pub few : length B ≤ steps
  pub good : AreGood frames
