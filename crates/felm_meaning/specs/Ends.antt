-- How a run ends, said of its journal alone: at a call that is over budget, or with a journal that is full too early.
use Rattle.std.specs.Prelude.{◌≡◌, ◌⊎◌, ℕ, zero, suc, ◌<◌, ◌≤◌, List, None, length, Contains}
use Rattle.felm_term.specs.declared.event.Event.{Event}
use Rattle.felm_graph.specs.GraphValue.{GraphValue}
use Rattle.felm_graph.specs.Nodes.{arguments_of}
use Rattle.felm_meaning.specs.Meaning.{msg, val, IsThere}
use Rattle.felm_meaning.specs.Journals.{IsLegal, inputs_in}
use Rattle.felm_meaning.specs.Words.{IsWaiting}

-- node k has no message at the position after p, though it has a value at p and its arguments have their messages: its call is over budget
pub record IsOverTurn (g : GraphValue) (b : ℕ) (j : List Event) (k p : ℕ) : Type 0 where
  pub node : k < length g.nodes
  pub within : p < length j
  pub arguments : (a : ℕ) → Contains (arguments_of g.nodes k) a → IsThere (msg g b j a (suc p))
  pub kept : IsThere (val g b j k p)
  pub none : msg g b j k (suc p) ≡ None

-- node k is the least that has no default
pub record IsOverDefault (g : GraphValue) (b : ℕ) (j : List Event) (k : ℕ) : Type 0 where
  pub node : k < length g.nodes
  pub none : val g b j k 0 ≡ None
  pub least : (a : ℕ) → a < k → IsThere (val g b j a 0)

-- the call of node k at a position is over budget; position 0 stands for its default
abbrev pub IsOver : GraphValue → ℕ → List Event → ℕ → ℕ → Type 0
IsOver g b j k zero = IsOverDefault g b j k
IsOver g b j k (suc p) = IsOverTurn g b j k p

-- a run that stopped: its journal is legal, and this node's call at this position is over budget
pub record IsStopped (g : GraphValue) (b : ℕ) (script j : List Event) (k p : ℕ) : Type 0 where
  pub legal : IsLegal g b script j
  pub over : IsOver g b j k p

-- an event of the script, or a Change of an async's inner signal, has no event yet
abbrev pub IsUnfinished : GraphValue → ℕ → List Event → List Event → Type 0
IsUnfinished g b script j = (length (inputs_in g j) < length script) ⊎ ((a : ℕ) × IsWaiting g b j a)

-- a run that ended at the limit of its journal, which is legal and has every message, though something was still to enter
pub record IsFull (g : GraphValue) (b : ℕ) (script : List Event) (limit : ℕ) (j : List Event) : Type 0 where
  pub legal : IsLegal g b script j
  pub length_is : length j ≡ limit
  pub there : (k p : ℕ) → k < length g.nodes → p ≤ length j → IsThere (msg g b j k p)
  pub unfinished : IsUnfinished g b script j
