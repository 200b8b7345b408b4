-- The last messages of all nodes, as a row of the meaning.
use Rattle.std.specs.Prelude.{◌≡◌, ℕ, Bool, true, false, List, [], ◌∷◌, ◌++◌, Option, Some, None, length, map, drop, slice_set}
use Rattle.felm_term.specs.Values.{value_of}
use Rattle.felm_term.specs.declared.value.Value.{Value}
use Rattle.felm_term.specs.declared.message.Message.{Message}
use Rattle.felm_term.specs.declared.event.Event.{Event}
use Rattle.felm_graph.specs.declared.node.Node.{Node}
use Rattle.felm_graph.specs.GraphValue.{GraphValue}
use Rattle.felm_graph.specs.Nodes.{arguments_of}
use Rattle.felm_meaning.specs.declared.job.Job.{Job}
use Rattle.felm_meaning.specs.Nodes.{job_of}
use Rattle.felm_meaning.specs.Meaning.{all_of, at, row_to, row}
use Rattle.felm_meaning.specs.Journals.{IsLeastNone}
use Rattle.felm_meaning.specs.Types.{EventsFit, TurnFits}
use Rattle.felm_meaning.specs.Values.{message_at}

-- the row in which each of these messages is there
abbrev pub row_of : List Message → List (Option Message)
row_of messages = map (λ m. Some m) messages

-- the value of a node: the one in its last message
abbrev pub kept_at : List Message → ℕ → Value
kept_at messages k = value_of (message_at messages k)

-- ---- one node

-- the turn of node k, over these messages of its arguments, may be computed
abbrev pub MayStep : List Node → ℕ → List Message → Type 0
MayStep nodes k messages =
    (w : Job) (ms : List Message) → job_of nodes k ≡ Some w → all_of (map (at (row_of messages)) (arguments_of nodes k)) ≡ Some ms
    → TurnFits w (kept_at messages k) ms

-- node k has sent this message, which is its last one now; or there is none, and all messages stay
abbrev pub Sends : List Message → ℕ → Option Message → List Message → Bool → Type 0
Sends old k message new true = row_of new ≡ slice_set (row_of old) k message
Sends old k message new false = (message ≡ None) × (new ≡ old)

-- ---- all nodes

-- the messages are those at the end of a journal, whose events and this one have their sources' types
pub record Precedes (g : GraphValue) (b : ℕ) (messages : List Message) (e : Event) : Type 0 where
  pub journal : List Event
  pub row : row_of messages ≡ row g b journal (length journal)
  pub fit : EventsFit g (journal ++ e ∷ [])

-- the messages are those of the next row; or this is the least node that has none there, and those from it on stay
abbrev pub AdvancesTo : GraphValue → ℕ → Event → List Message → List Message → Option ℕ → Type 0
AdvancesTo g b e old new None = row_of new ≡ row_to g b (row_of old) e (length g.nodes)
AdvancesTo g b e old new (Some k) = IsLeastNone g (row_to g b (row_of old) e (length g.nodes)) k × (drop k new ≡ drop k old)
