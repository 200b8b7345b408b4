-- Positions of a run whose nodes take their turns at different events, and which of them are sound.
use Rattle.std.specs.Prelude.{◌≡◌, ℕ, suc, ◌+◌, ◌<◌, ◌≤◌, Bool, true, false, List, Option, Some, None, length, slice_get, slice_index_or}
use Rattle.felm_term.specs.declared.event.Event.{Event}
use Rattle.felm_graph.specs.declared.node.Node.{Node}
use Rattle.felm_graph.specs.Nodes.{is_source, arguments_of}
use Rattle.felm_meaning.specs.PlanValue.{PlanValue}
use Rattle.felm_meaning.specs.OfPlans.{DefaultsThereFor, msg_for, changes_for, IsCausedFor}
use Rattle.felm_meaning.specs.Nodes.{inner}
use Rattle.felm_meaning.specs.Meaning.{IsThere}
use Rattle.felm_meaning.specs.Journals.{entered}

-- ---- positions

-- the node whose call was over budget, and the position in the journal of the message that it would have sent
pub record StopValue : Type 0 where
  pub node : ℕ
  pub position : ℕ

-- how far a run has come
pub record Position : Type 0 where
  -- the events so far
  pub journal : List Event
  -- for each node, up to which position in the journal it has sent its messages
  pub done : List ℕ
  -- for each node, whether a turn of it is handed out
  pub out : List Bool
  -- the first turn that came back over budget
  pub stop : Option StopValue

-- how much a node has done
abbrev pub done_at : List ℕ → ℕ → ℕ
done_at done k = slice_index_or done k 0

-- whether a turn of it is out
abbrev pub is_out : List Bool → ℕ → Bool
is_out out k = slice_index_or out k false

-- ---- turns

-- node k reads node a at this port; so k is a node, and no source
abbrev pub Reads : List Node → ℕ → ℕ → ℕ → Type 0
Reads nodes k port a = slice_get (arguments_of nodes k) port ≡ Some a

-- each edge that reads node k has room for one more message
abbrev pub HasRoom : PlanValue → List ℕ → ℕ → Type 0
HasRoom plan done k = (r port : ℕ) → Reads plan.graph.nodes r port k → done_at done k < done_at done r + plan.capacity

-- node k may take a turn by these done counts: each of its edges has a message, and those that read it have room
pub record HasTurn (plan : PlanValue) (done : List ℕ) (k : ℕ) : Type 0 where
  pub node : k < length plan.graph.nodes
  pub no_source : is_source plan.graph.nodes k ≡ false
  pub fed : (port a : ℕ) → Reads plan.graph.nodes k port a → done_at done k < done_at done a
  pub room : HasRoom plan done k

-- the call of a node at its next position is over budget: its arguments' messages are there, and its own is none
pub record IsStop (plan : PlanValue) (journal : List Event) (done : List ℕ) (stop : StopValue) : Type 0 where
  pub node : stop.node < length plan.graph.nodes
  pub no_source : is_source plan.graph.nodes stop.node ≡ false
  pub next : stop.position ≡ suc (done_at done stop.node)
  pub arguments : (port a : ℕ) → Reads plan.graph.nodes stop.node port a → IsThere (msg_for plan journal a stop.position)
  pub none : msg_for plan journal stop.node stop.position ≡ None

-- ---- sound positions

-- what holds of every position that a run of the plan comes to
pub record IsSound (plan : PlanValue) (position : Position) : Type 0 where
  -- both lists have a place for each node
  pub counts : length position.done ≡ length plan.graph.nodes
  pub flags : length position.out ≡ length plan.graph.nodes
  pub defaults : DefaultsThereFor plan
  pub within : length position.journal ≤ plan.limit
  -- each event is of a source, and each of an async has its cause
  pub events : (p : ℕ) (e : Event) → slice_get position.journal p ≡ Some e → is_source plan.graph.nodes e.source ≡ true
  pub caused : IsCausedFor plan position.journal
  -- sources have sent at every event; another node at no more than its arguments, which are ahead by no more than an edge holds
  pub sources : (k : ℕ) → is_source plan.graph.nodes k ≡ true → done_at position.done k ≡ length position.journal
  pub fed : (k port a : ℕ) → Reads plan.graph.nodes k port a → done_at position.done k ≤ done_at position.done a
  pub room : (k port a : ℕ) → Reads plan.graph.nodes k port a → done_at position.done a ≤ done_at position.done k + plan.capacity
  -- what was sent is there, and at position 0 the defaults
  pub sent : (k p : ℕ) → k < length plan.graph.nodes → p ≤ done_at position.done k → IsThere (msg_for plan position.journal k p)
  -- no async has more events than its inner signal has sent changes
  pub entered : (a x : ℕ) → inner plan.graph.nodes a ≡ Some x
      → entered position.journal a ≤ length (changes_for plan position.journal x (done_at position.done x))
  pub turns : (k : ℕ) → is_out position.out k ≡ true → HasTurn plan position.done k
  pub stops : (stop : StopValue) → position.stop ≡ Some stop → IsStop plan position.journal position.done stop

-- node k can take a turn now
pub record IsReady (plan : PlanValue) (position : Position) (k : ℕ) : Type 0 where
  pub turn : HasTurn plan position.done k
  pub no_stop : position.stop ≡ None
  pub not_out : is_out position.out k ≡ false

-- each node that is no source has taken a turn at every event
abbrev pub IsSettled : PlanValue → Position → Type 0
IsSettled plan position =
    (k : ℕ) → k < length plan.graph.nodes → is_source plan.graph.nodes k ≡ false → done_at position.done k ≡ length position.journal
