-- What an event does at the sources of a graph, whose nodes stand in a list.
use Rattle.std.specs.Prelude.{◌≡◌, ℕ, ◌-◌, ◌<◌, ◌≤◌, List, [], ◌∷◌, ◌++◌, Option, Some, None, if◌then◌else◌, length, slice_get}
use Rattle.felm_term.specs.declared.value.Value.{Value}
use Rattle.felm_term.specs.declared.message.Message.{Message}
use Rattle.felm_term.specs.declared.event.Event.{Event}
use Rattle.felm_graph.specs.declared.node.Node.{Node}
use Rattle.felm_graph.specs.GraphValue.{GraphValue}
use Rattle.felm_graph.specs.Nodes.{is_source}
use Rattle.felm_meaning.specs.Nodes.{inner}
use Rattle.felm_edges.specs.EdgesValue.{EdgesValue, ReadsIn, edge_in, prepared_in, HasRoomIn}
use Rattle.felm_core.specs.Positions.{done_at}
use Rattle.felm_core.specs.EngineLaws.{message_by}
use Rattle.felm_engine.specs.Queued.{QueueValue, queue_at, IsIn}

-- ---- edges

-- some edge that reads one of these nodes can take no message more
abbrev pub SomeLacksRoom : List ℕ → EdgesValue → Type 0
SomeLacksRoom sources edges = (k : ℕ) × IsIn sources k × ¬ HasRoomIn edges k

-- nothing was put on an edge or taken off it
pub record SameEdges (old new : EdgesValue) : Type 0 where
  pub wiring : new.wiring ≡ old.wiring
  pub capacity : new.capacity ≡ old.capacity
  pub lists : new.lists ≡ old.lists

-- for each of these nodes its message at an event is prepared, by the value that it keeps
abbrev pub AreDue : List ℕ → Event → List Value → EdgesValue → Type 0
AreDue sources e kept edges =
    (k : ℕ) (v : Value) → IsIn sources k → slice_get kept k ≡ Some v → prepared_in edges k ≡ Some (message_by e k v)

-- each edge that reads one of these nodes has the node's prepared message at its end; the others stay
pub record PutAll (sources : List ℕ) (old new : EdgesValue) : Type 0 where
  pub wiring : new.wiring ≡ old.wiring
  pub capacity : new.capacity ≡ old.capacity
  pub put : (k r port : ℕ) (m : Message) → IsIn sources k → ReadsIn old r port k → prepared_in old k ≡ Some m
      → edge_in new r port ≡ edge_in old r port ++ m ∷ []
  pub stays : (k r port : ℕ) → ¬ IsIn sources k → ReadsIn old r port k → edge_in new r port ≡ edge_in old r port

-- ---- outputs

-- the message of the shown node at an event, if that node is a source with this value
abbrev pub shown_by : GraphValue → Event → Value → Option Message
shown_by g e v = if is_source g.nodes g.main then Some (message_by e g.main v) else None

-- ---- counts

-- these nodes have sent so many messages; the others as many as before
pub record CountedAs (sources : List ℕ) (count : ℕ) (old new : List ℕ) : Type 0 where
  pub lengths : length new ≡ length old
  pub counted : (k : ℕ) → IsIn sources k → done_at new k ≡ count
  pub stays : (k : ℕ) → ¬ IsIn sources k → done_at new k ≡ done_at old k

-- ---- waiting lists

-- all queues have the items that they had, and no less room
pub record Grown (old new : List QueueValue) : Type 0 where
  pub lengths : length new ≡ length old
  pub items : (k : ℕ) → (queue_at new k).items ≡ (queue_at old k).items
  pub spare : (k : ℕ) → (queue_at old k).spare ≤ (queue_at new k).spare

-- the queue of each async among these nodes has room for what its inner signal has still to send at so many events, and for one value more
abbrev pub AreRoomy : List Node → List ℕ → List ℕ → ℕ → List QueueValue → Type 0
AreRoomy nodes sources done events queues =
    (a x : ℕ) → IsIn sources a → inner nodes a ≡ Some x → events - done_at done x < (queue_at queues a).spare
