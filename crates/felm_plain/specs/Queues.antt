-- The queues of the asyncs: the changes of each inner signal that have no event yet.
use Rattle.std.specs.Prelude.{◌≡◌, ℕ, suc, zero, ◌<◌, ◌≤◌, Option, Some, None, List, [], ◌++◌, length, drop, slice_get, slice_index_or, slice_set}
use Rattle.std.specs.Option.{option_or}
use Rattle.felm_term.specs.declared.value.Value.{Value}
use Rattle.felm_term.specs.declared.message.Message.{Message}
use Rattle.felm_term.specs.declared.event.Event.{Event}
use Rattle.felm_graph.specs.declared.node.Node.{Node}
use Rattle.felm_graph.specs.GraphValue.{GraphValue}
use Rattle.felm_meaning.specs.Nodes.{inner}
use Rattle.felm_meaning.specs.Meaning.{at, changes, changed_in}
use Rattle.felm_meaning.specs.Journals.{entered, event_at}

-- the queue of a node
abbrev pub queue_at : List (List Value) → ℕ → List Value
queue_at queues k = slice_index_or queues k []

-- the changes up to position p that have no event in the journal: none at a node that is no async
abbrev pub left_at : Option ℕ → GraphValue → ℕ → List Event → ℕ → ℕ → List Value
left_at None g b j p k = []
left_at (Some x) g b j p k = drop (entered j k) (changes g b j x p)

-- the queues hold what is left of the changes up to position p
pub record Holds (g : GraphValue) (b : ℕ) (j : List Event) (p : ℕ) (queues : List (List Value)) : Type 0 where
  pub lengths : length queues ≡ length g.nodes
  pub left : (k : ℕ) → k < length g.nodes → queue_at queues k ≡ left_at (inner g.nodes k) g b j p k
  pub had : (k x : ℕ) → inner g.nodes k ≡ Some x → entered j k ≤ length (changes g b j x p)

-- ---- taking

-- the event of the least of the first n queues in which a value waits
unfoldable pub first_queue : List (List Value) → ℕ → Option Event
first_queue queues zero = None
first_queue queues (suc n) = option_or (first_queue queues n) (event_at n (slice_get (queue_at queues n) 0))

-- the same of all queues
abbrev pub first_event : List (List Value) → Option Event
first_event queues = first_queue queues (length queues)

-- this is the least queue in which a value waits
abbrev pub IsLeastQueue : List (List Value) → Option ℕ → Type 0
IsLeastQueue queues None = first_event queues ≡ None
IsLeastQueue queues (Some k) =
    (k < length queues)
    × ((v : Value) × (slice_get (queue_at queues k) 0 ≡ Some v) × (first_event queues ≡ Some (record { source = k; value = v })))

-- the event of the least queue in which a value waits is taken off it
abbrev pub TakesFirst : List (List Value) → List (List Value) → Option Event → Type 0
TakesFirst before after None = (first_event before ≡ None) × (after ≡ before)
TakesFirst before after (Some e) =
    (first_event before ≡ Some e) × (after ≡ slice_set before e.source (drop 1 (queue_at before e.source)))

-- ---- putting

-- what a row adds to the queue of a node with this inner signal
abbrev pub added : Option ℕ → List (Option Message) → List Value
added None row = []
added (Some x) row = changed_in (at row x)

-- it is put at the end of each queue
abbrev pub Added : List Node → List (Option Message) → List (List Value) → List (List Value) → Type 0
Added nodes row before after =
    (length after ≡ length before)
    × ((k : ℕ) → k < length nodes → queue_at after k ≡ queue_at before k ++ added (inner nodes k) row)
