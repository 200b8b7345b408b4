-- Laws of what the parts of an engine hold, and of the room in its lists.
use Rattle.std.specs.Prelude.{◌≡◌, ◌↔◌, ℕ, ◌<◌, true, ◌==◌, if◌then◌else◌, List, [], Some, length, replicate, slice_get}
use Rattle.felm_term.specs.declared.value.Value.{Value}
use Rattle.felm_term.specs.declared.message.Message.{Message}
use Rattle.felm_term.specs.declared.message.Message.TheVariants.{Change, NoChange}
use Rattle.felm_term.specs.declared.event.Event.{Event}
use Rattle.felm_graph.specs.Graphs.{IsGraph}
use Rattle.felm_graph.specs.Nodes.{is_source}
use Rattle.felm_meaning.specs.PlanValue.{PlanValue}
use Rattle.felm_meaning.specs.OfPlans.{val_for}
use Rattle.felm_meaning.specs.Nodes.{inner}
use Rattle.felm_core.specs.Positions.{Position, done_at, Reads, HasRoom, IsSound}
use Rattle.felm_core.specs.Contents.{edge_at, kept_at}
use Rattle.felm_core.specs.Moves.{beginning, with_next, sent}
use Rattle.felm_core.specs.Laws.{Sends, ComesIn, source_sends}
use Rattle.felm_core.specs.Holds.{Edges, Parts, Holds, SentFrom, EventFrom, Spares, KeepsRoom, SpendsFrom, KeepsRoomForNext}

-- ---- edges

-- each edge of a node has a message exactly where each of its arguments has sent more; and each edge that reads it has fewer messages than it can
-- hold exactly where the node has room
abbrev pub EdgesTellTurns : Type 0
EdgesTellTurns =
    (plan : PlanValue) (position : Position) (k : ℕ) → IsGraph plan.graph → IsSound plan position
    → (((port a : ℕ) → Reads plan.graph.nodes k port a → done_at position.done k < done_at position.done a)
    ↔ ((port a : ℕ) → Reads plan.graph.nodes k port a → 0 < length (edge_at plan position a k)))
    × (HasRoom plan position.done k
    ↔ ((r port : ℕ) → Reads plan.graph.nodes r port k → length (edge_at plan position k r) < plan.capacity))

-- ---- contents

-- empty edges, the defaults, empty waiting lists and outputs and no turn are what the beginning holds
abbrev pub BeginningsHold : Type 0
BeginningsHold =
    (plan : PlanValue) (edges : Edges) (defaults : List Value) → ((k port : ℕ) → edges k port ≡ [])
    → length defaults ≡ length plan.graph.nodes
    → ((k : ℕ) → k < length plan.graph.nodes → val_for plan [] k 0 ≡ slice_get defaults k)
    → Holds plan (beginning plan.graph) edges
    (record { kept = defaults; waiting = replicate (length plan.graph.nodes) []; outputs = []; settled = 0 })

-- what holds at a position holds at another one with its journal and done counts
abbrev pub StayingHolds : Type 0
StayingHolds =
    (plan : PlanValue) (position after : Position) (edges : Edges) (parts : Parts) → after.journal ≡ position.journal
    → after.done ≡ position.done → Holds plan position edges parts → Holds plan after edges parts

-- parts that were changed by a sent turn hold what lies at the position after it
abbrev pub SendingHolds : Type 0
SendingHolds =
    (plan : PlanValue) (position : Position) (k : ℕ) (m : Message) (old new : Edges) (before after : Parts) → Sends plan position k m
    → Holds plan position old before → SentFrom plan k m old before new after → Holds plan (sent position k) new after

-- the message of source k, which has this value, at an event
abbrev pub message_by : Event → ℕ → Value → Message
message_by e k old = if e.source == k then Change e.value else NoChange old

abbrev pub SourcesSend : Type 0
SourcesSend =
    (plan : PlanValue) (position : Position) (e : Event) (k : ℕ) (old : Value) → kept_at plan position k ≡ Some old
    → source_sends plan position e k ≡ Some (message_by e k old)

-- and by an event
abbrev pub EventsHold : Type 0
EventsHold =
    (plan : PlanValue) (position : Position) (e : Event) (message : ℕ → Message) (old new : Edges) (before after : Parts)
    → ComesIn plan position e
    → ((k : ℕ) → is_source plan.graph.nodes k ≡ true → source_sends plan position e k ≡ Some (message k))
    → Holds plan position old before → EventFrom plan e message old before new after → Holds plan (with_next plan position e) new after

-- ---- room

-- nothing is owed at the beginning, so that any room is enough
abbrev pub BeginningsKeepRoom : Type 0
BeginningsKeepRoom = (plan : PlanValue) (spares : Spares) → KeepsRoom plan (beginning plan.graph) spares

-- what is enough at a position is enough at another one with its journal and done counts
abbrev pub StayingKeepsRoom : Type 0
StayingKeepsRoom =
    (plan : PlanValue) (position after : Position) (spares : Spares) → after.journal ≡ position.journal → after.done ≡ position.done
    → KeepsRoom plan position spares → KeepsRoom plan after spares

-- a message that is sent finds room wherever it is put
abbrev pub SendingFindsRoom : Type 0
SendingFindsRoom =
    (plan : PlanValue) (position : Position) (k : ℕ) (m : Message) (spares : Spares) → Sends plan position k m
    → KeepsRoom plan position spares
    → ((a : ℕ) → inner plan.graph.nodes a ≡ Some k → 0 < spares.waiting a) × (plan.graph.main ≡ k → 0 < spares.outputs)

-- and the room that it leaves is enough
abbrev pub SendingKeepsRoom : Type 0
SendingKeepsRoom =
    (plan : PlanValue) (position : Position) (k : ℕ) (m : Message) (before after : Spares) → Sends plan position k m
    → KeepsRoom plan position before → SpendsFrom plan k before after → KeepsRoom plan (sent position k) after

-- room that was enough for an event more is enough after the event
abbrev pub EventsKeepRoom : Type 0
EventsKeepRoom =
    (plan : PlanValue) (position : Position) (e : Event) (spares : Spares) → ComesIn plan position e
    → KeepsRoomForNext plan position spares → KeepsRoom plan (with_next plan position e) spares
