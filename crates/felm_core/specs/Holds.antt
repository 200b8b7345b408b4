-- When the parts of an engine hold what lies at a position, and when its lists have the room that they will need.
use Rattle.std.specs.Prelude.{◌≡◌, ◌≢◌, ℕ, suc, ◌<◌, ◌≤◌, ◌==◌, if◌then◌else◌, true, false, List, [], ◌∷◌, ◌++◌, Some, length, drop, slice_get, slice_index_or, slice_set}
use Rattle.felm_term.specs.Values.{value_of}
use Rattle.felm_term.specs.declared.value.Value.{Value}
use Rattle.felm_term.specs.declared.message.Message.{Message}
use Rattle.felm_term.specs.declared.event.Event.{Event}
use Rattle.felm_graph.specs.Nodes.{is_source}
use Rattle.felm_meaning.specs.PlanValue.{PlanValue}
use Rattle.felm_meaning.specs.Nodes.{inner}
use Rattle.felm_meaning.specs.Meaning.{changed_in}
use Rattle.felm_core.specs.Positions.{Position, Reads}
use Rattle.felm_core.specs.Contents.{edge_at, kept_at, waiting_at, outputs_at, settled_at, owed_at}

-- ---- contents

-- the list of the edge into a node at a port
abbrev pub Edges : Type 0
Edges = ℕ → ℕ → List Message

-- the values that are kept and those that wait, a place for each node; outputs; how many turns were settled
pub record Parts : Type 0 where
  pub kept : List Value
  pub waiting : List (List Value)
  pub outputs : List Message
  pub settled : ℕ

-- what waits at a node
abbrev pub waiting_of : Parts → ℕ → List Value
waiting_of parts a = slice_index_or parts.waiting a []

-- edges and parts hold what lies at the position
pub record Holds (plan : PlanValue) (position : Position) (edges : Edges) (parts : Parts) : Type 0 where
  pub edges_are : (k port a : ℕ) → Reads plan.graph.nodes k port a → edges k port ≡ edge_at plan position a k
  pub kept_length : length parts.kept ≡ length plan.graph.nodes
  pub kept_are : (k : ℕ) → k < length plan.graph.nodes → slice_get parts.kept k ≡ kept_at plan position k
  pub waiting_length : length parts.waiting ≡ length plan.graph.nodes
  pub waiting_are : (a : ℕ) → a < length plan.graph.nodes → waiting_of parts a ≡ waiting_at plan position a
  pub outputs_are : parts.outputs ≡ outputs_at plan position
  pub settled_is : parts.settled ≡ settled_at plan position

-- what edges and parts are after node k sent message m
pub record SentFrom (plan : PlanValue) (k : ℕ) (m : Message) (old : Edges) (before : Parts) (new : Edges) (after : Parts) : Type 0 where
  pub put : (r port : ℕ) → Reads plan.graph.nodes r port k → new r port ≡ old r port ++ m ∷ []
  pub taken : (port a : ℕ) → Reads plan.graph.nodes k port a → new k port ≡ drop 1 (old k port)
  pub other : (r port a : ℕ) → Reads plan.graph.nodes r port a → k ≢ a → k ≢ r → new r port ≡ old r port
  pub kept : after.kept ≡ slice_set before.kept k (value_of m)
  pub waiting_length : length after.waiting ≡ length before.waiting
  pub waits : (a : ℕ) → inner plan.graph.nodes a ≡ Some k → waiting_of after a ≡ waiting_of before a ++ changed_in (Some m)
  pub waits_other : (a : ℕ) → inner plan.graph.nodes a ≢ Some k → waiting_of after a ≡ waiting_of before a
  pub outputs : after.outputs ≡ (if plan.graph.main == k then before.outputs ++ m ∷ [] else before.outputs)
  pub settled : after.settled ≡ suc before.settled

-- what they are after an event, the message of each source being given
pub record EventFrom (plan : PlanValue) (e : Event) (message : ℕ → Message) (old : Edges) (before : Parts) (new : Edges) (after : Parts)
    : Type 0 where
  pub put : (k r port : ℕ) → Reads plan.graph.nodes r port k → is_source plan.graph.nodes k ≡ true
      → new r port ≡ old r port ++ message k ∷ []
  pub other : (k r port : ℕ) → Reads plan.graph.nodes r port k → is_source plan.graph.nodes k ≡ false → new r port ≡ old r port
  pub kept_length : length after.kept ≡ length before.kept
  pub kept : (k : ℕ) → is_source plan.graph.nodes k ≡ true → slice_get after.kept k ≡ Some (value_of (message k))
  pub kept_other : (k : ℕ) → is_source plan.graph.nodes k ≡ false → slice_get after.kept k ≡ slice_get before.kept k
  pub waiting_length : length after.waiting ≡ length before.waiting
  pub waits_own : waiting_of after e.source ≡ drop 1 (waiting_of before e.source)
  pub waits_over : (a : ℕ) → inner plan.graph.nodes a ≡ Some e.source → waiting_of after a ≡ waiting_of before a ++ e.value ∷ []
  pub waits_other : (a : ℕ) → e.source ≢ a → inner plan.graph.nodes a ≢ Some e.source → waiting_of after a ≡ waiting_of before a
  pub outputs : after.outputs
      ≡ (if is_source plan.graph.nodes plan.graph.main then before.outputs ++ message plan.graph.main ∷ [] else before.outputs)
  pub settled : after.settled ≡ before.settled

-- ---- spare room

-- how many more items the waiting list of a node takes without asking for memory, and how many the outputs take
pub record Spares : Type 0 where
  pub waiting : ℕ → ℕ
  pub outputs : ℕ

-- there is room for all that is owed: in an async's waiting list for what its inner signal owes, in the outputs for what the shown node owes
pub record KeepsRoom (plan : PlanValue) (position : Position) (spares : Spares) : Type 0 where
  pub waiting : (a x : ℕ) → inner plan.graph.nodes a ≡ Some x → owed_at position x ≤ spares.waiting a
  pub outputs : owed_at position plan.graph.main ≤ spares.outputs

-- the room that the message of node k takes: at most one place in a waiting list over k, and in the outputs where k is shown
pub record SpendsFrom (plan : PlanValue) (k : ℕ) (before after : Spares) : Type 0 where
  pub waiting : (a : ℕ) → inner plan.graph.nodes a ≡ Some k → before.waiting a ≤ suc (after.waiting a)
  pub waiting_other : (a : ℕ) → inner plan.graph.nodes a ≢ Some k → before.waiting a ≤ after.waiting a
  pub outputs : plan.graph.main ≡ k → before.outputs ≤ suc after.outputs
  pub outputs_other : plan.graph.main ≢ k → before.outputs ≤ after.outputs

-- there is room for all that is owed and for what a next event adds to it: one message of each node that takes turns
pub record KeepsRoomForNext (plan : PlanValue) (position : Position) (spares : Spares) : Type 0 where
  pub waiting : (a x : ℕ) → inner plan.graph.nodes a ≡ Some x → is_source plan.graph.nodes x ≡ false
      → owed_at position x < spares.waiting a
  pub outputs : is_source plan.graph.nodes plan.graph.main ≡ false → owed_at position plan.graph.main < spares.outputs
