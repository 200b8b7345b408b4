-- The same definitions in other words, each proved to say the same.
use Rattle.std.specs.Prelude.{◌≡◌, ◌≢◌, ◌⊎◌, ℕ, zero, suc, ◌<◌, ◌≤◌, true, false, List, Option, Some, None, length, map, take, slice_get}
use Rattle.std.specs.Option.{option_map}
use Rattle.felm_term.specs.CoreTerm.{CoreTerm}
use Rattle.felm_term.specs.Call.{CallGives}
use Rattle.felm_term.specs.Values.{term_of}
use Rattle.felm_term.specs.declared.value.Value.{Value}
use Rattle.felm_term.specs.declared.message.Message.{Message}
use Rattle.felm_term.specs.declared.message.Message.TheVariants.{Change}
use Rattle.felm_term.specs.declared.event.Event.{Event}
use Rattle.felm_graph.specs.declared.node.Node.{Node}
use Rattle.felm_graph.specs.GraphValue.{GraphValue}
use Rattle.felm_graph.specs.Layout.{value_in}
use Rattle.felm_graph.specs.Nodes.{is_source, arguments_of}
use Rattle.felm_meaning.specs.Nodes.{inner, job_of}
use Rattle.felm_meaning.specs.Meaning.{all_of, default_by, no_change_of, value_at, turn_message, msg, changes}
use Rattle.felm_meaning.specs.Journals.{inputs_in, entered, next, AllThere}

-- ---- calls

-- the value that reduction gives to a function on these values within a budget of steps, or none
abbrev pub IsCall : Value → List Value → ℕ → Option Value → Type 0
IsCall f arguments b v =
    (term : Option CoreTerm) × CallGives (term_of f) (map term_of arguments) b term × (v ≡ option_map value_in term)

-- ---- the meaning

-- values and messages by the recursion on position and node
pub record IsMeaning (g : GraphValue) (b : ℕ) (j : List Event) (value : ℕ → ℕ → Option Value) (message : ℕ → ℕ → Option Message) : Type 0 where
  -- at position 0 each node has its default
  pub default : (k : ℕ) (node : Node) → slice_get g.nodes k ≡ Some node → value k 0 ≡ default_by g.inputs b (λ a. value a 0) node.kind
  -- the source of an event sends Change of the event's value
  pub source : (k p : ℕ) (e : Event) → is_source g.nodes k ≡ true → slice_get j p ≡ Some e → e.source ≡ k
      → message k (suc p) ≡ Some (Change e.value)
  -- each other source sends NoChange of the value that it had
  pub other_source : (k p : ℕ) (e : Event) → is_source g.nodes k ≡ true → slice_get j p ≡ Some e → e.source ≢ k
      → message k (suc p) ≡ no_change_of (value k p)
  -- any other node sends what its job makes of the value that it had and the messages of its arguments
  pub turn : (k p : ℕ) → k < length g.nodes → is_source g.nodes k ≡ false → p < length j
      → message k (suc p) ≡ turn_message (job_of g.nodes k) b (value k p) (all_of (map (λ a. message a (suc p)) (arguments_of g.nodes k)))
  -- a node's value is the one in its message
  pub carried : (k p : ℕ) → k < length g.nodes → p < length j → value k (suc p) ≡ value_at (message k (suc p))

-- ---- causes

-- at this position, counted from 1, is the event of source a that comes after i others of a, with this value
abbrev pub IsEventAfter : List Event → ℕ → ℕ → ℕ → Value → Type 0
IsEventAfter j a i zero v = ⊥
IsEventAfter j a i (suc p) v = (slice_get j p ≡ Some (record { source = a; value = v })) × (entered (take p j) a ≡ i)

-- at this position is the Change of node k that comes after i others of k, with this value
abbrev pub IsChangeAfter : GraphValue → ℕ → List Event → ℕ → ℕ → ℕ → Value → Type 0
IsChangeAfter g b j k i zero v = ⊥
IsChangeAfter g b j k i (suc q) v = (msg g b j k (suc q) ≡ Some (Change v)) × (length (changes g b j k q) ≡ i)

-- where an async has an event after i others, its inner signal has its Change after i others at an earlier position, with the same value
abbrev pub HasCauses : GraphValue → ℕ → List Event → Type 0
HasCauses g b j =
    (a x i p : ℕ) (v : Value) → inner g.nodes a ≡ Some x → IsEventAfter j a i p v
    → (q : ℕ) × (q < p) × IsChangeAfter g b j x i q v

-- ---- what comes next

-- async a has fewer events than its inner signal has Changes
abbrev pub IsWaiting : GraphValue → ℕ → List Event → ℕ → Type 0
IsWaiting g b j a = (x : ℕ) × (inner g.nodes a ≡ Some x) × (entered j a < length (changes g b j x (length j)))

-- no async among the first n nodes waits
abbrev pub NoneWaits : GraphValue → ℕ → List Event → ℕ → Type 0
NoneWaits g b j n = (a : ℕ) → a < n → ¬ IsWaiting g b j a

-- the least async that waits, with the first Change that has no event
abbrev pub IsLeastWaiting : GraphValue → ℕ → List Event → Event → Type 0
IsLeastWaiting g b j e =
    (x : ℕ) × (inner g.nodes e.source ≡ Some x) × (slice_get (changes g b j x (length j)) (entered j e.source) ≡ Some e.value)
    × NoneWaits g b j e.source

-- what comes next after a journal: the event of the least async that waits; else the script's next; else nothing
abbrev pub IsNext : GraphValue → ℕ → List Event → List Event → Option Event → Type 0
IsNext g b script j (Some e) =
    IsLeastWaiting g b j e ⊎ (NoneWaits g b j (length g.nodes) × (slice_get script (length (inputs_in g j)) ≡ Some e))
IsNext g b script j None = NoneWaits g b j (length g.nodes) × (length script ≤ length (inputs_in g j))

-- each event came next after those before it, while every message was there and the journal was below its limit
abbrev pub CameNext : GraphValue → ℕ → List Event → ℕ → List Event → Type 0
CameNext g b script limit j =
    (n : ℕ) (e : Event) → slice_get j n ≡ Some e
    → AllThere g b (take n j) × (n < limit) × (next g b script (take n j) ≡ Some e)

-- a journal that grew while it could, and no longer
pub record IsPlainJournal (g : GraphValue) (b : ℕ) (script : List Event) (limit : ℕ) (j : List Event) : Type 0 where
  pub steps : CameNext g b script limit j
  pub ends : AllThere g b j → length j < limit → next g b script j ≡ None
