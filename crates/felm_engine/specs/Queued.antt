-- Values that wait in queues.
use Rattle.std.specs.Prelude.{◌≡◌, ◌≢◌, ℕ, suc, ◌-◌, ◌≤◌, List, [], ◌∷◌, ◌++◌, Option, Some, None, length, drop, slice_get, slice_index_or}
use Rattle.felm_term.specs.declared.value.Value.{Value}
use Rattle.felm_term.specs.declared.message.Message.{Message}
use Rattle.felm_meaning.specs.Meaning.{changed_in}

-- ---- one queue

pub record QueueValue : Type 0 where
  -- the oldest first
  pub items : List Value
  -- how many more it takes without asking for memory
  pub spare : ℕ
  -- the value that it is to take next
  pub prepared : Option Value

-- the prepared value is put at the end
abbrev pub put_value : QueueValue → Value → QueueValue
put_value queue v = record { items = queue.items ++ v ∷ []; spare = queue.spare - 1; prepared = None }

-- ---- the queues of all nodes

-- an empty queue without room
abbrev pub no_queue : QueueValue
no_queue = record { items = []; spare = 0; prepared = None }

-- the queue of a node; there is none past the last node
abbrev pub queue_at : List QueueValue → ℕ → QueueValue
queue_at queues k = slice_index_or queues k no_queue

-- no two places have the same node
abbrev pub AreDistinct : List ℕ → Type 0
AreDistinct nodes = (i j a : ℕ) → slice_get nodes i ≡ Some a → slice_get nodes j ≡ Some a → i ≡ j

-- one of these nodes
abbrev pub IsIn : List ℕ → ℕ → Type 0
IsIn nodes a = (i : ℕ) × (slice_get nodes i ≡ Some a)

-- all queues have the items and the room that they had
pub record SameQueues (old new : List QueueValue) : Type 0 where
  pub lengths : length new ≡ length old
  pub items : (k : ℕ) → (queue_at new k).items ≡ (queue_at old k).items
  pub spare : (k : ℕ) → (queue_at new k).spare ≡ (queue_at old k).spare

-- at each of these nodes this value is prepared
abbrev pub ArePrepared : List ℕ → Value → List QueueValue → Type 0
ArePrepared nodes v queues = (i a : ℕ) → slice_get nodes i ≡ Some a → (queue_at queues a).prepared ≡ Some v

-- each of these nodes' queues has its prepared value at its end; the others stay
pub record PutInto (nodes : List ℕ) (old new : List QueueValue) : Type 0 where
  pub lengths : length new ≡ length old
  pub put : (a : ℕ) (v : Value) → IsIn nodes a → (queue_at old a).prepared ≡ Some v → queue_at new a ≡ put_value (queue_at old a) v
  pub stays : (a : ℕ) → ¬ IsIn nodes a → queue_at new a ≡ queue_at old a

-- where a message is a change, each of these nodes' queues has its value at its end, at the price of one place; the others stay
pub record PassedOn (nodes : List ℕ) (m : Message) (old new : List QueueValue) : Type 0 where
  pub lengths : length new ≡ length old
  pub items : (a : ℕ) → IsIn nodes a → (queue_at new a).items ≡ (queue_at old a).items ++ changed_in (Some m)
  pub spare : (a : ℕ) → IsIn nodes a → (queue_at old a).spare ≤ suc (queue_at new a).spare
  pub other_items : (a : ℕ) → ¬ IsIn nodes a → (queue_at new a).items ≡ (queue_at old a).items
  pub other_spare : (a : ℕ) → ¬ IsIn nodes a → (queue_at new a).spare ≡ (queue_at old a).spare

-- the queue of a node has lost its first value, and has no less room; the others stay
pub record TakenFrom (a : ℕ) (old new : List QueueValue) : Type 0 where
  pub lengths : length new ≡ length old
  pub items : (queue_at new a).items ≡ drop 1 (queue_at old a).items
  pub spare : (queue_at old a).spare ≤ (queue_at new a).spare
  pub stays : (k : ℕ) → k ≢ a → queue_at new k ≡ queue_at old k

-- the queue of a node has its items, and no less room; the others stay
pub record ReservedIn (a : ℕ) (old new : List QueueValue) : Type 0 where
  pub lengths : length new ≡ length old
  pub items : (queue_at new a).items ≡ (queue_at old a).items
  pub spare : (queue_at old a).spare ≤ (queue_at new a).spare
  pub stays : (k : ℕ) → k ≢ a → queue_at new k ≡ queue_at old k
