-- The moves from one position to another, and runs of them.
use Rattle.std.specs.Prelude.{◌≡◌, ℕ, suc, ◌+◌, ◌<◌, true, false, if◌then◌else◌, List, [], ◌∷◌, ◌++◌, Option, Some, None, length, replicate, slice_get, slice_set}
use Rattle.felm_term.specs.declared.value.Value.{Value}
use Rattle.felm_term.specs.declared.event.Event.{Event}
use Rattle.felm_graph.specs.declared.node.Node.{Node}
use Rattle.felm_graph.specs.GraphValue.{GraphValue}
use Rattle.felm_graph.specs.Nodes.{is_source}
use Rattle.felm_graph.specs.Graphs.{IsOfType}
use Rattle.felm_meaning.specs.PlanValue.{PlanValue}
use Rattle.felm_meaning.specs.OfPlans.{msg_for}
use Rattle.felm_meaning.specs.Nodes.{is_input}
use Rattle.felm_meaning.specs.Meaning.{IsThere}
use Rattle.felm_core.specs.Positions.{StopValue, Position, done_at, is_out, HasRoom, IsReady}
use Rattle.felm_core.specs.Contents.{waiting_at, settled_at}

-- ---- moves

pub data Move : Type 0 where
  -- an event of input k with this value comes in
  Feed : (k : ℕ) (v : Value) → Move
  -- the first value that waits at async a becomes an event
  Enter : (a : ℕ) → Move
  -- the turn of node k is handed out
  Claim : (k : ℕ) → Move
  -- the turn of node k comes back with its message
  Send : (k : ℕ) → Move
  -- the turn of node k comes back over budget
  Stop : (k : ℕ) → Move
  -- the turn of node k is taken back
  Reopen : (k : ℕ) → Move

-- done counts after an event: one more at each source. The first count is that of node k
abbrev pub counted : List Node → ℕ → List ℕ → List ℕ
counted nodes k [] = []
counted nodes k (d ∷ more) = (if is_source nodes k then suc d else d) ∷ counted nodes (suc k) more

-- an event has come in
abbrev pub with_next : PlanValue → Position → Event → Position
with_next plan position e = record position { journal = position.journal ++ e ∷ []; done = counted plan.graph.nodes 0 position.done }

-- a turn of node k is out
abbrev pub claimed : Position → ℕ → Position
claimed position k = record position { out = slice_set position.out k true }

-- node k has sent one message more, and no turn of it is out
abbrev pub sent : Position → ℕ → Position
sent position k =
    record position { done = slice_set position.done k (suc (done_at position.done k)); out = slice_set position.out k false }

-- the first stop stays
abbrev pub stop_or : Option StopValue → StopValue → Option StopValue
stop_or None stop = Some stop
stop_or (Some first) stop = Some first

-- no turn of node k is out, and it stopped at its next position if nothing had stopped before
abbrev pub stopped : Position → ℕ → Position
stopped position k =
    record position {
      out = slice_set position.out k false;
      stop = stop_or position.stop (record { node = k; position = suc (done_at position.done k) });
    }

-- no turn of node k is out
abbrev pub reopened : Position → ℕ → Position
reopened position k = record position { out = slice_set position.out k false }

-- one more event may come in
pub record HasPlace (plan : PlanValue) (position : Position) : Type 0 where
  pub below : length position.journal < plan.limit
  pub room : (k : ℕ) → is_source plan.graph.nodes k ≡ true → HasRoom plan position.done k

-- a value has the type of a node's values
abbrev pub FitsNode : GraphValue → ℕ → Value → Type 0
FitsNode g k v = (node : Node) → slice_get g.nodes k ≡ Some node → IsOfType node.ty v

-- from a position the move may lead to another one
abbrev pub Leads : PlanValue → Position → Move → Position → Type 0
Leads plan position (Feed k v) after =
    HasPlace plan position × (is_input plan.graph.nodes k ≡ true) × FitsNode plan.graph k v
    × (after ≡ with_next plan position (record { source = k; value = v }))
Leads plan position (Enter a) after =
    HasPlace plan position
    × ((v : Value) × (slice_get (waiting_at plan position a) 0 ≡ Some v) × (after ≡ with_next plan position (record { source = a; value = v })))
Leads plan position (Claim k) after = IsReady plan position k × (after ≡ claimed position k)
Leads plan position (Send k) after =
    (is_out position.out k ≡ true) × IsThere (msg_for plan position.journal k (suc (done_at position.done k))) × (after ≡ sent position k)
Leads plan position (Stop k) after =
    (is_out position.out k ≡ true) × (msg_for plan position.journal k (suc (done_at position.done k)) ≡ None) × (after ≡ stopped position k)
Leads plan position (Reopen k) after = after ≡ reopened position k

-- ---- runs

-- a list of moves leads from one position to another
abbrev pub Runs : PlanValue → Position → List Move → Position → Type 0
Runs plan position [] after = after ≡ position
Runs plan position (move ∷ more) after = (between : Position) × Leads plan position move between × Runs plan between more after

-- no event, no turn taken, none out, no stop: where every run of a graph begins
abbrev pub beginning : GraphValue → Position
beginning g = record { journal = []; done = replicate (length g.nodes) 0; out = replicate (length g.nodes) false; stop = None }

-- the event that a move feeds
abbrev pub fed_in : Move → List Event
fed_in (Feed k v) = record { source = k; value = v } ∷ []
fed_in (Enter a) = []
fed_in (Claim k) = []
fed_in (Send k) = []
fed_in (Stop k) = []
fed_in (Reopen k) = []

-- the events that a run feeds, in order
abbrev pub fed : List Move → List Event
fed [] = []
fed (move ∷ more) = fed_in move ++ fed more

-- the fed events are the first ones of the plan's script
abbrev pub IsScripted : PlanValue → List Move → Type 0
IsScripted plan moves = (rest : List Event) × (plan.script ≡ fed moves ++ rest)

-- ---- how far a run is

-- its events and the turns that were taken
abbrev pub progress : PlanValue → Position → ℕ
progress plan position = length position.journal + settled_at plan position

-- by how much a move takes it further
abbrev pub gain : Move → ℕ
gain (Feed k v) = 1
gain (Enter a) = 1
gain (Claim k) = 0
gain (Send k) = 1
gain (Stop k) = 0
gain (Reopen k) = 0
