-- What the calls of a session answer, and when.
use Rattle.std.specs.Prelude.{◌≡◌, ◌≢◌, ℕ, suc, ◌+◌, ◌*◌, ◌^◌, ◌<◌, ◌≤◌, [], Some, length, count_by, slice_get}
use Rattle.felm_term.specs.declared.value.Value.{Value}
use Rattle.felm_term.specs.declared.event.Event.{Event}
use Rattle.felm_graph.specs.Nodes.{is_async}
use Rattle.felm_meaning.specs.PlanValue.{PlanValue}
use Rattle.felm_meaning.specs.Plans.{plan_of}
use Rattle.felm_meaning.specs.OfPlans.{DefaultsThereFor}
use Rattle.felm_meaning.specs.Presets.{IsPreset}
use Rattle.felm_meaning.specs.declared.plan.Plan.{Plan}
use Rattle.felm_meaning.specs.declared.preset.Preset.TheVariants as preset
use Rattle.felm_core.specs.Contents.{waiting_at}
use Rattle.felm_core.specs.Moves.{Feed, Enter, beginning}
use Rattle.felm_engine.specs.EngineValue.{EngineValue}
use Rattle.felm_engine.specs.Answers.{planned, Moved, LacksRoom}
use Rattle.felm_engine.specs.declared.answers.Fed.{Fed}
use Rattle.felm_engine.specs.declared.answers.Fed.TheVariants as fed
use Rattle.felm_session.specs.SessionValue.{SessionValue, script_of}
use Rattle.felm_session.specs.declared.session.Begun.{Begun}
use Rattle.felm_session.specs.declared.session.Begun.TheVariants as begun

-- ---- beginnings

-- a session where the run of a plan begins; each node has a default
pub record IsBegun (plan : Plan) (session : SessionValue) : Type 0 where
  pub plan_is : session.engine.plan ≡ plan
  pub position : session.engine.position ≡ beginning plan.graph
  pub cursor : session.cursor ≡ 0
  pub defaults : DefaultsThereFor (plan_of plan)

-- it has begun; or this is the least node that has no default
abbrev pub BegunAs : Plan → Begun → Type 0
BegunAs plan (begun.Ready session) = IsBegun plan session
BegunAs plan (begun.Over node) = IsPreset plan.graph plan.limits.turn_steps (preset.Over node)

-- ---- what may come in

-- an event of the script is still to be fed
abbrev pub IsLeft : SessionValue → Type 0
IsLeft session = session.cursor < length (script_of session)

-- a value waits at node a, which so is an async
abbrev pub Waits : EngineValue → ℕ → Type 0
Waits engine a = (v : Value) × (slice_get (waiting_at (planned engine) engine.position a) 0 ≡ Some v)

-- no value waits there
abbrev pub NoneWaits : EngineValue → ℕ → Type 0
NoneWaits engine a = waiting_at (planned engine) engine.position a ≡ []

-- a value waits there, and none at a node before it
pub record IsLeastWaiting (engine : EngineValue) (a : ℕ) : Type 0 where
  pub waits : Waits engine a
  pub least : (x : ℕ) → x < a → NoneWaits engine x

-- the journal is as long as it may be
abbrev pub IsAtLimit : EngineValue → Type 0
IsAtLimit engine = length engine.position.journal ≡ (planned engine).limit

-- it isn't, and some source has no room
abbrev pub IsBlocked : EngineValue → Type 0
IsBlocked engine = (length engine.position.journal < (planned engine).limit) × LacksRoom (planned engine) engine.position

-- ---- what a feed answers

-- the script's next event came in at this position of the journal, and the cursor moved past it
pub record IsFed (old new : SessionValue) (position : ℕ) : Type 0 where
  pub event : Event
  pub next : slice_get (script_of old) old.cursor ≡ Some event
  pub position_is : position ≡ suc (length old.engine.position.journal)
  pub moved : Moved old.engine (Feed event.source event.value) new.engine
  pub cursor : new.cursor ≡ old.cursor + 1

abbrev pub FedAs : SessionValue → SessionValue → Fed → Type 0
FedAs old new (fed.At position) = IsFed old new position
FedAs old new fed.NoneLeft = (old.cursor ≡ length (script_of old)) × (new ≡ old)
FedAs old new fed.NoneWaiting = ⊥
FedAs old new fed.NoRoom = IsLeft old × IsBlocked old.engine × (new ≡ old)
FedAs old new fed.Full = IsLeft old × IsAtLimit old.engine × (new ≡ old)

-- ---- what an entry answers

-- the value that has waited longest at async a came in at this position of the journal
pub record IsEntered (old : SessionValue) (a : ℕ) (new : SessionValue) (position : ℕ) : Type 0 where
  pub position_is : position ≡ suc (length old.engine.position.journal)
  pub moved : Moved old.engine (Enter a) new.engine
  pub cursor : new.cursor ≡ old.cursor

abbrev pub EnteredAt : SessionValue → ℕ → SessionValue → Fed → Type 0
EnteredAt old a new (fed.At position) = IsEntered old a new position
EnteredAt old a new fed.NoneLeft = ⊥
EnteredAt old a new fed.NoneWaiting = NoneWaits old.engine a × (new ≡ old)
EnteredAt old a new fed.NoRoom = Waits old.engine a × IsBlocked old.engine × (new ≡ old)
EnteredAt old a new fed.Full = Waits old.engine a × IsAtLimit old.engine × (new ≡ old)

-- an entry at the least async at which a value waits; or no value waits anywhere
abbrev pub EnteredNext : SessionValue → SessionValue → Fed → Type 0
EnteredNext old new (fed.At position) = (a : ℕ) × IsLeastWaiting old.engine a × IsEntered old a new position
EnteredNext old new fed.NoneLeft = ⊥
EnteredNext old new fed.NoneWaiting = ((a : ℕ) → NoneWaits old.engine a) × (new ≡ old)
EnteredNext old new fed.NoRoom = ((a : ℕ) × IsLeastWaiting old.engine a) × IsBlocked old.engine × (new ≡ old)
EnteredNext old new fed.Full = ((a : ℕ) × IsLeastWaiting old.engine a) × IsAtLimit old.engine × (new ≡ old)

-- ---- never full

-- the limit is no less than the script's length, doubled once for each async: no legal journal is longer
abbrev pub IsAmple : PlanValue → Type 0
IsAmple plan = length plan.script * 2 ^ count_by is_async plan.graph.nodes ≤ plan.limit

-- then a feed or an entry doesn't answer this
abbrev pub NeverFull : PlanValue → Fed → Type 0
NeverFull plan answer = IsAmple plan → answer ≢ fed.Full
