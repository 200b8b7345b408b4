-- What the calls of an engine answer, and when.
use Rattle.std.specs.Prelude.{◌≡◌, ℕ, suc, ◌<◌, true, false, List, Some, length, replicate, count_by, slice_get}
use Rattle.std.specs.Option.{option_map_or}
use Rattle.felm_term.specs.Values.{value_of, IsPlain}
use Rattle.felm_term.specs.declared.event.Event.{Event}
use Rattle.felm_graph.specs.declared.node.Node.{Node}
use Rattle.felm_graph.specs.Nodes.{is_source}
use Rattle.felm_meaning.specs.PlanValue.{PlanValue}
use Rattle.felm_meaning.specs.Plans.{plan_of}
use Rattle.felm_meaning.specs.OfPlans.{msg_for}
use Rattle.felm_meaning.specs.Nodes.{inner, job_of}
use Rattle.felm_meaning.specs.Turns.{TurnValue}
use Rattle.felm_meaning.specs.Outcomes.{DoneValue, sent_of}
use Rattle.felm_meaning.specs.declared.outcome.Outcome.{Outcome}
use Rattle.felm_meaning.specs.declared.outcome.Outcome.TheVariants as outcome
use Rattle.felm_core.specs.Positions.{Position, done_at, is_out, HasRoom, IsReady}
use Rattle.felm_core.specs.Contents.{kept_at, waiting_at}
use Rattle.felm_core.specs.Moves.{Move, Feed, Enter, Claim, Send, Stop, Reopen, Leads, FitsNode}
use Rattle.felm_core.specs.Laws.{heads_at}
use Rattle.felm_engine.specs.EngineValue.{EngineValue}
use Rattle.felm_engine.specs.declared.answers.Entered.{Entered}
use Rattle.felm_engine.specs.declared.answers.Entered.TheVariants as entered
use Rattle.felm_engine.specs.declared.answers.Claim.TheVariants as claim
use Rattle.felm_engine.specs.declared.answers.Claim as answers
use Rattle.felm_engine.specs.declared.answers.Deposit.{Deposit}
use Rattle.felm_engine.specs.declared.answers.Deposit.TheVariants.{Settled, Reopened}

-- ---- moves

-- what an engine's plan is to contracts
abbrev pub planned : EngineValue → PlanValue
planned engine = plan_of engine.plan

-- one engine became the other by this move, with the same plan
pub record Moved (old : EngineValue) (move : Move) (new : EngineValue) : Type 0 where
  pub plan : new.plan ≡ old.plan
  pub leads : Leads (planned old) old.position move new.position

-- ---- events

-- this event may come in: it is of a source, with a value of the source's type; at an async it is the one that has waited longest
pub record MayComeIn (engine : EngineValue) (e : Event) : Type 0 where
  pub source : is_source engine.plan.graph.nodes e.source ≡ true
  pub typed : FitsNode engine.plan.graph e.source e.value
  pub waits : (x : ℕ) → inner engine.plan.graph.nodes e.source ≡ Some x
      → slice_get (waiting_at (planned engine) engine.position e.source) 0 ≡ Some e.value

-- the move by which it comes in
abbrev pub coming_in : List Node → Event → Move
coming_in nodes e = option_map_or (λ x. Enter e.source) (inner nodes e.source) (Feed e.source e.value)

-- each source has room
abbrev pub AllHaveRoom : PlanValue → Position → Type 0
AllHaveRoom plan position = (k : ℕ) → is_source plan.graph.nodes k ≡ true → HasRoom plan position.done k

-- some source has no room
abbrev pub LacksRoom : PlanValue → Position → Type 0
LacksRoom plan position = (k : ℕ) × (is_source plan.graph.nodes k ≡ true) × ¬ HasRoom plan position.done k

-- it has come in, at the next position; or the journal has as many events as it may; or it has fewer, and some source has no room
abbrev pub EnteredAs : EngineValue → Event → EngineValue → Entered → Type 0
EnteredAs old e new (entered.At position) =
    (position ≡ suc (length old.position.journal)) × Moved old (coming_in old.plan.graph.nodes e) new
EnteredAs old e new entered.NoRoom =
    (length old.position.journal < (planned old).limit) × LacksRoom (planned old) old.position × (new ≡ old)
EnteredAs old e new entered.Full = (length old.position.journal ≡ (planned old).limit) × (new ≡ old)

-- ---- turns

-- this is the turn that node k has at a position
pub record IsTurnAt (plan : PlanValue) (position : Position) (k : ℕ) (turn : TurnValue) : Type 0 where
  pub node : turn.node ≡ k
  pub position_is : turn.position ≡ suc (done_at position.done k)
  pub job : job_of plan.graph.nodes k ≡ Some turn.job
  pub previous : kept_at plan position k ≡ Some turn.previous
  pub inputs : heads_at plan position k ≡ Some turn.inputs
  pub budget : turn.budget ≡ plan.budget

-- the turn of node k is handed out; or it isn't ready
abbrev pub ClaimedAs : EngineValue → ℕ → EngineValue → answers.Claim → Type 0
ClaimedAs old k new (claim.Got turn) = Moved old (Claim k) new × IsTurnAt (planned old) old.position k turn
ClaimedAs old k new claim.NotReady = ¬ IsReady (planned old) old.position k × (new ≡ old)

-- node k is ready, and none before it
pub record IsLeastReady (engine : EngineValue) (k : ℕ) : Type 0 where
  pub ready : IsReady (planned engine) engine.position k
  pub least : (x : ℕ) → x < k → ¬ IsReady (planned engine) engine.position x

-- the turn of the least ready node is handed out; or no node is ready
abbrev pub ClaimedNextAs : EngineValue → EngineValue → answers.Claim → Type 0
ClaimedNextAs old new (claim.Got turn) = IsLeastReady old turn.node × ClaimedAs old turn.node new (claim.Got turn)
ClaimedNextAs old new claim.NotReady = ((k : ℕ) → ¬ IsReady (planned old) old.position k) × (new ≡ old)

-- some node is ready
abbrev pub SomeIsReady : EngineValue → Type 0
SomeIsReady engine = (k : ℕ) × IsReady (planned engine) engine.position k

-- ---- deposits

-- this turn is out: it is the one that its node has, and the node's turn is out
pub record IsTurnOut (engine : EngineValue) (turn : TurnValue) : Type 0 where
  pub out : is_out engine.position.out turn.node ≡ true
  pub has : IsTurnAt (planned engine) engine.position turn.node turn

-- the move by which a computed turn of node k is settled
abbrev pub settling : ℕ → Outcome → Move
settling k (outcome.Sent message) = Send k
settling k outcome.Over = Stop k

-- a computed turn that is out is settled: what it comes to is the meaning's message at the node's next position
pub record IsSettledBy (old : EngineValue) (done : DoneValue) (new : EngineValue) : Type 0 where
  pub was_out : IsTurnOut old done.turn
  pub message : msg_for (planned old) old.position.journal done.turn.node (suc (done_at old.position.done done.turn.node))
      ≡ sent_of done.outcome
  pub moved : Moved old (settling done.turn.node done.outcome) new

-- the turn was out, and is settled; or it wasn't, and whatever turn of its node is out is free again
abbrev pub DepositedAs : EngineValue → DoneValue → EngineValue → Deposit → Type 0
DepositedAs old done new Settled = IsSettledBy old done new
DepositedAs old done new Reopened = ¬ IsTurnOut old done.turn × Moved old (Reopen done.turn.node) new

-- a message that carries a function
abbrev pub CarriesFunction : Outcome → Type 0
CarriesFunction (outcome.Sent message) = ¬ IsPlain (value_of message)
CarriesFunction outcome.Over = ⊥

-- ---- counts

-- how many turns are out
abbrev pub turns_out_at : Position → ℕ
turns_out_at position = count_by (λ out. out) position.out

-- no turn is out
abbrev pub NoneOut : Position → Type 0
NoneOut position = (k : ℕ) → is_out position.out k ≡ false

-- no turn is out, all else stays
abbrev pub all_reopened : Position → Position
all_reopened position = record position { out = replicate (length position.out) false }
