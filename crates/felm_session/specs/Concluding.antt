-- How the run of a plan is concluded.
use Rattle.std.specs.Prelude.{◌≡◌, ℕ, ◌+◌, ◌-◌, ◌*◌, ◌<◌, Bool, true, false, List, ◌++◌, Option, Some, None, length, if◌then◌else◌, is_some}
use Rattle.felm_term.specs.declared.event.Event.{Event}
use Rattle.felm_meaning.specs.PlanValue.{PlanValue}
use Rattle.felm_meaning.specs.declared.plan.Plan.{Plan}
use Rattle.felm_meaning.specs.Plans.{plan_of, SamePlan}
use Rattle.felm_meaning.specs.OfPlans.{IsCompleteFor, IsFullFor}
use Rattle.felm_meaning.specs.Histories.{journal_of}
use Rattle.felm_meaning.specs.declared.history.RunEnd.{RunEnd}
use Rattle.felm_meaning.specs.declared.history.RunEnd.TheVariants as end
use Rattle.felm_core.specs.Positions.{Position, IsReady, IsSettled}
use Rattle.felm_core.specs.Contents.{settled_at, turning}
use Rattle.felm_core.specs.Moves.{Move, Runs, beginning, progress}
use Rattle.felm_engine.specs.EngineValue.{EngineValue}
use Rattle.felm_engine.specs.Answers.{planned, NoneOut}
use Rattle.felm_engine.specs.Stops.{stop_of}
use Rattle.felm_session.specs.SessionValue.{SessionValue}
use Rattle.felm_session.specs.declared.conclusion.Concluded.{Concluded}
use Rattle.felm_session.specs.declared.conclusion.Rest.{Rest}
use Rattle.felm_session.specs.declared.conclusion.Rest.TheVariants as rest

-- ---- ends

-- where a run that ended so stands: all is settled; or the call that stopped it is its first one over budget
abbrev pub RestsAt : PlanValue → Position → RunEnd → Type 0
RestsAt plan last (end.Complete h) = IsSettled plan last
RestsAt plan last (end.Stopped journal node position) =
    0 < position → last.stop ≡ Some (record { node = node; position = position })
RestsAt plan last (end.Full h) = IsSettled plan last

-- a run that stood at a position went on to this end by moves that settled so many messages of turns
pub record GoesOn (plan : PlanValue) (start : Position) (concluded : Concluded) : Type 0 where
  pub moves : List Move
  pub last : Position
  pub runs : Runs plan start moves last
  pub journal : journal_of concluded.end ≡ last.journal
  pub rests : RestsAt plan last concluded.end
  -- the journal where it stood is the first part of the end's
  pub grows : (rest : List Event) × (journal_of concluded.end ≡ start.journal ++ rest)
  pub turns : settled_at plan last ≡ settled_at plan start + concluded.own_turns
  -- where all is settled, each node that takes turns has taken one at each event
  pub all_taken : IsSettled plan last
      → settled_at plan start + concluded.own_turns
      ≡ length (journal_of concluded.end) * turning plan.graph.nodes (length plan.graph.nodes)

-- a session of an equal plan goes on from where it stood
abbrev pub GoesOnWhereItStood : SessionValue → Plan → Concluded → Type 0
GoesOnWhereItStood session plan concluded =
    SamePlan session.engine.plan plan → GoesOn (plan_of plan) session.engine.position concluded

-- where the session's plan is another, the run begins anew
abbrev pub BeginsAnew : SessionValue → Plan → Concluded → Type 0
BeginsAnew session plan concluded =
    ¬ SamePlan session.engine.plan plan → GoesOn (plan_of plan) (beginning plan.graph) concluded

-- ---- on the way

-- a run of moves led from one engine to the other
pub record Reaches (old new : EngineValue) : Type 0 where
  pub plan : new.plan ≡ old.plan
  pub moves : List Move
  pub runs : Runs (planned old) old.position moves new.position

-- how much is left to do at most: events and turns, and to stop
abbrev pub left_for : EngineValue → ℕ
left_for engine =
    ((planned engine).limit + (planned engine).limit * turning engine.plan.graph.nodes (length engine.plan.graph.nodes)
    - progress (planned engine) engine.position)
    + (if is_some engine.position.stop then 0 else 1)

-- a run of moves led from one to the other, no turn is out, and less is left to do
pub record Advances (old new : EngineValue) : Type 0 where
  pub reaches : Reaches old new
  pub none_out : NoneOut new.position
  pub less : left_for new < left_for old

-- the least ready turn was taken; or no node is ready
abbrev pub TurnTaken : EngineValue → EngineValue → Bool → Type 0
TurnTaken old new true = Advances old new
TurnTaken old new false = ((k : ℕ) → ¬ IsReady (planned old) old.position k) × (new ≡ old)

-- nothing may be done any more: the journal is complete, or full, or a turn is over its budget
abbrev pub Rests : EngineValue → Rest → Type 0
Rests engine rest.Complete = IsSettled (planned engine) engine.position × IsCompleteFor (planned engine) engine.position.journal
Rests engine rest.Full = IsSettled (planned engine) engine.position × IsFullFor (planned engine) engine.position.journal
Rests engine (rest.Stopped stop) = engine.position.stop ≡ stop_of (Some stop)

-- the run went on a step; or it rests
abbrev pub StepsAs : EngineValue → EngineValue → Option Rest → Type 0
StepsAs old new None = Advances old new
StepsAs old new (Some rest) = (new ≡ old) × Rests old rest
