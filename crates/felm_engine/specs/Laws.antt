-- Laws of engines, in the words of their calls' contracts.
use Rattle.std.specs.Prelude.{◌≡◌, ◌⊎◌, ◌↔◌, ℕ, zero, suc, List, [], ◌∷◌, Option, Some, None, length}
use Rattle.felm_term.specs.declared.event.Event.{Event}
use Rattle.felm_graph.specs.Graphs.{IsGraph}
use Rattle.felm_meaning.specs.declared.plan.Plan.{Plan}
use Rattle.felm_meaning.specs.Plans.{plan_of}
use Rattle.felm_meaning.specs.OfPlans.{DefaultsThereFor}
use Rattle.felm_meaning.specs.Outcomes.{DoneValue}
use Rattle.felm_meaning.specs.Words.{HasCauses}
use Rattle.felm_core.specs.Positions.{IsSound, IsSettled}
use Rattle.felm_core.specs.Moves.{Move, Reopen, Runs, beginning}
use Rattle.felm_core.specs.Laws.{ComesTo}
use Rattle.felm_engine.specs.EngineValue.{EngineValue}
use Rattle.felm_engine.specs.Answers.{planned, Moved, EnteredAs, ClaimedAs, ClaimedNextAs, DepositedAs, NoneOut, all_reopened}
use Rattle.felm_engine.specs.declared.answers.Entered.{Entered}
use Rattle.felm_engine.specs.declared.answers.Entered.TheVariants as entered
use Rattle.felm_engine.specs.declared.answers.Claim as answers
use Rattle.felm_engine.specs.declared.answers.Claim.TheVariants as claim
use Rattle.felm_engine.specs.declared.answers.Deposit.{Deposit}

-- ---- moves

-- a call made some move, or changed nothing
abbrev pub MovedOrStayed : EngineValue → EngineValue → Type 0
MovedOrStayed old new = ((move : Move) × Moved old move new) ⊎ (new ≡ old)

-- the first n nodes are reopened, the greatest first
abbrev pub reopenings : ℕ → List Move
reopenings zero = []
reopenings (suc n) = Reopen n ∷ reopenings n

-- from one engine to another by calls, each of which made this move or, where there is none, changed nothing
abbrev pub Follows : EngineValue → List (Option Move) → EngineValue → Type 0
Follows old [] new = new ≡ old
Follows old (None ∷ more) new = (between : EngineValue) × (between ≡ old) × Follows between more new
Follows old (Some move ∷ more) new = (between : EngineValue) × Moved old move between × Follows between more new

-- the moves that they made
abbrev pub moves_in : List (Option Move) → List Move
moves_in [] = []
moves_in (None ∷ more) = moves_in more
moves_in (Some move ∷ more) = move ∷ moves_in more

-- each answer of a call says that the engine made a move or stayed
pub record CallsAreMoves : Type 0 where
  pub dispatch : (old : EngineValue) (e : Event) (new : EngineValue) (answer : Entered) → EnteredAs old e new answer → MovedOrStayed old new
  pub claim_is : (old : EngineValue) (k : ℕ) (new : EngineValue) (answer : answers.Claim) → ClaimedAs old k new answer → MovedOrStayed old new
  pub claim_next : (old new : EngineValue) (answer : answers.Claim) → ClaimedNextAs old new answer → MovedOrStayed old new
  pub deposit : (old : EngineValue) (done : DoneValue) (new : EngineValue) (answer : Deposit) → DepositedAs old done new answer → MovedOrStayed old new

-- to reopen all is to reopen each node
abbrev pub ReopeningAllIsARun : Type 0
ReopeningAllIsARun =
    (engine : EngineValue)
    → Runs (planned engine) engine.position (reopenings (length engine.position.out)) (all_reopened engine.position)

-- an engine that was made for a plan, whose defaults are there, and taken through calls stands for the position that their moves give, which is
-- sound; its journal is legal where the script feeds it
abbrev pub EnginesFollowTheirMoves : Type 0
EnginesFollowTheirMoves =
    (plan : Plan) (first engine : EngineValue) (calls : List (Option Move)) → IsGraph plan.graph → DefaultsThereFor (plan_of plan)
    → first.plan ≡ plan → first.position ≡ beginning plan.graph → Follows first calls engine
    → (engine.plan ≡ plan) × Runs (plan_of plan) (beginning plan.graph) (moves_in calls) engine.position
    × ComesTo (plan_of plan) (moves_in calls) engine.position

-- ---- never stuck

-- where no turn is out and nothing has stopped, the next claim finds no node ready exactly where all is settled
abbrev pub EnginesNeverStick : Type 0
EnginesNeverStick =
    (old new : EngineValue) (answer : answers.Claim) → IsGraph old.plan.graph → IsSound (planned old) old.position → NoneOut old.position
    → old.position.stop ≡ None → ClaimedNextAs old new answer → (answer ≡ claim.NotReady) ↔ IsSettled (planned old) old.position

-- where all is settled, no event lacks room
abbrev pub SettledEnginesHaveRoom : Type 0
SettledEnginesHaveRoom =
    (old new : EngineValue) (e : Event) → IsGraph old.plan.graph → IsSound (planned old) old.position → IsSettled (planned old) old.position
    → ¬ EnteredAs old e new entered.NoRoom

-- ---- journals

-- each event of an async comes after its cause, the change of its inner signal that it carries
abbrev pub JournalsHaveCauses : Type 0
JournalsHaveCauses =
    (engine : EngineValue) → IsSound (planned engine) engine.position
    → HasCauses engine.plan.graph engine.plan.limits.turn_steps engine.position.journal
