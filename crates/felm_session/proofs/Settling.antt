-- How many messages each call of a session settles.
use Rattle.std.proofs.Common.{◌≡◌, ℕ, suc, ◌+◌, Ok, Err, Result, IfOk, OnErr, refl, sym, ap, ◌∙◌, arith}
use Rattle.felm_term.specs.declared.memory.Memory.{Memory}
use Rattle.felm_graph.specs.Graphs.{IsGraph}
use Rattle.felm_meaning.specs.declared.plan.Plan.{Plan}
use Rattle.felm_meaning.specs.declared.outcome.Outcome.{Outcome}
use Rattle.felm_meaning.specs.declared.outcome.Outcome.TheVariants as outcome
use Rattle.felm_meaning.specs.Outcomes.{DoneValue}
use Rattle.felm_meaning.specs.PlanValue.{PlanValue}
use Rattle.felm_meaning.specs.Plans.{plan_of}
use Rattle.felm_meaning.proofs.Legal.{async_is_source, input_is_source}
use Rattle.felm_core.specs.Positions.{Position, IsSound}
use Rattle.felm_core.specs.Contents.{settled_at}
use Rattle.felm_core.specs.Moves.{Move, Feed, Enter, Claim, Send, Stop, Reopen, Leads}
use Rattle.felm_core.proofs.Runs.{waits_first}
use Rattle.felm_core.proofs.Sent.{sent_settled}
use Rattle.felm_core.proofs.Entered.{next_settled}
use Rattle.felm_engine.specs.EngineValue.{EngineValue}
use Rattle.felm_engine.specs.Answers.{planned, Moved, ClaimedNextAs, settling, DepositedAs}
use Rattle.felm_engine.specs.Bench.{settled_by}
use Rattle.felm_engine.specs.declared.answers.Claim as answers
use Rattle.felm_engine.specs.declared.answers.Claim.TheVariants as claim
use Rattle.felm_engine.specs.declared.answers.Deposit.{Deposit}
use Rattle.felm_engine.specs.declared.answers.Deposit.TheVariants.{Settled, Reopened}
use Rattle.felm_engine.specs.declared.answers.Fed.{Fed}
use Rattle.felm_engine.specs.declared.answers.Fed.TheVariants as fed
use Rattle.felm_session.specs.SessionValue.{SessionValue, settled_in}
use Rattle.felm_session.specs.Answers.{FedAs, EnteredAt}

-- how many messages a move settles
abbrev pub turns_in : Move → ℕ
turns_in (Feed k v) = 0
turns_in (Enter a) = 0
turns_in (Claim k) = 0
turns_in (Send k) = 1
turns_in (Stop k) = 0
turns_in (Reopen k) = 0

and_none : (n : ℕ) → n ≡ n + 0
and_none n = omega arith

and_one : (n : ℕ) → suc n ≡ n + 1
and_one n = omega arith

pub move_settles : (s : PlanValue) (c : Position) (m : Move) (d : Position) → IsGraph s.graph → IsSound s c → Leads s c m d
    → settled_at s d ≡ settled_at s c + turns_in m
move_settles s c (Feed k v) d graph sound h =
    ap (settled_at s) h.3 ∙
    (next_settled s c (record { source = k; value = v }) graph sound (input_is_source s.graph.nodes k h.1).0 ∙ and_none (settled_at s c))
move_settles s c (Enter a) d graph sound h =
    let w = waits_first s graph c a h.1.0 h.1.1 in
    ap (settled_at s) h.1.2 ∙
    (next_settled s c (record { source = a; value = h.1.0 }) graph sound (async_is_source s.graph.nodes a w.0 w.1).0 ∙ and_none (settled_at s c))
move_settles s c (Claim k) d graph sound h = ap (settled_at s) h.1 ∙ and_none (settled_at s c)
move_settles s c (Send k) d graph sound h =
    ap (settled_at s) h.2 ∙ (sent_settled s c k h.1.0 graph sound h.0 h.1.1 ∙ and_one (settled_at s c))
move_settles s c (Stop k) d graph sound h = ap (settled_at s) h.2 ∙ and_none (settled_at s c)
move_settles s c (Reopen k) d graph sound h = ap (settled_at s) h ∙ and_none (settled_at s c)

abbrev pub settled : EngineValue → ℕ
settled engine = settled_at (planned engine) engine.position

pub moved_settles : (old new : EngineValue) (m : Move) → IsGraph old.plan.graph → IsSound (planned old) old.position → Moved old m new
    → settled new ≡ settled old + turns_in m
moved_settles old new m graph sound moved =
    ap (λ (plan : Plan). settled_at (plan_of plan) new.position) moved.plan ∙ move_settles (planned old) old.position m new.position graph sound moved.leads

-- a move that settles none
pub stays_settled : (old new : EngineValue) (m : Move) → IsGraph old.plan.graph → IsSound (planned old) old.position → turns_in m ≡ 0 → Moved old m new
    → settled new ≡ settled old
stays_settled old new m graph sound none moved =
    moved_settles old new m graph sound moved ∙ (ap (λ (n : ℕ). settled old + n) none ∙ sym (and_none (settled old)))

same_settled : (old new : EngineValue) → new ≡ old → settled new ≡ settled old
same_settled old new e = ap settled e

-- ---- of the answers

module _ (old new : SessionValue) (graph : IsGraph old.engine.plan.graph) (sound : IsSound (planned old.engine) old.engine.position) where
  pub feed_settles : (answer : Fed) → FedAs old new answer → settled_in new ≡ settled_in old
  feed_settles (fed.At position) h = stays_settled old.engine new.engine (Feed h.event.source h.event.value) graph sound refl h.moved
  feed_settles fed.NoneLeft h = ap settled_in h.1
  feed_settles fed.NoneWaiting h = absurd h
  feed_settles fed.NoRoom h = ap settled_in h.2
  feed_settles fed.Full h = ap settled_in h.2

  pub enter_settles : (a : ℕ) (answer : Fed) → EnteredAt old a new answer → settled_in new ≡ settled_in old
  enter_settles a (fed.At position) h = stays_settled old.engine new.engine (Enter a) graph sound refl h.moved
  enter_settles a fed.NoneLeft h = absurd h
  enter_settles a fed.NoneWaiting h = ap settled_in h.1
  enter_settles a fed.NoRoom h = ap settled_in h.2
  enter_settles a fed.Full h = ap settled_in h.2

  pub enter_result_settles : (a : ℕ) (result : Result Fed Memory) → IfOk result (EnteredAt old a new) → OnErr result (new ≡ old)
      → settled_in new ≡ settled_in old
  enter_result_settles a (Ok answer) ok err = enter_settles a answer ok
  enter_result_settles a (Err memory) ok err = ap settled_in err

  claim_settles : (answer : answers.Claim) → ClaimedNextAs old.engine new.engine answer → settled_in new ≡ settled_in old
  claim_settles (claim.Got turn) h = stays_settled old.engine new.engine (Claim turn.node) graph sound refl h.1.0
  claim_settles claim.NotReady h = same_settled old.engine new.engine h.1

  pub claim_result_settles : (result : Result answers.Claim Memory) → IfOk result (ClaimedNextAs old.engine new.engine)
      → OnErr result (new.engine ≡ old.engine) → settled_in new ≡ settled_in old
  claim_result_settles (Ok answer) ok err = claim_settles answer ok
  claim_result_settles (Err memory) ok err = same_settled old.engine new.engine err

  settling_settles : (k : ℕ) (o : Outcome) → Moved old.engine (settling k o) new.engine → settled_in new ≡ settled_in old + settled_by o Settled
  settling_settles k (outcome.Sent message) moved = moved_settles old.engine new.engine (Send k) graph sound moved
  settling_settles k outcome.Over moved = moved_settles old.engine new.engine (Stop k) graph sound moved

  pub deposit_settles : (done : DoneValue) (answer : Deposit) → DepositedAs old.engine done new.engine answer
      → settled_in new ≡ settled_in old + settled_by done.outcome answer
  deposit_settles done Settled h = settling_settles done.turn.node done.outcome h.moved
  deposit_settles done Reopened h = moved_settles old.engine new.engine (Reopen done.turn.node) graph sound h.1

  pub deposit_result_settles : (done : DoneValue) (result : Result Deposit Memory) → IfOk result (DepositedAs old.engine done new.engine)
      → IfOk result (λ answer. settled_in new ≡ settled_in old + settled_by done.outcome answer)
  deposit_result_settles done (Ok answer) ok = deposit_settles done answer ok
  deposit_result_settles done (Err memory) ok = tt
