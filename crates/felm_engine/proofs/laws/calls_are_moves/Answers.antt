use Rattle.std.proofs.Common.{inl, inr}
use Rattle.felm_term.specs.declared.event.Event.{Event}
use Rattle.felm_meaning.specs.Outcomes.{DoneValue}
use Rattle.felm_engine.specs.EngineValue.{EngineValue}
use Rattle.felm_engine.specs.Answers.{EnteredAs, DepositedAs}
use Rattle.felm_engine.specs.Laws.{MovedOrStayed}
use Rattle.felm_engine.specs.declared.answers.Entered.{Entered}
use Rattle.felm_engine.specs.declared.answers.Entered.TheVariants as entered
use Rattle.felm_engine.specs.declared.answers.Deposit.{Deposit}
use Rattle.felm_engine.specs.declared.answers.Deposit.TheVariants.{Settled, Reopened}
use Rattle.felm_engine.specs.declared.answers.Claim as answers
use Rattle.felm_engine.specs.declared.answers.Claim.TheVariants as claim
use Rattle.felm_engine.specs.Answers.{ClaimedNextAs}
use Rattle.felm_engine.proofs.EngineLaws.{claimed_moves}
use Rattle.felm_engine.proofs.laws.calls_are_moves.Goals as goal

entered_moves : (old : EngineValue) (e : Event) (new : EngineValue) (answer : Entered) → EnteredAs old e new answer → MovedOrStayed old new
entered_moves old e new (entered.At position) h = inl (_, h.1)
entered_moves old e new entered.NoRoom h = inr h.2
entered_moves old e new entered.Full h = inr h.1

next_moves : (old new : EngineValue) (answer : answers.Claim) → ClaimedNextAs old new answer → MovedOrStayed old new
next_moves old new (claim.Got turn) h = inl (_, h.1.0)
next_moves old new claim.NotReady h = inr h.1

deposited_moves : (old : EngineValue) (done : DoneValue) (new : EngineValue) (answer : Deposit) → DepositedAs old done new answer → MovedOrStayed old new
deposited_moves old done new Settled h = inl (_, h.moved)
deposited_moves old done new Reopened h = inl (_, h.1)

pub returns : goal.returns
returns c = record { dispatch = entered_moves; claim_is = claimed_moves; claim_next = next_moves; deposit = deposited_moves }
