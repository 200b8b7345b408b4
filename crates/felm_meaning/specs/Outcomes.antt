-- What a computed turn comes to.
use Rattle.std.specs.Prelude.{◌≡◌, Option, Some, None}
use Rattle.felm_term.specs.declared.message.Message.{Message}
use Rattle.felm_meaning.specs.declared.outcome.Outcome.{Outcome}
use Rattle.felm_meaning.specs.declared.outcome.Outcome.TheVariants as outcome
use Rattle.felm_meaning.specs.Step.{step}
use Rattle.felm_meaning.specs.Turns.{TurnValue}

-- the message that is sent, or none
abbrev pub sent_of : Outcome → Option Message
sent_of (outcome.Sent message) = Some message
sent_of outcome.Over = None

-- a turn, and what it comes to
pub record DoneValue : Type 0 where
  pub turn : TurnValue
  pub outcome : Outcome

-- the outcome of a turn is the node step
abbrev pub IsOutcomeOf : TurnValue → Outcome → Type 0
IsOutcomeOf turn outcome = sent_of outcome ≡ step turn.job turn.previous turn.inputs turn.budget
