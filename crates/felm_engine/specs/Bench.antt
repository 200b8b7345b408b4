-- What a bench answers.
use Rattle.std.specs.Prelude.{ℕ, if◌then◌else◌, is_some}
use Rattle.felm_meaning.specs.declared.outcome.Outcome.{Outcome}
use Rattle.felm_meaning.specs.Outcomes.{sent_of}
use Rattle.felm_engine.specs.declared.answers.Entered.{Entered}
use Rattle.felm_engine.specs.declared.answers.Entered.TheVariants as entered
use Rattle.felm_engine.specs.declared.answers.Fed.{Fed}
use Rattle.felm_engine.specs.declared.answers.Fed.TheVariants as fed
use Rattle.felm_engine.specs.declared.answers.Deposit.{Deposit}
use Rattle.felm_engine.specs.declared.answers.Deposit.TheVariants.{Settled, Reopened}

-- how many messages a deposit settles: one where it settles a turn that sends one
abbrev pub settled_by : Outcome → Deposit → ℕ
settled_by outcome Settled = if is_some (sent_of outcome) then 1 else 0
settled_by outcome Reopened = 0

-- what a feed answers where its event's entry answers this
abbrev pub fed_of : Entered → Fed
fed_of (entered.At position) = fed.At position
fed_of entered.NoRoom = fed.NoRoom
fed_of entered.Full = fed.Full
