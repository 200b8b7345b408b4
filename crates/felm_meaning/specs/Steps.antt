-- What a turn does with its node's value.
use Rattle.std.specs.Prelude.{Option, Some, None}
use Rattle.felm_term.specs.declared.value.Value.{Value}
use Rattle.felm_term.specs.declared.message.Message.{Message}
use Rattle.felm_term.specs.declared.message.Message.TheVariants as message
use Rattle.felm_meaning.specs.declared.step.Step.{Step}
use Rattle.felm_meaning.specs.declared.step.Step.TheVariants.{Change, Keep, Over}

-- the message of a node that had a value before its step, or none
abbrev pub sent_by : Value → Step → Option Message
sent_by old (Change v) = Some (message.Change v)
sent_by old Keep = Some (message.NoChange old)
sent_by old Over = None
