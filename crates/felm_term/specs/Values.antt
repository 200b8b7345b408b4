-- Values as closed terms.
use Rattle.felm_term.specs.CoreTerm.{CoreTerm}
use Rattle.felm_term.specs.CoreTerm as term
use Rattle.felm_term.specs.declared.value.Value.{Value}
use Rattle.felm_term.specs.declared.value.Value.TheVariants as value
use Rattle.felm_term.specs.declared.message.Message.{Message}
use Rattle.felm_term.specs.declared.message.Message.TheVariants.{Change, NoChange}

-- the closed term that a value is
abbrev pub term_of : Value → CoreTerm
term_of value.Unit = term.Unit
term_of (value.Int number) = term.Int number
term_of (value.Fun function) = function

-- unit or a number: no function
abbrev pub IsPlain : Value → Type 0
IsPlain value.Unit = Unit {0}
IsPlain (value.Int number) = Unit {0}
IsPlain (value.Fun function) = ⊥

-- what a message says that its signal has
abbrev pub value_of : Message → Value
value_of (Change value) = value
value_of (NoChange value) = value
