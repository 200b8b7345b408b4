-- Values and messages as texts.
use Rattle.std.specs.Prelude.{ℕ, List, ◌++◌, codes}
use Rattle.std.specs.Fmt.{signed_decimal}
use Rattle.felm_term.specs.declared.value.Value.{Value}
use Rattle.felm_term.specs.declared.value.Value.TheVariants.{Unit as UnitValue, Int, Fun}
use Rattle.felm_term.specs.declared.message.Message.{Message}
use Rattle.felm_term.specs.declared.message.Message.TheVariants.{Change, NoChange}

-- a value as it is printed
abbrev pub value_text : Value → List ℕ
value_text UnitValue = codes "()"
value_text (Int number) = signed_decimal number
value_text (Fun function) = codes "<fun>"

-- a message as it is printed
abbrev pub message_text : Message → List ℕ
message_text (Change value) = codes "change " ++ value_text value
message_text (NoChange value) = codes "same " ++ value_text value
