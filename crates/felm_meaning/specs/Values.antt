-- Values and messages at places.
use Rattle.std.specs.Prelude.{List, ℕ, map, slice_index_or}
use Rattle.felm_term.specs.declared.value.Value.{Value}
use Rattle.felm_term.specs.declared.value.Value.TheVariants as value
use Rattle.felm_term.specs.declared.message.Message.{Message}
use Rattle.felm_term.specs.declared.message.Message.TheVariants.{NoChange}

-- the values at these places; past the end there is unit
abbrev pub values_at : List Value → List ℕ → List Value
values_at values places = map (λ place. slice_index_or values place value.Unit) places

-- the message at a place; past the end there is NoChange of unit
abbrev pub message_at : List Message → ℕ → Message
message_at messages place = slice_index_or messages place (NoChange value.Unit)

-- the messages at these places
abbrev pub messages_at : List Message → List ℕ → List Message
messages_at messages places = map (λ place. message_at messages place) places
