-- What a script says: the events of its lines, or its first refused line.
use Rattle.std.specs.Prelude.{◌≡◌, ⊤, ℕ, ◌+◌, nat_lt, List, [], ◌∷◌, length, map, slice_get, position, codes, bytes_eq, Option, Some, None, Result, Ok, Err, if◌then◌else◌}
use Rattle.std.specs.List.{list_all, filter_map}
use Rattle.std.specs.Option.{option_map, option_and_then}
use Rattle.felm_term.specs.Bytes.{is_allowed, begins_comment}
use Rattle.felm_term.specs.Inputs.{names_of}
use Rattle.felm_term.specs.Decimal.{signed_of}
use Rattle.felm_term.specs.declared.event.Event.{Event}
use Rattle.felm_term.specs.declared.value.Value.{Value}
use Rattle.felm_term.specs.declared.value.Value.TheVariants as value
use Rattle.felm_term.specs.declared.input.InputDecl.{InputDecl}
use Rattle.felm_term.specs.declared.input.InputTy.{InputTy}
use Rattle.felm_term.specs.declared.input.InputTy.TheVariants as type
use Rattle.felm_script.specs.declared.fault.Cause.{Cause}
use Rattle.felm_script.specs.declared.fault.Cause.TheVariants as cause
use Rattle.felm_script.specs.declared.fault.ScriptFault.{ScriptFault}
use Rattle.felm_script.specs.declared.fault.ScriptFault.TheVariants as fault
use Rattle.felm_script.specs.Lines.{lines_of, fields_of}

-- the value that the fields behind its name give an input: a number, or nothing or `()` where it is of type unit
abbrev pub value_of : InputTy → List (List ℕ) → Option Value
value_of type.Int (field ∷ []) = option_map value.Int (signed_of field)
value_of type.Unit [] = Some value.Unit
value_of type.Unit (field ∷ []) = if bytes_eq field (codes "()") then Some value.Unit else None
value_of ty fields = None

-- the event of an input with this value
abbrev pub event_with : ℕ → Option Value → Result (Option Event) Cause
event_with source (Some value) = Ok (Some (record { source = source; value = value }))
event_with source None = Err cause.Literal

-- the event of the input at this place, if a name has one
abbrev pub event_at : List InputDecl → Option ℕ → List (List ℕ) → Result (Option Event) Cause
event_at inputs (Some source) fields = event_with source (option_and_then (λ input. value_of input.ty fields) (slice_get inputs source))
event_at inputs None fields = Err cause.Name

-- what the fields of a line say: an event, or nothing where there are none or a comment begins
abbrev pub event_of_fields : List InputDecl → List (List ℕ) → Result (Option Event) Cause
event_of_fields inputs [] = Ok None
event_of_fields inputs (name ∷ fields) =
    if begins_comment name then Ok None
    else (if nat_lt 2 (length (name ∷ fields)) then Err cause.Line
    else event_at inputs (position (bytes_eq name) (names_of inputs)) fields)

-- what a line says: an event or nothing, or the cause of its refusal
abbrev pub event_of : List InputDecl → List ℕ → Result (Option Event) Cause
event_of inputs line = if list_all is_allowed line then event_of_fields inputs (fields_of line) else Err cause.Line

-- the fault of a line that is refused
abbrev pub fault_of : Cause → ℕ → ScriptFault
fault_of cause.Line line = fault.Line line
fault_of cause.Name line = fault.Name line
fault_of cause.Literal line = fault.Literal line

-- the first refusal among what lines say, the first of them with this number
abbrev pub first_fault : ℕ → List (Result (Option Event) Cause) → Option ScriptFault
first_fault line [] = None
first_fault line (Ok event ∷ said) = first_fault (line + 1) said
first_fault line (Err cause ∷ said) = Some (fault_of cause line)

-- the event that a line says, if it says one
abbrev pub event_said : Result (Option Event) Cause → Option Event
event_said (Ok event) = event
event_said (Err cause) = None

-- a list of events, unless there is a fault
abbrev pub unless : Option ScriptFault → List Event → Result (List Event) ScriptFault
unless None events = Ok events
unless (Some fault) events = Err fault

-- what all lines say: their events in order, unless one is refused
abbrev pub script_said : List (Result (Option Event) Cause) → Result (List Event) ScriptFault
script_said said = unless (first_fault 1 said) (filter_map event_said said)

-- the events of a script, or the fault of its first refused line
abbrev pub script_of : List InputDecl → List ℕ → Result (List Event) ScriptFault
script_of inputs text = script_said (map (event_of inputs) (lines_of text))

-- a script is refused with this fault; want of memory says nothing of it
abbrev pub IsRefusal : Result (List Event) ScriptFault → ScriptFault → Type 0
IsRefusal script (fault.Line line) = script ≡ Err (fault.Line line)
IsRefusal script (fault.Name line) = script ≡ Err (fault.Name line)
IsRefusal script (fault.Literal line) = script ≡ Err (fault.Literal line)
IsRefusal script fault.Memory = ⊤
