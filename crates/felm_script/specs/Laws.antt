-- Laws of scripts.
use Rattle.std.specs.Prelude.{◌≡◌, ◌↔◌, ◌⊎◌, ℕ, ◌+◌, ◌==◌, ◌&&◌, ◌||◌, not, Bool, true, false, List, [], ◌∷◌, ◌++◌, length, map, nat_lt, slice_get, codes, bytes_eq, Option, Some, None, Ok, Err, is_ok, IsTrue}
use Rattle.std.specs.List.{list_all, list_any, filter_map, IsDistinct}
use Rattle.felm_term.specs.Bytes.{is_blank, is_allowed, begins_comment}
use Rattle.felm_term.specs.Decimal.{signed_of}
use Rattle.felm_term.specs.Events.{all_fit}
use Rattle.felm_term.specs.Inputs.{names_of}
use Rattle.felm_term.specs.declared.event.Event.{Event}
use Rattle.felm_term.specs.declared.input.InputDecl.{InputDecl}
use Rattle.felm_term.specs.declared.input.InputTy.{InputTy}
use Rattle.felm_term.specs.declared.input.InputTy.TheVariants as type
use Rattle.felm_term.specs.declared.value.Value.{Value}
use Rattle.felm_term.specs.declared.value.Value.TheVariants as value
use Rattle.felm_script.specs.declared.fault.Cause.{Cause}
use Rattle.felm_script.specs.declared.fault.Cause.TheVariants as cause
use Rattle.felm_script.specs.declared.fault.ScriptFault.{ScriptFault}
use Rattle.felm_script.specs.Lines.{lines_of, is_filled, fields_of}
use Rattle.felm_script.specs.Script.{event_of, fault_of, script_of}

-- ---- lines and fields

-- bytes without a line feed
abbrev pub is_within_line : List ℕ → Bool
is_within_line bytes = not (list_any (λ b. b == 10) bytes)

-- a line ends with a line feed
abbrev pub LinesEndWithLineFeeds : Type 0
LinesEndWithLineFeeds = (line rest : List ℕ) → IsTrue (is_within_line line) → lines_of (line ++ 10 ∷ rest) ≡ line ∷ lines_of rest

-- the last line may end with the text
abbrev pub LastLinesMayEndWithTheText : Type 0
LastLinesMayEndWithTheText = (line : List ℕ) → IsTrue (is_within_line line) → IsTrue (is_filled line) → lines_of line ≡ line ∷ []

-- one or more bytes, and no blank among them
abbrev pub is_field : List ℕ → Bool
is_field bytes = is_filled bytes && not (list_any is_blank bytes)

-- blanks before a field are none of it
abbrev pub BlanksComeBeforeFields : Type 0
BlanksComeBeforeFields = (blanks line : List ℕ) → IsTrue (list_all is_blank blanks) → fields_of (blanks ++ line) ≡ fields_of line

-- a field ends with a blank
abbrev pub FieldsEndWithBlanks : Type 0
FieldsEndWithBlanks = (field rest : List ℕ) (blank : ℕ) → IsTrue (is_field field) → IsTrue (is_blank blank)
    → fields_of (field ++ blank ∷ rest) ≡ field ∷ fields_of rest

-- the last field may end with the line
abbrev pub LastFieldsMayEndWithTheLine : Type 0
LastFieldsMayEndWithTheLine = (field : List ℕ) → IsTrue (is_field field) → fields_of field ≡ field ∷ []

-- ---- what a line says

-- a line with these fields is skipped: there are none, or the first one begins a comment
abbrev pub are_skipped : List (List ℕ) → Bool
are_skipped [] = true
are_skipped (first ∷ fields) = begins_comment first

-- a line is no event: it holds a byte that no text may hold, or it isn't skipped and has more than two fields
abbrev pub is_no_event : List ℕ → Bool
is_no_event line = not (list_all is_allowed line) || (not (are_skipped (fields_of line)) && nat_lt 2 (length (fields_of line)))

-- the first field is no declared input
abbrev pub name_no_input : List InputDecl → List (List ℕ) → Bool
name_no_input inputs [] = false
name_no_input inputs (name ∷ fields) = not (list_any (bytes_eq name) (names_of inputs))

-- a line says nothing exactly where it is skipped and each of its bytes is allowed
abbrev pub SkippedLinesSayNothing : Type 0
SkippedLinesSayNothing =
    (inputs : List InputDecl) (line : List ℕ)
    → (event_of inputs line ≡ Ok None) ↔ IsTrue (list_all is_allowed line && are_skipped (fields_of line))

-- a line is refused as no event exactly where it is none
abbrev pub LinesAreNoEvents : Type 0
LinesAreNoEvents = (inputs : List InputDecl) (line : List ℕ) → (event_of inputs line ≡ Err cause.Line) ↔ IsTrue (is_no_event line)

-- a line is refused for its name exactly where it is neither that nor skipped, and its first field is no declared input
abbrev pub LinesNameNoInput : Type 0
LinesNameNoInput =
    (inputs : List InputDecl) (line : List ℕ)
    → (event_of inputs line ≡ Err cause.Name)
    ↔ IsTrue (not (is_no_event line) && not (are_skipped (fields_of line)) && name_no_input inputs (fields_of line))

-- fields give an input of a type this value: a number, or nothing or `()` where the type is unit
abbrev pub GiveValue : InputTy → List (List ℕ) → Value → Type 0
GiveValue type.Int fields (value.Int n) = (digits : List ℕ) × (fields ≡ digits ∷ []) × (signed_of digits ≡ Some n)
GiveValue type.Unit fields value.Unit = (fields ≡ []) ⊎ (fields ≡ codes "()" ∷ [])
GiveValue ty fields v = ⊥

-- the line of an event: the name of its input, and then what gives the value
pub record IsEventLine (inputs : List InputDecl) (line : List ℕ) (event : Event) : Type 0 where
  pub input : InputDecl
  pub fields : List (List ℕ)
  pub allowed : IsTrue (list_all is_allowed line)
  pub written : fields_of line ≡ input.name ∷ fields
  pub no_comment : IsTrue (not (begins_comment input.name))
  pub declared : slice_get inputs event.source ≡ Some input
  pub given : GiveValue input.ty fields event.value

-- where names are distinct a line says an event exactly where it is the line of that event
abbrev pub EventsHaveTheirLines : Type 0
EventsHaveTheirLines =
    (inputs : List InputDecl) (line : List ℕ) (event : Event) → IsDistinct bytes_eq (names_of inputs)
    → (event_of inputs line ≡ Ok (Some event)) ↔ IsEventLine inputs line event

-- a line that names an input whose type asks for another value, or for one that is missing
pub record HasWrongValue (inputs : List InputDecl) (line : List ℕ) : Type 0 where
  pub input : InputDecl
  pub source : ℕ
  pub fields : List (List ℕ)
  pub well_formed : IsTrue (not (is_no_event line))
  pub unskipped : IsTrue (not (are_skipped (fields_of line)))
  pub written : fields_of line ≡ input.name ∷ fields
  pub declared : slice_get inputs source ≡ Some input
  pub not_given : (v : Value) → ¬ GiveValue input.ty fields v

-- where names are distinct a line is refused for its value exactly where it has a wrong one
abbrev pub LinesHaveWrongValues : Type 0
LinesHaveWrongValues =
    (inputs : List InputDecl) (line : List ℕ) → IsDistinct bytes_eq (names_of inputs)
    → (event_of inputs line ≡ Err cause.Literal) ↔ HasWrongValue inputs line

-- ---- scripts

-- where each line says an event or nothing, the script is those events in order; a script that is accepted has no others
abbrev pub ScriptsAreTheirLines : Type 0
ScriptsAreTheirLines =
    (inputs : List InputDecl) (text : List ℕ) (events : List Event)
    → (script_of inputs text ≡ Ok events)
    ↔ ((said : List (Option Event)) × (map (event_of inputs) (lines_of text) ≡ map Ok said) × (events ≡ filter_map (λ event. event) said))

-- the fault of the first line that is refused, with its number and its cause
pub record IsFirstRefusal (inputs : List InputDecl) (lines : List (List ℕ)) (fault : ScriptFault) : Type 0 where
  pub before : List (List ℕ)
  pub line : List ℕ
  pub after : List (List ℕ)
  pub cause : Cause
  pub stands : lines ≡ before ++ line ∷ after
  pub accepted : IsTrue (list_all (λ earlier. is_ok (event_of inputs earlier)) before)
  pub refused : event_of inputs line ≡ Err cause
  pub named : fault ≡ fault_of cause (length before + 1)

-- a script's fault is that of its first refused line
abbrev pub FaultsAreOfTheFirstRefusedLine : Type 0
FaultsAreOfTheFirstRefusedLine =
    (inputs : List InputDecl) (text : List ℕ) (fault : ScriptFault) → (script_of inputs text ≡ Err fault) ↔ IsFirstRefusal inputs (lines_of text) fault

-- each event of a script names an input, and has a value of its type
abbrev pub ReadEventsFit : Type 0
ReadEventsFit = (inputs : List InputDecl) (text : List ℕ) (events : List Event) → script_of inputs text ≡ Ok events → IsTrue (all_fit inputs events)
