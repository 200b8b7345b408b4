-- What is read for inputs fits them.
use Rattle.std.proofs.Common.{◌≡◌, ℕ, ◌&&◌, Bool, true, false, List, [], ◌∷◌, length, map, Option, Some, None, Result, Ok, Err, refl, sym, ap, ◌∙◌, nat_lt}
use Rattle.std.specs.Prelude.{bytes_eq, position, codes, if◌then◌else◌}
use Rattle.std.specs.List.{list_all, slice_get, filter_map, cons_option}
use Rattle.std.specs.Option.{option_map, option_and_then, option_map_or}
use Rattle.std.proofs.Math.IntN.{ℤ}
use Rattle.felm_term.specs.Bytes.{is_allowed, begins_comment}
use Rattle.felm_term.specs.Decimal.{signed_of}
use Rattle.felm_term.specs.Events.{has_type, fits, all_fit}
use Rattle.felm_term.specs.Inputs.{names_of}
use Rattle.felm_term.specs.declared.event.Event.{Event}
use Rattle.felm_term.specs.declared.input.InputDecl.{InputDecl}
use Rattle.felm_term.specs.declared.input.InputTy.{InputTy}
use Rattle.felm_term.specs.declared.input.InputTy.TheVariants as type
use Rattle.felm_term.specs.declared.value.Value.{Value}
use Rattle.felm_term.specs.declared.value.Value.TheVariants as value
use Rattle.felm_script.specs.declared.fault.Cause.{Cause}
use Rattle.felm_script.specs.declared.fault.Cause.TheVariants as cause
use Rattle.felm_script.specs.declared.fault.ScriptFault.{ScriptFault}
use Rattle.felm_script.specs.Lines.{lines_of, fields_of}
use Rattle.felm_script.specs.Script.{value_of, event_with, event_at, event_of_fields, event_of, first_fault, event_said, unless}
use Rattle.felm_script.specs.Laws.{ReadEventsFit}

-- an event that is said fits the inputs
abbrev SaidFits : List InputDecl → Result (Option Event) Cause → Type 0
SaidFits inputs (Ok (Some event)) = fits inputs event ≡ true
SaidFits inputs (Ok None) = Unit {0}
SaidFits inputs (Err cause) = Unit {0}

-- a value that fields give an input is of its type
abbrev OfType : InputTy → Option Value → Type 0
OfType ty None = Unit {0}
OfType ty (Some v) = has_type ty v ≡ true

int_of_type : (n : Option ℤ) → OfType type.Int (option_map value.Int n)
int_of_type None = tt
int_of_type (Some n) = refl

unit_of_type : (b : Bool) → OfType type.Unit (if b then Some value.Unit else None)
unit_of_type true = refl
unit_of_type false = tt

of_type : (ty : InputTy) (fields : List (List ℕ)) → OfType ty (value_of ty fields)
of_type type.Int [] = tt
of_type type.Int (field ∷ []) = int_of_type (signed_of field)
of_type type.Int (field ∷ other ∷ more) = tt
of_type type.Unit [] = refl
of_type type.Unit (field ∷ []) = unit_of_type (bytes_eq field (codes "()"))
of_type type.Unit (field ∷ other ∷ more) = tt

-- whether an input has a value's type, if there is one
abbrev has_its_type : Value → Option InputDecl → Bool
has_its_type v input = option_map_or (λ (i : InputDecl). has_type i.ty v) input false

with_fits : (inputs : List InputDecl) (source : ℕ) (input : InputDecl) (v : Option Value) → slice_get inputs source ≡ Some input → OfType input.ty v
    → SaidFits inputs (event_with source v)
with_fits inputs source input None is typed = tt
with_fits inputs source input (Some v) is typed = ap (has_its_type v) is ∙ typed

at_fits : (inputs : List InputDecl) (place : Option ℕ) (fields : List (List ℕ)) → SaidFits inputs (event_at inputs place fields)
at_fits inputs None fields = tt
at_fits inputs (Some source) fields =
    (elim (slice_get inputs source) as (λ o. slice_get inputs source ≡ o → SaidFits inputs (event_with source (option_and_then (λ (input : InputDecl). value_of input.ty fields) o))) [
      | None ↦ λ e. tt
      | Some input ↦ λ e. with_fits inputs source input (value_of input.ty fields) e (of_type input.ty fields)
    ]) refl

unless_long : (inputs : List InputDecl) (long : Bool) (said : Result (Option Event) Cause) → SaidFits inputs said
    → SaidFits inputs (if long then Err cause.Line else said)
unless_long inputs true said fit = tt
unless_long inputs false said fit = fit

unless_skipped : (inputs : List InputDecl) (skipped : Bool) (said : Result (Option Event) Cause) → SaidFits inputs said
    → SaidFits inputs (if skipped then Ok None else said)
unless_skipped inputs true said fit = tt
unless_skipped inputs false said fit = fit

fields_fit : (inputs : List InputDecl) (fields : List (List ℕ)) → SaidFits inputs (event_of_fields inputs fields)
fields_fit inputs [] = tt
fields_fit inputs (name ∷ fields) =
    let place = position (bytes_eq name) (names_of inputs) in
    unless_skipped inputs (begins_comment name) _ (unless_long inputs (nat_lt 2 (length (name ∷ fields))) (event_at inputs place fields) (at_fits inputs place fields))

if_allowed : (inputs : List InputDecl) (allowed : Bool) (said : Result (Option Event) Cause) → SaidFits inputs said
    → SaidFits inputs (if allowed then said else Err cause.Line)
if_allowed inputs true said fit = fit
if_allowed inputs false said fit = tt

line_fits : (inputs : List InputDecl) (line : List ℕ) → SaidFits inputs (event_of inputs line)
line_fits inputs line = if_allowed inputs (list_all is_allowed line) (event_of_fields inputs (fields_of line)) (fields_fit inputs (fields_of line))

one_more : (inputs : List InputDecl) (said : Result (Option Event) Cause) (events : List Event) → SaidFits inputs said → all_fit inputs events ≡ true
    → all_fit inputs (cons_option (event_said said) events) ≡ true
one_more inputs (Ok (Some event)) events fit all = ap (λ b. b && all_fit inputs events) fit ∙ all
one_more inputs (Ok None) events fit all = all
one_more inputs (Err cause) events fit all = all

lines_fit : (inputs : List InputDecl) (lines : List (List ℕ)) → all_fit inputs (filter_map event_said (map (event_of inputs) lines)) ≡ true
lines_fit inputs [] = refl
lines_fit inputs (line ∷ lines) =
    one_more inputs (event_of inputs line) (filter_map event_said (map (event_of inputs) lines)) (line_fits inputs line) (lines_fit inputs lines)

accepted : (fault : Option ScriptFault) (events others : List Event) → unless fault events ≡ Ok others → events ≡ others
accepted None events others h = cc
accepted (Some fault) events others h = cc

pub fit : ReadEventsFit
fit inputs text events h =
    let said = map (event_of inputs) (lines_of text) in
    let same = accepted (first_fault 1 said) (filter_map event_said said) events h in
    ap (all_fit inputs) (sym same) ∙ lines_fit inputs (lines_of text)
