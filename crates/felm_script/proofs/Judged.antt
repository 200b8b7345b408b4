-- What a line says, by the format's own words.
use Rattle.std.proofs.Common.{◌≡◌, ℕ, zero, suc, ◌+◌, ◌<◌, ◌&&◌, ◌||◌, not, cond, Bool, true, false, List, [], ◌∷◌, length, get_or, Option, Some, None, Result, Ok, Err, refl, sym, ap, ◌∙◌, subst, inl, inr, arith, nat_lt}
use Rattle.std.specs.Prelude.{◌↔◌, bytes_eq, position, codes, if◌then◌else◌}
use Rattle.std.specs.List.{list_all, list_any, slice_get, position_or_len, IsDistinct}
use Rattle.std.specs.Option.{is_some, option_map, option_and_then}
use Rattle.std.proofs.Math.IntN.{ℤ}
use Rattle.std.proofs.lemmas.Bool.Decides.{leb_tells, nat_tests}
use Rattle.std.proofs.lemmas.List.{length-map}
use Rattle.std.proofs.lemmas.List.Quantifiers.{position-Some}
use Rattle.std.proofs.lemmas.List.Sums.{position_or_len_is}
use Rattle.std.proofs.lemmas.Map.Keys.{apart_from_distinct}
use Rattle.std.proofs.lemmas.Slice.Eq.{bytes_eq-Decides}
use Rattle.felm_term.specs.Bytes.{is_allowed, begins_comment}
use Rattle.felm_term.specs.Decimal.{signed_of}
use Rattle.felm_term.specs.Inputs.{names_of}
use Rattle.felm_term.specs.declared.event.Event.{Event}
use Rattle.felm_term.specs.declared.input.InputDecl.{InputDecl}
use Rattle.felm_term.specs.declared.input.InputTy.{InputTy}
use Rattle.felm_term.specs.declared.input.InputTy.TheVariants as type
use Rattle.felm_term.specs.declared.value.Value.{Value}
use Rattle.felm_term.specs.declared.value.Value.TheVariants as value
use Rattle.felm_script.specs.declared.fault.Cause.{Cause}
use Rattle.felm_script.specs.declared.fault.Cause.TheVariants as cause
use Rattle.felm_script.specs.Lines.{fields_of}
use Rattle.felm_script.specs.Script.{value_of, event_with, event_at, event_of_fields}
use Rattle.felm_script.specs.Laws.{are_skipped, name_no_input, GiveValue, SkippedLinesSayNothing, LinesAreNoEvents, LinesNameNoInput, LinesHaveWrongValues, EventsHaveTheirLines}

-- what is said of a line, by whether it is skipped, and whether it has too many fields
abbrev chosen : Bool → Bool → Result (Option Event) Cause → Result (Option Event) Cause
chosen skipped long said = if skipped then Ok None else (if long then Err cause.Line else said)

-- what a line says, by whether each byte is allowed, and its fields
abbrev judged : List InputDecl → Bool → List (List ℕ) → Result (Option Event) Cause
judged inputs allowed fields = if allowed then event_of_fields inputs fields else Err cause.Line

abbrev is_long : List (List ℕ) → Bool
is_long fields = nat_lt 2 (length fields)

-- ---- what the value of an input never is

with_no_line : (source : ℕ) (v : Option Value) → event_with source v ≡ Err cause.Line → ⊥
with_no_line source None h = cc
with_no_line source (Some v) h = cc

with_something : (source : ℕ) (v : Option Value) → event_with source v ≡ Ok None → ⊥
with_something source None h = cc
with_something source (Some v) h = cc

with_name : (source : ℕ) (v : Option Value) → event_with source v ≡ Err cause.Name → ⊥
with_name source None h = cc
with_name source (Some v) h = cc

never_line : (inputs : List InputDecl) (place : Option ℕ) (fields : List (List ℕ)) → event_at inputs place fields ≡ Err cause.Line → ⊥
never_line inputs None fields h = cc
never_line inputs (Some source) fields h = with_no_line source (option_and_then (λ (input : InputDecl). value_of input.ty fields) (slice_get inputs source)) h

never_nothing : (inputs : List InputDecl) (place : Option ℕ) (fields : List (List ℕ)) → event_at inputs place fields ≡ Ok None → ⊥
never_nothing inputs None fields h = cc
never_nothing inputs (Some source) fields h = with_something source (option_and_then (λ (input : InputDecl). value_of input.ty fields) (slice_get inputs source)) h

-- ---- no event

long_chosen : (skipped long : Bool) (said : Result (Option Event) Cause) → (said ≡ Err cause.Line → ⊥)
    → (chosen skipped long said ≡ Err cause.Line) ↔ (not skipped && long ≡ true)
long_chosen true long said never = (λ h. cc, λ h. cc)
long_chosen false true said never = (λ h. refl, λ h. refl)
long_chosen false false said never = (λ h. absurd (never h), λ h. cc)

no_event_judged : (inputs : List InputDecl) (allowed : Bool) (fields : List (List ℕ))
    → (judged inputs allowed fields ≡ Err cause.Line) ↔ (not allowed || (not (are_skipped fields) && is_long fields) ≡ true)
no_event_judged inputs false fields = (λ h. refl, λ h. refl)
no_event_judged inputs true [] = (λ h. cc, λ h. cc)
no_event_judged inputs true (name ∷ fields) =
    let place = position (bytes_eq name) (names_of inputs) in
    long_chosen (begins_comment name) (is_long (name ∷ fields)) (event_at inputs place fields) (never_line inputs place fields)

pub no_events : LinesAreNoEvents
no_events inputs line = no_event_judged inputs (list_all is_allowed line) (fields_of line)

-- ---- skipped

skipped_chosen : (skipped long : Bool) (said : Result (Option Event) Cause) → (said ≡ Ok None → ⊥)
    → (chosen skipped long said ≡ Ok None) ↔ (skipped ≡ true)
skipped_chosen true long said never = (λ h. refl, λ h. refl)
skipped_chosen false true said never = (λ h. cc, λ h. cc)
skipped_chosen false false said never = (λ h. absurd (never h), λ h. cc)

skipped_judged : (inputs : List InputDecl) (allowed : Bool) (fields : List (List ℕ))
    → (judged inputs allowed fields ≡ Ok None) ↔ (allowed && are_skipped fields ≡ true)
skipped_judged inputs false fields = (λ h. cc, λ h. cc)
skipped_judged inputs true [] = (λ h. refl, λ h. refl)
skipped_judged inputs true (name ∷ fields) =
    let place = position (bytes_eq name) (names_of inputs) in
    skipped_chosen (begins_comment name) (is_long (name ∷ fields)) (event_at inputs place fields) (never_nothing inputs place fields)

pub skipped : SkippedLinesSayNothing
skipped inputs line = skipped_judged inputs (list_all is_allowed line) (fields_of line)

-- ---- no input of that name

one_more : (found any : Bool) (n l : ℕ) → nat_lt n l ≡ any → nat_lt (cond (not found) (1 + n) 0) (suc l) ≡ (found || any)
one_more true any n l h = grind (arith, leb_tells)
one_more false any n l h = grind (arith, leb_tells)

before_the_end : {X : Type 0} (p : X → Bool) (xs : List X) → nat_lt (position_or_len p xs) (length xs) ≡ list_any p xs
before_the_end p [] = refl
before_the_end p (x ∷ xs) = one_more (p x) (list_any p xs) (position_or_len p xs) (length xs) (before_the_end p xs)

has_place : (b : Bool) (n : ℕ) → is_some (cond b (Some n) None) ≡ b
has_place true n = refl
has_place false n = refl

-- a list has a position of an element that passes exactly where it has such an element
is_some-position : {X : Type 0} (p : X → Bool) (xs : List X) → is_some (position p xs) ≡ list_any p xs
is_some-position p xs = has_place (nat_lt (position_or_len p xs) (length xs)) (position_or_len p xs) ∙ before_the_end p xs

unknown_at : (inputs : List InputDecl) (place : Option ℕ) (fields : List (List ℕ)) (known : Bool) → is_some place ≡ known
    → (event_at inputs place fields ≡ Err cause.Name) ↔ (not known ≡ true)
unknown_at inputs None fields known is = (λ h. ap not (sym is), λ h. refl)
unknown_at inputs (Some source) fields known is = (
  λ h. absurd (with_name source (option_and_then (λ (input : InputDecl). value_of input.ty fields) (slice_get inputs source)) h),
  λ h. let wrong : not true ≡ true = ap not is ∙ h in cc,
)

unknown_chosen : (skipped long unknown : Bool) (said : Result (Option Event) Cause) → (said ≡ Err cause.Name) ↔ (unknown ≡ true)
    → (chosen skipped long said ≡ Err cause.Name) ↔ (not (not skipped && long) && not skipped && unknown ≡ true)
unknown_chosen true long unknown said is = (λ h. cc, λ h. cc)
unknown_chosen false true unknown said is = (λ h. cc, λ h. cc)
unknown_chosen false false unknown said is = is

unknown_judged : (inputs : List InputDecl) (allowed : Bool) (fields : List (List ℕ))
    → (judged inputs allowed fields ≡ Err cause.Name)
    ↔ (not (not allowed || (not (are_skipped fields) && is_long fields)) && not (are_skipped fields) && name_no_input inputs fields ≡ true)
unknown_judged inputs false fields = (λ h. cc, λ h. cc)
unknown_judged inputs true [] = (λ h. cc, λ h. cc)
unknown_judged inputs true (name ∷ fields) =
    let place = position (bytes_eq name) (names_of inputs) in
    let known = list_any (bytes_eq name) (names_of inputs) in
    unknown_chosen (begins_comment name) (is_long (name ∷ fields)) (not known) (event_at inputs place fields)
    (unknown_at inputs place fields known (is_some-position (bytes_eq name) (names_of inputs)))

pub unknown : LinesNameNoInput
unknown inputs line = unknown_judged inputs (list_all is_allowed line) (fields_of line)

-- ---- events

-- a value and the fields that give it
int_gives : (digits : List ℕ) (n : Option ℤ) (v : Value) → signed_of digits ≡ n → option_map value.Int n ≡ Some v → GiveValue type.Int (digits ∷ []) v
int_gives digits None v is h = cc
int_gives digits (Some n) v is h =
    let same : value.Int n ≡ v = cc in subst (GiveValue type.Int (digits ∷ [])) same (digits, refl, is)

unit_gives : (field : List ℕ) (b : Bool) (v : Value) → bytes_eq field (codes "()") ≡ b → (if b then Some value.Unit else None) ≡ Some v
    → GiveValue type.Unit (field ∷ []) v
unit_gives field true v is h =
    let same : value.Unit ≡ v = cc in
    let brackets : field ≡ codes "()" = (bytes_eq-Decides field (codes "()")).0 is in
    subst (GiveValue type.Unit (field ∷ [])) same (inr (ap (λ f. f ∷ []) brackets))
unit_gives field false v is h = cc

gives : (ty : InputTy) (fields : List (List ℕ)) (v : Value) → value_of ty fields ≡ Some v → GiveValue ty fields v
gives type.Int [] v h = cc
gives type.Int (digits ∷ []) v h = int_gives digits (signed_of digits) v refl h
gives type.Int (digits ∷ other ∷ more) v h = cc
gives type.Unit [] v h = let same : value.Unit ≡ v = cc in subst (GiveValue type.Unit []) same (inl refl)
gives type.Unit (field ∷ []) v h = unit_gives field (bytes_eq field (codes "()")) v refl h
gives type.Unit (field ∷ other ∷ more) v h = cc

given : (ty : InputTy) (fields : List (List ℕ)) (v : Value) → GiveValue ty fields v → value_of ty fields ≡ Some v
given type.Int fields (value.Int n) (digits, is, read) = ap (value_of type.Int) is ∙ ap (option_map value.Int) read
given type.Int fields value.Unit h = absurd h
given type.Int fields (value.Fun f) h = absurd h
given type.Unit fields value.Unit (inl is) = ap (value_of type.Unit) is
given type.Unit fields value.Unit (inr is) = ap (value_of type.Unit) is
given type.Unit fields (value.Int n) h = absurd h
given type.Unit fields (value.Fun f) h = absurd h

-- the fields that give a value are no more than one
short : (name : List ℕ) (ty : InputTy) (fields : List (List ℕ)) (v : Value) → GiveValue ty fields v → is_long (name ∷ fields) ≡ false
short name type.Int fields (value.Int n) (digits, is, read) = ap (λ fs. is_long (name ∷ fs)) is
short name type.Int fields value.Unit h = absurd h
short name type.Int fields (value.Fun f) h = absurd h
short name type.Unit fields value.Unit (inl is) = ap (λ fs. is_long (name ∷ fs)) is
short name type.Unit fields value.Unit (inr is) = ap (λ fs. is_long (name ∷ fs)) is
short name type.Unit fields (value.Int n) h = absurd h
short name type.Unit fields (value.Fun f) h = absurd h

-- places of inputs and of their names
within : {X : Type 0} (xs : List X) (k : ℕ) (x : X) → slice_get xs k ≡ Some x → k < length xs
within [] k x h = cc
within (y ∷ xs) zero x h = omega arith
within (y ∷ xs) (suc k) x h = let more = within xs k x h in omega arith

named_there : (inputs : List InputDecl) (k : ℕ) (input : InputDecl) (d : List ℕ) → slice_get inputs k ≡ Some input → get_or (names_of inputs) k d ≡ input.name
named_there [] k input d h = cc
named_there (first ∷ inputs) zero input d h = let same : first ≡ input = cc in ap (λ (i : InputDecl). i.name) same
named_there (first ∷ inputs) (suc k) input d h = named_there inputs k input d h

not_same : (a b : List ℕ) (t : Bool) → bytes_eq a b ≡ t → bytes_eq b a ≡ false → t ≡ false
not_same a b false is apart = refl
not_same a b true is apart =
    let same : a ≡ b = (bytes_eq-Decides a b).0 is in
    let again : bytes_eq b a ≡ true = (bytes_eq-Decides b a).1 (sym same) in
    cc

place_of : (names : List (List ℕ)) (k : ℕ) (name : List ℕ) → IsDistinct bytes_eq names → k < length names → get_or names k name ≡ name
    → position (bytes_eq name) names ≡ Some k
place_of names k name distinct inside is =
    let first = position_or_len_is (bytes_eq name) names k name (omega arith)
    (λ j before. not_same name (get_or names j name) (bytes_eq name (get_or names j name)) refl
    (subst (λ n. bytes_eq (get_or names j name) n ≡ false) is (apart_from_distinct bytes_eq names j k name distinct before inside)))
    (λ more. (bytes_eq-Decides name (get_or names k name)).1 (sym is)) in
    let less : nat_lt k (length names) ≡ true = grind (arith, nat_tests) in
    ap (λ n. cond (nat_lt n (length names)) (Some n) None) first ∙ ap (λ b. cond b (Some k) None) less

-- the line of an event, by whether each byte is allowed and its fields
record IsLineOf (inputs : List InputDecl) (allowed : Bool) (all : List (List ℕ)) (event : Event) : Type 0 where
  input : InputDecl
  fields : List (List ℕ)
  each_allowed : allowed ≡ true
  written : all ≡ input.name ∷ fields
  no_comment : not (begins_comment input.name) ≡ true
  declared : slice_get inputs event.source ≡ Some input
  gives_value : GiveValue input.ty fields event.value

with_said : (source : ℕ) (v : Option Value) (event : Event) → event_with source v ≡ Ok (Some event) → (v ≡ Some event.value) × (source ≡ event.source)
with_said source None event h = cc
with_said source (Some v) event h =
    let made : Event = record { source = source; value = v } in
    let same : made ≡ event = cc in (ap (λ (e : Event). Some e.value) same, ap (λ (e : Event). e.source) same)

-- what is known of an event at a place
record IsEventAt (inputs : List InputDecl) (place : Option ℕ) (fields : List (List ℕ)) (event : Event) : Type 0 where
  input : InputDecl
  stands : place ≡ Some event.source
  declared : slice_get inputs event.source ≡ Some input
  value : value_of input.ty fields ≡ Some event.value

at_said : (inputs : List InputDecl) (place : Option ℕ) (fields : List (List ℕ)) (event : Event) → event_at inputs place fields ≡ Ok (Some event)
    → IsEventAt inputs place fields event
at_said inputs None fields event h = cc
at_said inputs (Some source) fields event h =
    (elim (slice_get inputs source) as (λ o. slice_get inputs source ≡ o
    → event_with source (option_and_then (λ (input : InputDecl). value_of input.ty fields) o) ≡ Ok (Some event) → IsEventAt inputs (Some source) fields event) [
      | None ↦ λ e g. cc
      | Some input ↦ λ e g.
          let said = with_said source (value_of input.ty fields) event g in
          record { input = input; stands = ap Some said.1; declared = subst (λ k. slice_get inputs k ≡ Some input) said.1 e; value = said.0 }
    ]) refl h

chosen_said : (skipped long : Bool) (said : Result (Option Event) Cause) (event : Event) → chosen skipped long said ≡ Ok (Some event)
    → (not skipped ≡ true) × (said ≡ Ok (Some event))
chosen_said true long said event h = cc
chosen_said false true said event h = cc
chosen_said false false said event h = (refl, h)

line_of_said : (inputs : List InputDecl) (allowed : Bool) (all : List (List ℕ)) (event : Event) → judged inputs allowed all ≡ Ok (Some event)
    → IsLineOf inputs allowed all event
line_of_said inputs false all event h = cc
line_of_said inputs true [] event h = cc
line_of_said inputs true (name ∷ fields) event h =
    let place = position (bytes_eq name) (names_of inputs) in
    let passed = chosen_said (begins_comment name) (is_long (name ∷ fields)) (event_at inputs place fields) event h in
    let at = at_said inputs place fields event passed.1 in
    let found = position-Some (bytes_eq name) (names_of inputs) event.source name at.stands in
    let equal : name ≡ get_or (names_of inputs) event.source name = (bytes_eq-Decides name (get_or (names_of inputs) event.source name)).0 found.1 in
    let same : name ≡ at.input.name = equal ∙ named_there inputs event.source at.input name at.declared in
    record {
      input = at.input;
      fields = fields;
      each_allowed = refl;
      written = ap (λ n. n ∷ fields) same;
      no_comment = subst (λ n. not (begins_comment n) ≡ true) same passed.0;
      declared = at.declared;
      gives_value = gives at.input.ty fields event.value at.value;
    }

chosen_passes : (skipped long : Bool) (said wanted : Result (Option Event) Cause) → not skipped ≡ true → long ≡ false → said ≡ wanted
    → chosen skipped long said ≡ wanted
chosen_passes true long said wanted uncommented few h = cc
chosen_passes false true said wanted uncommented few h = cc
chosen_passes false false said wanted uncommented few h = h

said_by_line : (inputs : List InputDecl) (allowed : Bool) (all : List (List ℕ)) (event : Event) → IsDistinct bytes_eq (names_of inputs)
    → IsLineOf inputs allowed all event → judged inputs allowed all ≡ Ok (Some event)
said_by_line inputs allowed all event distinct line =
    let name = line.input.name in
    let fields = line.fields in
    let inside = within inputs event.source line.input line.declared in
    let named_within : event.source < length (names_of inputs) = rw length-map inside in
    let place : position (bytes_eq name) (names_of inputs) ≡ Some event.source =
    place_of (names_of inputs) event.source name distinct named_within (named_there inputs event.source line.input name line.declared) in
    let said : event_at inputs (position (bytes_eq name) (names_of inputs)) fields ≡ Ok (Some event) =
    ap (λ p. event_at inputs p fields) place
    ∙ ap (λ o. event_with event.source (option_and_then (λ (input : InputDecl). value_of input.ty fields) o)) line.declared
    ∙ ap (event_with event.source) (given line.input.ty fields event.value line.gives_value) in
    ap (λ b. judged inputs b all) line.each_allowed ∙ ap (event_of_fields inputs) line.written
    ∙ chosen_passes (begins_comment name) (is_long (name ∷ fields)) (event_at inputs (position (bytes_eq name) (names_of inputs)) fields) (Ok (Some event))
    line.no_comment (short name line.input.ty fields event.value line.gives_value) said

pub event_lines : EventsHaveTheirLines
event_lines inputs line event distinct = (
  λ h.
      let is = line_of_said inputs (list_all is_allowed line) (fields_of line) event h in
      record {
        input = is.input;
        fields = is.fields;
        allowed = is.each_allowed;
        written = is.written;
        no_comment = is.no_comment;
        declared = is.declared;
        given = is.gives_value;
      },
  λ is.
      said_by_line inputs (list_all is_allowed line) (fields_of line) event distinct
      (record {
        input = is.input;
        fields = is.fields;
        each_allowed = is.allowed;
        written = is.written;
        no_comment = is.no_comment;
        declared = is.declared;
        gives_value = is.given;
      }),
)

-- ---- wrong values

-- a line that names an input which nothing gives a value, by whether each byte is allowed and its fields
record IsWrong (inputs : List InputDecl) (allowed : Bool) (all : List (List ℕ)) : Type 0 where
  input : InputDecl
  source : ℕ
  fields : List (List ℕ)
  well_formed : not (not allowed || (not (are_skipped all) && is_long all)) ≡ true
  unskipped : not (are_skipped all) ≡ true
  written : all ≡ input.name ∷ fields
  declared : slice_get inputs source ≡ Some input
  not_given : (v : Value) → GiveValue input.ty fields v → ⊥

with_wrong : (source : ℕ) (v : Option Value) → event_with source v ≡ Err cause.Literal → v ≡ None
with_wrong source None h = refl
with_wrong source (Some v) h = cc

none_given : (ty : InputTy) (fields : List (List ℕ)) → value_of ty fields ≡ None → (v : Value) → GiveValue ty fields v → ⊥
none_given ty fields none v h = let some = given ty fields v h in cc

given_none : (ty : InputTy) (fields : List (List ℕ)) → ((v : Value) → GiveValue ty fields v → ⊥) → value_of ty fields ≡ None
given_none ty fields never =
    (elim (value_of ty fields) as (λ o. value_of ty fields ≡ o → o ≡ None) [
      | None ↦ λ e. refl
      | Some v ↦ λ e. absurd (never v (gives ty fields v e))
    ]) refl

-- the input at a place in range
input_there : (inputs : List InputDecl) (k : ℕ) → k < length inputs → (input : InputDecl) × (slice_get inputs k ≡ Some input)
input_there [] k inside = absurd (omega arith)
input_there (input ∷ inputs) zero inside = (input, refl)
input_there (input ∷ inputs) (suc k) inside = input_there inputs k (omega arith)

-- the input that a place is found at, where it is given no value
wrong_at : (inputs : List InputDecl) (name : List ℕ) (fields : List (List ℕ)) (place : Option ℕ) → position (bytes_eq name) (names_of inputs) ≡ place
    → event_at inputs place fields ≡ Err cause.Literal
    → (source : ℕ) × (input : InputDecl) × (slice_get inputs source ≡ Some input) × (name ≡ input.name) × (value_of input.ty fields ≡ None)
wrong_at inputs name fields None is h = cc
wrong_at inputs name fields (Some source) is h =
    let found = position-Some (bytes_eq name) (names_of inputs) source name is in
    let inside : source < length inputs = simp length-map at found.0 in
    let there = input_there inputs source inside in
    let equal : name ≡ get_or (names_of inputs) source name = (bytes_eq-Decides name (get_or (names_of inputs) source name)).0 found.1 in
    let read = ap (λ o. event_with source (option_and_then (λ (input : InputDecl). value_of input.ty fields) o)) there.1 in
    (source, there.0, there.1, equal ∙ named_there inputs source there.0 name there.1, with_wrong source (value_of there.0.ty fields) (sym read ∙ h))

chosen_wrong : (skipped long : Bool) (said : Result (Option Event) Cause) → chosen skipped long said ≡ Err cause.Literal
    → (skipped ≡ false) × (long ≡ false) × (said ≡ Err cause.Literal)
chosen_wrong true long said h = cc
chosen_wrong false true said h = cc
chosen_wrong false false said h = (refl, refl, h)

form : (skipped long : Bool) → skipped ≡ false → long ≡ false → not (not true || (not skipped && long)) ≡ true
form true long s l = cc
form false true s l = cc
form false false s l = refl

wrong_line : (inputs : List InputDecl) (allowed : Bool) (all : List (List ℕ)) → judged inputs allowed all ≡ Err cause.Literal → IsWrong inputs allowed all
wrong_line inputs false all h = cc
wrong_line inputs true [] h = cc
wrong_line inputs true (name ∷ fields) h =
    let place = position (bytes_eq name) (names_of inputs) in
    let passed = chosen_wrong (begins_comment name) (is_long (name ∷ fields)) (event_at inputs place fields) h in
    let wrong = wrong_at inputs name fields place refl passed.2 in
    record {
      input = wrong.1;
      source = wrong.0;
      fields = fields;
      well_formed = form (begins_comment name) (is_long (name ∷ fields)) passed.0 passed.1;
      unskipped = ap not passed.0;
      written = ap (λ n. n ∷ fields) wrong.3;
      declared = wrong.2;
      not_given = none_given wrong.1.ty fields wrong.4;
    }

parts_of_event : (allowed skipped long : Bool) → not (not allowed || (not skipped && long)) ≡ true → not skipped ≡ true
    → (allowed ≡ true) × (long ≡ false)
parts_of_event false skipped long h s = cc
parts_of_event true true long h s = cc
parts_of_event true false true h s = cc
parts_of_event true false false h s = (refl, refl)

wrong_by_line : (inputs : List InputDecl) (allowed : Bool) (all : List (List ℕ)) → IsDistinct bytes_eq (names_of inputs) → IsWrong inputs allowed all
    → judged inputs allowed all ≡ Err cause.Literal
wrong_by_line inputs allowed all distinct line =
    let name = line.input.name in
    let fields = line.fields in
    let parts = parts_of_event allowed (are_skipped all) (is_long all) line.well_formed line.unskipped in
    let inside = within inputs line.source line.input line.declared in
    let named_within : line.source < length (names_of inputs) = rw length-map inside in
    let place : position (bytes_eq name) (names_of inputs) ≡ Some line.source =
    place_of (names_of inputs) line.source name distinct named_within (named_there inputs line.source line.input name line.declared) in
    let said : event_at inputs (position (bytes_eq name) (names_of inputs)) fields ≡ Err cause.Literal =
    ap (λ p. event_at inputs p fields) place
    ∙ ap (λ o. event_with line.source (option_and_then (λ (input : InputDecl). value_of input.ty fields) o)) line.declared
    ∙ ap (event_with line.source) (given_none line.input.ty fields line.not_given) in
    ap (λ b. judged inputs b all) parts.0 ∙ ap (event_of_fields inputs) line.written
    ∙ chosen_passes (begins_comment name) (is_long (name ∷ fields)) (event_at inputs (position (bytes_eq name) (names_of inputs)) fields) (Err cause.Literal)
    (subst (λ fs. not (are_skipped fs) ≡ true) line.written line.unskipped) (subst (λ fs. is_long fs ≡ false) line.written parts.1) said

pub wrong_values : LinesHaveWrongValues
wrong_values inputs line distinct = (
  λ h.
      let is = wrong_line inputs (list_all is_allowed line) (fields_of line) h in
      record {
        input = is.input;
        source = is.source;
        fields = is.fields;
        well_formed = is.well_formed;
        unskipped = is.unskipped;
        written = is.written;
        declared = is.declared;
        not_given = is.not_given;
      },
  λ is.
      wrong_by_line inputs (list_all is_allowed line) (fields_of line) distinct
      (record {
        input = is.input;
        source = is.source;
        fields = is.fields;
        well_formed = is.well_formed;
        unskipped = is.unskipped;
        written = is.written;
        declared = is.declared;
        not_given = is.not_given;
      }),
)
