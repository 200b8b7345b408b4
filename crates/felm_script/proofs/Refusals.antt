-- What a script is, by what its lines say.
use Rattle.std.proofs.Common.{◌≡◌, ℕ, ◌+◌, suc, ◌&&◌, Bool, true, false, List, [], ◌∷◌, ◌++◌, length, map, Option, Some, None, Result, Ok, Err, refl, sym, ap, ◌∙◌, arith}
use Rattle.std.specs.Prelude.{is_ok}
use Rattle.std.specs.List.{list_all, filter_map, cons_option}
use Rattle.felm_term.specs.declared.event.Event.{Event}
use Rattle.felm_term.specs.declared.input.InputDecl.{InputDecl}
use Rattle.felm_script.specs.declared.fault.Cause.{Cause}
use Rattle.felm_script.specs.declared.fault.ScriptFault.{ScriptFault}
use Rattle.felm_script.specs.Lines.{lines_of}
use Rattle.felm_script.specs.Script.{event_of, fault_of, first_fault, event_said, unless, script_said}
use Rattle.felm_script.specs.Laws.{IsFirstRefusal, ScriptsAreTheirLines, FaultsAreOfTheFirstRefusedLine}

-- the first refusal among lines, the first of which has this number
record IsRefusalFrom (inputs : List InputDecl) (number : ℕ) (lines : List (List ℕ)) (fault : ScriptFault) : Type 0 where
  before : List (List ℕ)
  line : List ℕ
  after : List (List ℕ)
  cause : Cause
  stands : lines ≡ before ++ line ∷ after
  accepted : list_all (λ earlier. is_ok (event_of inputs earlier)) before ≡ true
  refused : event_of inputs line ≡ Err cause
  named : fault ≡ fault_of cause (length before + number)

found : (inputs : List InputDecl) (number : ℕ) (lines : List (List ℕ)) (fault : ScriptFault)
    → first_fault number (map (event_of inputs) lines) ≡ Some fault → IsRefusalFrom inputs number lines fault
found inputs number [] fault h = cc
found inputs number (line ∷ lines) fault h =
    let said = map (event_of inputs) lines in
    (elim (event_of inputs line) as (λ s. event_of inputs line ≡ s → first_fault number (s ∷ said) ≡ Some fault → IsRefusalFrom inputs number (line ∷ lines) fault) [
      | Ok event ↦ λ is g.
          let more = found inputs (number + 1) lines fault g in
          let count : length more.before + (number + 1) ≡ suc (length more.before) + number = omega arith in
          record {
            before = line ∷ more.before;
            line = more.line;
            after = more.after;
            cause = more.cause;
            stands = ap (λ ls. line ∷ ls) more.stands;
            accepted = ap (λ s. is_ok s && list_all (λ earlier. is_ok (event_of inputs earlier)) more.before) is ∙ more.accepted;
            refused = more.refused;
            named = more.named ∙ ap (fault_of more.cause) count;
          }
      | Err cause ↦ λ is g.
          let same : fault ≡ fault_of cause number = cc in
          let none : number ≡ 0 + number = omega arith in
          record { before = []; line = line; after = lines; cause = cause; stands = refl; accepted = refl; refused = is; named = same ∙ ap (fault_of cause) none }
    ]) refl h

both : (a b : Bool) → a && b ≡ true → (a ≡ true) × (b ≡ true)
both true b h = (refl, h)
both false b h = cc

-- what is said at an accepted line has the fault of the lines behind it
passed : (number : ℕ) (s : Result (Option Event) Cause) (said : List (Result (Option Event) Cause)) → is_ok s ≡ true
    → first_fault number (s ∷ said) ≡ first_fault (number + 1) said
passed number (Ok event) said h = refl
passed number (Err cause) said h = cc

finds : (inputs : List InputDecl) (number : ℕ) (before : List (List ℕ)) (line : List ℕ) (after : List (List ℕ)) (cause : Cause)
    → list_all (λ earlier. is_ok (event_of inputs earlier)) before ≡ true → event_of inputs line ≡ Err cause
    → first_fault number (map (event_of inputs) (before ++ line ∷ after)) ≡ Some (fault_of cause (length before + number))
finds inputs number [] line after cause accepted refused =
    let none : number ≡ 0 + number = omega arith in
    ap (λ s. first_fault number (s ∷ map (event_of inputs) after)) refused ∙ ap (λ n. Some (fault_of cause n)) none
finds inputs number (first ∷ before) line after cause accepted refused =
    let each = both (is_ok (event_of inputs first)) (list_all (λ earlier. is_ok (event_of inputs earlier)) before) accepted in
    let count : length before + (number + 1) ≡ suc (length before) + number = omega arith in
    passed number (event_of inputs first) (map (event_of inputs) (before ++ line ∷ after)) each.0
    ∙ finds inputs (number + 1) before line after cause each.1 refused ∙ ap (λ n. Some (fault_of cause n)) count

refused_by : (fault : Option ScriptFault) (events : List Event) (other : ScriptFault) → unless fault events ≡ Err other → fault ≡ Some other
refused_by None events other h = cc
refused_by (Some fault) events other h = cc

first_of : (inputs : List InputDecl) (lines : List (List ℕ)) (fault : ScriptFault) → IsRefusalFrom inputs 1 lines fault → IsFirstRefusal inputs lines fault
first_of inputs lines fault is = record {
  before = is.before;
  line = is.line;
  after = is.after;
  cause = is.cause;
  stands = is.stands;
  accepted = is.accepted;
  refused = is.refused;
  named = is.named;
}

pub first_refusal : FaultsAreOfTheFirstRefusedLine
first_refusal inputs text fault =
    let said = map (event_of inputs) (lines_of text) in (
      λ h. first_of inputs (lines_of text) fault (found inputs 1 (lines_of text) fault (refused_by (first_fault 1 said) (filter_map event_said said) fault h)),
      λ is. ap (λ ls. script_said (map (event_of inputs) ls)) is.stands
          ∙ ap (λ f. unless f (filter_map event_said (map (event_of inputs) (is.before ++ is.line ∷ is.after)))) (finds inputs 1 is.before is.line is.after is.cause is.accepted is.refused)
          ∙ ap Err (sym is.named),
    )

-- what lines say where none is refused
abbrev Said : List (Result (Option Event) Cause) → Type 0
Said said = (events : List (Option Event)) × (said ≡ map Ok events) × (filter_map event_said said ≡ filter_map (λ event. event) events)

unrefused : (number : ℕ) (said : List (Result (Option Event) Cause)) → first_fault number said ≡ None → Said said
unrefused number [] h = ([], refl, refl)
unrefused number (Ok event ∷ said) h =
    let more = unrefused (number + 1) said h in (event ∷ more.0, ap (λ s. Ok event ∷ s) more.1, ap (cons_option event) more.2)
unrefused number (Err cause ∷ said) h = cc

none_refused : (number : ℕ) (events : List (Option Event)) → first_fault number (map Ok events) ≡ None
none_refused number [] = refl
none_refused number (event ∷ events) = none_refused (number + 1) events

events_of_said : (events : List (Option Event)) → filter_map event_said (map Ok events) ≡ filter_map (λ event. event) events
events_of_said [] = refl
events_of_said (event ∷ events) = ap (cons_option event) (events_of_said events)

accepted_by : (fault : Option ScriptFault) (events others : List Event) → unless fault events ≡ Ok others → (fault ≡ None) × (events ≡ others)
accepted_by None events others h = (refl, let e : events ≡ others = cc in e)
accepted_by (Some fault) events others h = cc

pub events_of_lines : ScriptsAreTheirLines
events_of_lines inputs text events =
    let said = map (event_of inputs) (lines_of text) in (
      λ h.
          let accepted = accepted_by (first_fault 1 said) (filter_map event_said said) events h in
          let all = unrefused 1 said accepted.0 in (all.0, all.1, sym accepted.1 ∙ all.2),
      λ (others, said_by_all, are).
          ap script_said said_by_all ∙ ap (λ f. unless f (filter_map event_said (map Ok others))) (none_refused 1 others)
          ∙ ap Ok (events_of_said others ∙ sym are),
    )
