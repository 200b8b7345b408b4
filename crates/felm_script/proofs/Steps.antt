-- A step of reading a script.
use Rattle.std.proofs.Common.{◌≡◌, ℕ, ◌+◌, List, [], ◌∷◌, ◌++◌, length, map, Option, Some, None, Result, Ok, Err, sym, ap, ◌∙◌, append_assoc}
use Rattle.std.proofs.lemmas.List.{append-nil, nil_from_length}
use Rattle.std.specs.List.{filter_map, cons_option}
use Rattle.std.specs.Option.{option_to_list}
use Rattle.felm_term.specs.declared.event.Event.{Event}
use Rattle.felm_term.specs.declared.input.InputDecl.{InputDecl}
use Rattle.felm_script.specs.declared.fault.Cause.{Cause}
use Rattle.felm_script.specs.declared.fault.Cause.TheVariants as cause
use Rattle.felm_script.specs.declared.fault.ScriptFault.{ScriptFault}
use Rattle.felm_script.specs.Lines.{lines_of}
use Rattle.felm_script.specs.Script.{event_of, first_fault, event_said, unless, script_of, fault_of, IsRefusal}

-- what each line of a text says
abbrev pub said_by : List InputDecl → List ℕ → List (Result (Option Event) Cause)
said_by inputs text = map (event_of inputs) (lines_of text)

-- so many lines were read, and the events so far and what the lines that are left say make the script
abbrev pub Leads : List InputDecl → List ℕ → List ℕ → ℕ → List Event → Type 0
Leads inputs text rest number events =
    unless (first_fault (number + 1) (said_by inputs rest)) (events ++ filter_map event_said (said_by inputs rest)) ≡ script_of inputs text

joined : (events more : List Event) (event : Option Event) → (events ++ option_to_list event) ++ more ≡ events ++ cons_option event more
joined events more None = ap (λ l. l ++ more) (append-nil events)
joined events more (Some event) = append_assoc events (event ∷ []) more

-- what a text says whose first line says this
says : (inputs : List InputDecl) (rest line after : List ℕ) (said : Result (Option Event) Cause) → lines_of rest ≡ line ∷ lines_of after
    → said ≡ event_of inputs line → said_by inputs rest ≡ said ∷ said_by inputs after
says inputs rest line after said lines is = ap (map (event_of inputs)) lines ∙ ap (λ s. s ∷ said_by inputs after) (sym is)

pub line_leads : (inputs : List InputDecl) (text rest line after : List ℕ) (number : ℕ) (event : Option Event) (events more : List Event)
    → lines_of rest ≡ line ∷ lines_of after → Ok event ≡ event_of inputs line → more ≡ events ++ option_to_list event
    → Leads inputs text rest number events → Leads inputs text after (number + 1) more
line_leads inputs text rest line after number event events more lines is pushed leads =
    let others = said_by inputs after in
    let read = says inputs rest line after (Ok event) lines is in
    ap (λ es. unless (first_fault (number + 1 + 1) others) (es ++ filter_map event_said others)) pushed
    ∙ ap (unless (first_fault (number + 1 + 1) others)) (joined events (filter_map event_said others) event)
    ∙ sym (ap (λ said. unless (first_fault (number + 1) said) (events ++ filter_map event_said said)) read) ∙ leads

refusal : (script : Result (List Event) ScriptFault) (why : Cause) (line : ℕ) → script ≡ Err (fault_of why line) → IsRefusal script (fault_of why line)
refusal script cause.Line line e = e
refusal script cause.Name line e = e
refusal script cause.Literal line e = e

pub refused_ends : (inputs : List InputDecl) (text rest line after : List ℕ) (number : ℕ) (why : Cause) (events : List Event)
    → lines_of rest ≡ line ∷ lines_of after → Err why ≡ event_of inputs line → Leads inputs text rest number events
    → IsRefusal (script_of inputs text) (fault_of why (number + 1))
refused_ends inputs text rest line after number why events lines is leads =
    let read = says inputs rest line after (Err why) lines is in
    refusal (script_of inputs text) why (number + 1)
    (sym leads ∙ ap (λ said. unless (first_fault (number + 1) said) (events ++ filter_map event_said said)) read)

pub all_read : (inputs : List InputDecl) (text rest : List ℕ) (number : ℕ) (events : List Event) → length rest ≡ 0 → Leads inputs text rest number events
    → script_of inputs text ≡ Ok events
all_read inputs text rest number events none leads =
    let empty = nil_from_length rest none in
    sym leads ∙ ap (λ l. unless (first_fault (number + 1) (said_by inputs l)) (events ++ filter_map event_said (said_by inputs l))) empty
    ∙ ap Ok (append-nil events)
