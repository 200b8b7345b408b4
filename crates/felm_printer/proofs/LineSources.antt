-- Lines with the same bytes have the same sources.
use Rattle.std.proofs.Common.{◌≡◌, ℕ, suc, ◌+◌, ◌<◌, true, not, eqb, leb, List, [], ◌∷◌, ◌++◌, refl, sym, ap, ◌∙◌, arith, append_assoc}
use Rattle.std.specs.Prelude.{codes}
use Rattle.std.specs.List.{list_all}
use Rattle.std.specs.Fmt.{decimal}
use Rattle.std.proofs.lemmas.Bool.{and_parts, and_from, ne_eqb, le-leb, leb-true}
use Rattle.std.proofs.lemmas.List.{append_cancel_left}
use Rattle.std.proofs.lemmas.List.Folds.{list_all-append}
use Rattle.felm_term.specs.Text.{value_text, message_text}
use Rattle.felm_term.specs.declared.value.Value.{Value}
use Rattle.felm_term.specs.declared.value.Value.TheVariants as value
use Rattle.felm_term.specs.declared.message.Message.{Message}
use Rattle.felm_term.specs.declared.message.Message.TheVariants.{Change, NoChange}
use Rattle.felm_term.specs.declared.event.Event.{Event}
use Rattle.felm_graph.specs.GraphValue.{GraphValue}
use Rattle.felm_graph.specs.Graphs.{IsGraph}
use Rattle.felm_printer.specs.Names.{AreNames}
use Rattle.felm_printer.specs.Results.{NamesSources, source_text, event_line, event_lines, stopped_line, stopped_lines}
use Rattle.felm_printer.proofs.Cuts.{lacks, cut}
use Rattle.felm_printer.proofs.Digits.{all_digits, all_signed}
use Rattle.felm_printer.proofs.JournalSources.{sources_of}
use Rattle.felm_printer.proofs.SourceNames.{source_has_no_blank, one_source}

-- ---- bytes

-- values and messages have no line feed
value_has_no_feed : (v : Value) → lacks 10 (value_text v) ≡ true
value_has_no_feed value.Unit = refl
value_has_no_feed (value.Int n) = all_signed (λ b. not (eqb b 10)) (λ d small. ap not (ne_eqb (48 + d) 10 (λ e. absurd (omega arith)))) refl n
value_has_no_feed (value.Fun f) = refl

message_has_no_feed : (m : Message) → lacks 10 (message_text m) ≡ true
message_has_no_feed (Change v) = value_has_no_feed v
message_has_no_feed (NoChange v) = value_has_no_feed v

-- nor has a value with a message
shown_has_no_feed : (v : Value) (m : Message) → lacks 10 (value_text v ++ codes " " ++ message_text m) ≡ true
shown_has_no_feed v m =
    list_all-append (λ b. not (eqb b 10)) (value_text v ++ codes " ") (message_text m)
    ∙ and_from _ _ (list_all-append (λ b. not (eqb b 10)) (value_text v) (codes " ") ∙ and_from _ _ (value_has_no_feed v) refl) (message_has_no_feed m)

-- the last line begins with a letter
abbrev pub IsLast : List ℕ → Type 0
IsLast [] = ⊥
IsLast (c ∷ more) = 57 < c

-- other lines begin with a digit
begins_low : (front rest last : List ℕ) → list_all (λ b. leb b 57) front ≡ true → IsLast last → front ++ 32 ∷ rest ≡ last → ⊥
begins_low front rest [] low letter same = letter
begins_low [] rest (c ∷ more) low letter same = let blank : 32 ≡ c = cc in omega arith
begins_low (b ∷ front) rest (c ∷ more) low letter same =
    let first : b ≡ c = cc in let small = leb-true b 57 (and_parts (leb b 57) (list_all (λ x. leb x 57) front) low).0 in omega arith

-- a number has digits alone
number_is_low : (n : ℕ) → list_all (λ b. leb b 57) (decimal n) ≡ true
number_is_low n = all_digits (λ b. leb b 57) (λ d small. le-leb (48 + d) 57 (omega arith)) n

-- ---- lines

-- a line in its parts
abbrev parted : ℕ → List ℕ → List ℕ → List ℕ → List ℕ
parted position source shown more = decimal position ++ 32 ∷ (source ++ 32 ∷ (shown ++ 10 ∷ more))

-- a line without a message, from its end
grouped : (a b c d e f : List ℕ) → (((((a ++ b) ++ c) ++ b) ++ d) ++ e) ++ f ≡ a ++ (b ++ (c ++ (b ++ (d ++ (e ++ f)))))
grouped a b c d e f = simp append_assoc

-- a line with a message, from its end, but for the value and the message
grouped_shown : (a b c v m e f : List ℕ) → (((((((a ++ b) ++ c) ++ b) ++ v) ++ b) ++ m) ++ e) ++ f ≡ a ++ (b ++ (c ++ (b ++ (((v ++ b) ++ m) ++ (e ++ f)))))
grouped_shown a b c v m e f = simp append_assoc

-- what a line shows behind its source
abbrev shown_in : Event → List Message → List ℕ
shown_in event [] = value_text event.value
shown_in event (message ∷ messages) = value_text event.value ++ codes " " ++ message_text message

-- the messages behind the first one
abbrev later : List Message → List Message
later [] = []
later (message ∷ messages) = messages

-- lines, with the first one in its parts
lines_parted : (g : GraphValue) (position : ℕ) (event : Event) (events : List Event) (messages : List Message) (last : List ℕ)
    → event_lines g position (event ∷ events) messages ++ last
    ≡ parted position (source_text g event.source) (shown_in event messages) (event_lines g (position + 1) events (later messages) ++ last)
lines_parted g position event events [] last =
    append_assoc (stopped_line position (source_text g event.source) event) (event_lines g (position + 1) events []) last
    ∙ grouped (decimal position) (codes " ") (source_text g event.source) (value_text event.value) (codes "\n") (event_lines g (position + 1) events [] ++ last)
lines_parted g position event events (message ∷ messages) last =
    append_assoc (event_line position (source_text g event.source) event message) (event_lines g (position + 1) events messages) last
    ∙ grouped_shown (decimal position) (codes " ") (source_text g event.source) (value_text event.value) (message_text message) (codes "\n")
    (event_lines g (position + 1) events messages ++ last)

shown_lacks : (event : Event) (messages : List Message) → lacks 10 (shown_in event messages) ≡ true
shown_lacks event [] = value_has_no_feed event.value
shown_lacks event (message ∷ messages) = shown_has_no_feed event.value message

module _ (g : GraphValue) (graph : IsGraph g) (names : AreNames g.inputs) where
  -- equal lines, up to a last one each, have equal sources
  pub lines_name_sources : (position : ℕ) (one other : List Event) (messages messages' : List Message) (last last' : List ℕ)
      → NamesSources g one → NamesSources g other → IsLast last → IsLast last'
      → event_lines g position one messages ++ last ≡ event_lines g position other messages' ++ last' → sources_of one ≡ sources_of other
  lines_name_sources position [] [] messages messages' last last' from from' letter letter' same = refl
  lines_name_sources position [] (d ∷ other) messages messages' last last' from from' letter letter' same =
      absurd (begins_low (decimal position) _ last (number_is_low position) letter (sym (lines_parted g position d other messages' last') ∙ sym same))
  lines_name_sources position (e ∷ one) [] messages messages' last last' from from' letter letter' same =
      absurd (begins_low (decimal position) _ last' (number_is_low position) letter' (sym (lines_parted g position e one messages last) ∙ same))
  lines_name_sources position (e ∷ one) (d ∷ other) messages messages' last last' from from' letter letter' same =
      let more = event_lines g (position + 1) one (later messages) ++ last in
      let more' = event_lines g (position + 1) other (later messages') ++ last' in
      let parts : parted position (source_text g e.source) (shown_in e messages) more ≡ parted position (source_text g d.source) (shown_in d messages') more' =
      sym (lines_parted g position e one messages last) ∙ same ∙ lines_parted g position d other messages' last' in
      let behind = append_cancel_left (decimal position) (32 ∷ (source_text g e.source ++ 32 ∷ (shown_in e messages ++ 10 ∷ more)))
      (32 ∷ (source_text g d.source ++ 32 ∷ (shown_in d messages' ++ 10 ∷ more'))) parts in
      let named = cut 32 (source_text g e.source) (source_text g d.source) (shown_in e messages ++ 10 ∷ more) (shown_in d messages' ++ 10 ∷ more')
      (source_has_no_blank g graph names e.source (from 0 e refl)) (source_has_no_blank g graph names d.source (from' 0 d refl)) (cc behind) in
      let ended = cut 10 (shown_in e messages) (shown_in d messages') more more' (shown_lacks e messages) (shown_lacks d messages') named.1 in
      let source : e.source ≡ d.source = one_source g graph names e.source d.source (from 0 e refl) (from' 0 d refl) named.0 in
      let sources : sources_of one ≡ sources_of other =
      lines_name_sources (position + 1) one other (later messages) (later messages') last last' (λ i x h. from (suc i) x h) (λ i x h. from' (suc i) x h)
      letter letter' ended.1 in
      λ i. source i ∷ sources i

-- the lines of a run that stopped are those of events without messages
pub stopped_lines-are : (g : GraphValue) (position : ℕ) (events : List Event) → stopped_lines g position events ≡ event_lines g position events []
stopped_lines-are g position [] = refl
stopped_lines-are g position (e ∷ events) =
    ap (λ l. stopped_line position (source_text g e.source) e ++ l) (stopped_lines-are g (position + 1) events)
