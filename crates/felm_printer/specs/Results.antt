-- The texts of runs.
use Rattle.std.specs.Prelude.{ℕ, ◌+◌, ◌≡◌, true, List, [], ◌∷◌, ◌++◌, length, slice_get, codes, Option, Some}
use Rattle.std.specs.Option.{option_map_or}
use Rattle.std.specs.Fmt.{decimal}
use Rattle.felm_term.specs.declared.event.Event.{Event}
use Rattle.felm_term.specs.declared.message.Message.{Message}
use Rattle.felm_term.specs.declared.value.Value.{Value}
use Rattle.felm_term.specs.declared.input.InputDecl.{InputDecl}
use Rattle.felm_term.specs.Text.{value_text, message_text}
use Rattle.felm_graph.specs.declared.node.NodeKind.{NodeKind}
use Rattle.felm_graph.specs.declared.node.NodeKind.TheVariants as kind
use Rattle.felm_graph.specs.GraphValue.{GraphValue}
use Rattle.felm_graph.specs.Nodes.{is_source, async_number}
use Rattle.felm_meaning.specs.Meaning.{val, sends}
use Rattle.felm_printer.specs.declared.result.Closing.{Closing}
use Rattle.felm_printer.specs.declared.result.Closing.TheVariants.{End, Full}

-- ---- sources

-- the source of each event is a source of the graph
abbrev pub NamesSources : GraphValue → List Event → Type 0
NamesSources g events = (i : ℕ) (e : Event) → slice_get events i ≡ Some e → is_source g.nodes e.source ≡ true

-- the name of an input
abbrev pub input_text : List InputDecl → ℕ → List ℕ
input_text inputs number = option_map_or (λ declared. declared.name) (slice_get inputs number) []

-- the async with this number
abbrev pub async_text : ℕ → List ℕ
async_text number = codes "@" ++ decimal number

-- the text of the node with a number, which does this: only a source has one
abbrev pub text_of_kind : GraphValue → ℕ → NodeKind → List ℕ
text_of_kind g node (kind.Input number) = input_text g.inputs number
text_of_kind g node (kind.Async argument) = option_map_or async_text (async_number g.nodes node) []
text_of_kind g node _ = []

-- the text of a source: an input's name, or an async's number
abbrev pub source_text : GraphValue → ℕ → List ℕ
source_text g source = option_map_or (λ node. text_of_kind g source node.kind) (slice_get g.nodes source) []

-- ---- results

-- the line of an event: its position, its source, its value, and what the shown node sent
abbrev pub event_line : ℕ → List ℕ → Event → Message → List ℕ
event_line position source event message =
    decimal position ++ codes " " ++ source ++ codes " " ++ value_text event.value ++ codes " " ++ message_text message ++ codes "\n"

-- the line of an event alone, as a run that stops has it
abbrev pub stopped_line : ℕ → List ℕ → Event → List ℕ
stopped_line position source event = decimal position ++ codes " " ++ source ++ codes " " ++ value_text event.value ++ codes "\n"

-- the lines of the events from a position on, each with its message; so that a text tells its events, one without has its line too
abbrev pub event_lines : GraphValue → ℕ → List Event → List Message → List ℕ
event_lines g position [] messages = []
event_lines g position (event ∷ events) [] = stopped_line position (source_text g event.source) event ++ event_lines g (position + 1) events []
event_lines g position (event ∷ events) (message ∷ messages) =
    event_line position (source_text g event.source) event message ++ event_lines g (position + 1) events messages

-- what the last line begins with
abbrev pub closing_text : Closing → List ℕ
closing_text End = codes "end "
closing_text Full = codes "full "

-- the last line, with the number of events
abbrev pub closing_line : Closing → ℕ → List ℕ
closing_line closing count = closing_text closing ++ decimal count ++ codes "\n"

-- a default, a line for each event of a journal, and the last line, which counts them
abbrev pub history_text : GraphValue → Option Value → List Event → List Message → Closing → List ℕ
history_text g default journal outputs closing =
    codes "felm-result 1\n0 default " ++ option_map_or value_text default [] ++ codes "\n"
    ++ event_lines g 1 journal outputs
    ++ closing_line closing (length journal)

-- the result text of a journal: the default and the messages of the shown node by the meaning, with this budget for a turn
abbrev pub result_text : GraphValue → ℕ → List Event → Closing → List ℕ
result_text g b j closing = history_text g (val g b j g.main 0) j (sends g b j g.main (length j)) closing

-- ---- stopped runs

-- the lines of the events from a position on
abbrev pub stopped_lines : GraphValue → ℕ → List Event → List ℕ
stopped_lines g position [] = []
stopped_lines g position (event ∷ events) = stopped_line position (source_text g event.source) event ++ stopped_lines g (position + 1) events

-- the events of a journal, and where the run stopped
abbrev pub stopped_text : GraphValue → List Event → ℕ → ℕ → List ℕ
stopped_text g journal node position =
    codes "felm-stopped 1\n" ++ stopped_lines g 1 journal
    ++ codes "stopped " ++ decimal node ++ codes " " ++ decimal position ++ codes "\n"
