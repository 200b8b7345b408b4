-- The synchronous meaning: the value and the message of every node at every position of a journal.
-- Positions count from 1; position 0 is before the first event. The messages of all nodes at a position are one row.
use Rattle.std.specs.Prelude.{◌≡◌, ℕ, zero, suc, ◌==◌, if◌then◌else◌, List, [], ◌∷◌, ◌++◌, Option, Some, None, length, map, drop, slice_get, slice_index_or, ℤ}
use Rattle.std.specs.Option.{option_map, option_and_then, option_to_list}
use Rattle.felm_term.specs.Values.{value_of}
use Rattle.felm_term.specs.declared.value.Value.{Value}
use Rattle.felm_term.specs.declared.value.Value.TheVariants as value
use Rattle.felm_term.specs.declared.message.Message.{Message}
use Rattle.felm_term.specs.declared.message.Message.TheVariants.{Change, NoChange}
use Rattle.felm_term.specs.declared.event.Event.{Event}
use Rattle.felm_term.specs.declared.input.InputDecl.{InputDecl}
use Rattle.felm_term.specs.declared.input.InputTy.{InputTy}
use Rattle.felm_term.specs.declared.input.InputTy.TheVariants as input
use Rattle.felm_graph.specs.declared.node.NodeKind.{NodeKind}
use Rattle.felm_graph.specs.declared.node.NodeKind.TheVariants as kind
use Rattle.felm_graph.specs.GraphValue.{GraphValue}
use Rattle.felm_graph.specs.Nodes.{is_source, arguments_of}
use Rattle.felm_meaning.specs.declared.job.Job.{Job}
use Rattle.felm_meaning.specs.Nodes.{job_of}
use Rattle.felm_meaning.specs.Step.{step, call_value}

-- ---- parts that may be none

-- all of them, or none where one of them is none
abbrev pub all_of : {X : Type 0} → List (Option X) → Option (List X)
all_of [] = Some []
all_of (x ∷ more) = option_and_then (λ first. option_map (λ rest. first ∷ rest) (all_of more)) x

-- the item of a row at a node: none past the row's end
abbrev pub at : {X : Type 0} → List (Option X) → ℕ → Option X
at row k = slice_index_or row k None

-- ---- defaults

-- the value that an input declares, which is unit for an input of type unit
abbrev pub default_of_type : InputTy → ℤ → Value
default_of_type input.Int number = value.Int number
default_of_type input.Unit number = value.Unit

-- the same of a declaration
abbrev pub declared_value : InputDecl → Value
declared_value declared = default_of_type declared.ty declared.default

-- the default of a node, by the defaults of the nodes that it names
abbrev pub default_by : List InputDecl → ℕ → (ℕ → Option Value) → NodeKind → Option Value
default_by inputs b default (kind.Input number) = option_map declared_value (slice_get inputs number)
default_by inputs b default (kind.Lift f arguments) = option_and_then (λ values. call_value f values b) (all_of (map default arguments))
default_by inputs b default (kind.Foldp f base argument) = Some base
default_by inputs b default (kind.Async argument) = default argument

-- the defaults of a graph's first n nodes
unfoldable pub defaults_to : GraphValue → ℕ → ℕ → List (Option Value)
defaults_to g b zero = []
defaults_to g b (suc n) =
    defaults_to g b n
    ++ option_and_then (λ node. default_by g.inputs b (at (defaults_to g b n)) node.kind) (slice_get g.nodes n) ∷ []

-- ---- messages

-- NoChange of a value that is there
abbrev pub no_change_of : Option Value → Option Message
no_change_of value = option_map (λ v. NoChange v) value

-- the value that a message carries, where it is there
abbrev pub value_at : Option Message → Option Value
value_at message = option_map value_of message

-- the message of source k at an event, by the value that it had: Change of the event's value where the event is its own, else NoChange
abbrev pub source_message : ℕ → Event → Option Value → Option Message
source_message k e old = if e.source == k then Some (Change e.value) else no_change_of old

-- the message of a node with a job, by the value that it had and its arguments' messages; none where one of these is none
abbrev pub turn_message : Option Job → ℕ → Option Value → Option (List Message) → Option Message
turn_message job b old messages =
    option_and_then (λ j. option_and_then (λ v. option_and_then (λ ms. step j v ms b) messages) old) job

-- the message of node k at an event, by the row before, and this row's messages of the nodes before k
unfoldable pub message_of : GraphValue → ℕ → List (Option Message) → Event → List (Option Message) → ℕ → Option Message
message_of g b old e new k =
    if is_source g.nodes k then source_message k e (value_at (at old k))
    else turn_message (job_of g.nodes k) b (value_at (at old k)) (all_of (map (at new) (arguments_of g.nodes k)))

-- the messages of the first n nodes at an event, by the row before
unfoldable pub row_to : GraphValue → ℕ → List (Option Message) → Event → ℕ → List (Option Message)
row_to g b old e zero = []
row_to g b old e (suc n) = row_to g b old e n ++ message_of g b old e (row_to g b old e n) n ∷ []

-- the row after an event, if there is one: past the journal's end a row is empty
abbrev pub next_row : GraphValue → ℕ → List (Option Message) → Option Event → List (Option Message)
next_row g b old None = []
next_row g b old (Some e) = row_to g b old e (length g.nodes)

-- the row at a position: NoChange of the defaults at 0, then a row for each event
unfoldable pub row : GraphValue → ℕ → List Event → ℕ → List (Option Message)
row g b j zero = map no_change_of (defaults_to g b (length g.nodes))
row g b j (suc p) = next_row g b (row g b j p) (slice_get j p)

-- ---- the meaning, and what is read off it

-- the message of node k at position p, or none; at position 0 it is NoChange of the default
unfoldable pub msg : GraphValue → ℕ → List Event → ℕ → ℕ → Option Message
msg g b j k p = at (row g b j p) k

-- the value of node k at position p, or none
unfoldable pub val : GraphValue → ℕ → List Event → ℕ → ℕ → Option Value
val g b j k p = value_at (msg g b j k p)

-- it isn't none
abbrev pub IsThere : {X : Type 0} → Option X → Type 0
IsThere {X} part = (x : X) × (part ≡ Some x)

-- the value of a message that is Change
abbrev pub changed_in : Option Message → List Value
changed_in None = []
changed_in (Some (Change v)) = v ∷ []
changed_in (Some (NoChange v)) = []

-- the values of the Changes of node k at positions 1 to p, in order
unfoldable pub changes : GraphValue → ℕ → List Event → ℕ → ℕ → List Value
changes g b j k zero = []
changes g b j k (suc p) = changes g b j k p ++ changed_in (msg g b j k (suc p))

-- the messages of node k at positions 1 to w, in order
unfoldable pub sends : GraphValue → ℕ → List Event → ℕ → ℕ → List Message
sends g b j k zero = []
sends g b j k (suc w) = sends g b j k w ++ option_to_list (msg g b j k (suc w))

-- the contents of an edge: the messages of node k after position r, up to position w
abbrev pub edge : GraphValue → ℕ → List Event → ℕ → ℕ → ℕ → List Message
edge g b j k r w = drop r (sends g b j k w)
