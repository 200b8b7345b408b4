-- Journals: which are legal, which are complete, and the plain one, of a run on one thread.
use Rattle.std.specs.Prelude.{◌≡◌, ℕ, zero, suc, ◌<◌, ◌≤◌, ◌==◌, Bool, true, is_some, if◌then◌else◌, List, [], ◌∷◌, ◌++◌, Option, Some, None, length, take, filter, count_by, slice_get}
use Rattle.std.specs.List.{list_all}
use Rattle.std.specs.Option.{option_map, option_and_then, option_or}
use Rattle.felm_term.specs.declared.value.Value.{Value}
use Rattle.felm_term.specs.declared.message.Message.{Message}
use Rattle.felm_term.specs.declared.event.Event.{Event}
use Rattle.felm_graph.specs.declared.node.Node.{Node}
use Rattle.felm_graph.specs.GraphValue.{GraphValue}
use Rattle.felm_graph.specs.Nodes.{is_source}
use Rattle.felm_meaning.specs.Nodes.{is_input, inner}
use Rattle.felm_meaning.specs.Meaning.{at, row, msg, changes, IsThere}

-- ---- events in a journal

-- the input events, in order
unfoldable pub inputs_in : GraphValue → List Event → List Event
inputs_in g j = filter (λ e. is_input g.nodes e.source) j

-- how many events are of this source
unfoldable pub entered : List Event → ℕ → ℕ
entered j a = count_by (λ e. e.source == a) j

-- the source of each event is an input
abbrev pub NamesInputs : List Node → List Event → Type 0
NamesInputs nodes script = (i : ℕ) (e : Event) → slice_get script i ≡ Some e → is_input nodes e.source ≡ true

-- ---- legal and complete journals

-- each event of an async, after i events of it, carries the Change that its inner signal had after i others before the event
abbrev pub IsCaused : GraphValue → ℕ → List Event → Type 0
IsCaused g b j =
    (p : ℕ) (e : Event) (x : ℕ) → slice_get j p ≡ Some e → inner g.nodes e.source ≡ Some x
    → slice_get (changes g b j x p) (entered (take p j) e.source) ≡ Some e.value

-- events of sources alone, of which those of inputs are the first ones of the script, and those of asyncs have their causes
pub record IsLegal (g : GraphValue) (b : ℕ) (script j : List Event) : Type 0 where
  pub sources : (p : ℕ) (e : Event) → slice_get j p ≡ Some e → is_source g.nodes e.source ≡ true
  pub scripted : (rest : List Event) × (script ≡ inputs_in g j ++ rest)
  pub caused : IsCaused g b j

-- legal, with every event of the script, as many events of each async as its inner signal has Changes, and every message and default
pub record IsComplete (g : GraphValue) (b : ℕ) (script j : List Event) : Type 0 where
  pub legal : IsLegal g b script j
  pub whole : inputs_in g j ≡ script
  pub all_entered : (a x : ℕ) → inner g.nodes a ≡ Some x → entered j a ≡ length (changes g b j x (length j))
  pub there : (k p : ℕ) → k < length g.nodes → p ≤ length j → IsThere (msg g b j k p)

-- ---- the plain journal

-- the first Change of the inner signal of async a that has no event yet
unfoldable pub waiting : GraphValue → ℕ → List Event → ℕ → Option Value
waiting g b j a = option_and_then (λ x. slice_get (changes g b j x (length j)) (entered j a)) (inner g.nodes a)

-- the event of a source with a value that is there
abbrev pub event_at : ℕ → Option Value → Option Event
event_at a value = option_map (λ v. record { source = a; value = v }) value

-- the event of the least async that waits among the first n nodes
unfoldable pub first_waiting : GraphValue → ℕ → List Event → ℕ → Option Event
first_waiting g b j zero = None
first_waiting g b j (suc n) = option_or (first_waiting g b j n) (event_at n (waiting g b j n))

-- the next event: that of the least async that waits, else the next one of the script, else none
unfoldable pub next : GraphValue → ℕ → List Event → List Event → Option Event
next g b script j = option_or (first_waiting g b j (length g.nodes)) (slice_get script (length (inputs_in g j)))

-- every message at the journal's last position is there; every default, where it is empty
abbrev pub AllThere : GraphValue → ℕ → List Event → Type 0
AllThere g b j = (k : ℕ) → k < length g.nodes → IsThere (msg g b j k (length j))

-- the same of a row
abbrev pub all_there : List (Option Message) → Bool
all_there row = list_all is_some row

-- node k is the least that has no message in this row
abbrev pub IsLeastNone : GraphValue → List (Option Message) → ℕ → Type 0
IsLeastNone g row k = (k < length g.nodes) × (at row k ≡ None) × ((a : ℕ) → a < k → IsThere (at row a))

-- a journal with one more event, if there is one
abbrev pub with_event : List Event → Option Event → List Event
with_event j None = j
with_event j (Some e) = j ++ e ∷ []

-- the journal with its next event, where every message is there
abbrev pub grown : GraphValue → ℕ → List Event → List Event → List Event
grown g b script j = with_event j (if all_there (row g b j (length j)) then next g b script j else None)

-- from nothing it grows as long as it can, up to the limit
unfoldable pub plain_journal : GraphValue → ℕ → List Event → ℕ → List Event
plain_journal g b script zero = []
plain_journal g b script (suc limit) = grown g b script (plain_journal g b script limit)
