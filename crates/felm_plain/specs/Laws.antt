-- Laws of how runs on one thread end.
use Rattle.std.specs.Prelude.{◌≡◌, ℕ, ◌<◌, ◌≤◌, Some, None, List, length}
use Rattle.felm_term.specs.Spared.{Spared}
use Rattle.felm_term.specs.declared.event.Event.{Event}
use Rattle.felm_graph.specs.GraphValue.{GraphValue}
use Rattle.felm_graph.specs.Graphs.{IsGraph}
use Rattle.felm_meaning.specs.declared.history.History.{History}
use Rattle.felm_meaning.specs.declared.history.RunEnd.{RunEnd}
use Rattle.felm_meaning.specs.declared.history.RunEnd.TheVariants.{Complete, Stopped, Full}
pub use Rattle.felm_meaning.specs.Histories.{SameHistory}
use Rattle.felm_meaning.specs.Meaning.{row, IsThere}
use Rattle.felm_meaning.specs.Journals.{NamesInputs, AllThere, IsLeastNone, next}
use Rattle.felm_meaning.specs.PlanValue.{PlanValue}
use Rattle.felm_meaning.specs.OfPlans.{msg_for, IsLegalFor, IsCompleteFor, IsStoppedFor, IsFullFor, plain_journal_for}
use Rattle.felm_plain.specs.Ends.{IsEndFor}

-- ---- one end

-- ends of one kind, with the same parts
abbrev pub SameEnd : RunEnd → RunEnd → Type 0
SameEnd (Complete left) (Complete right) = SameHistory left right
SameEnd (Stopped left node position) (Stopped right k p) = (left.items ≡ right.items) × (node ≡ k) × (position ≡ p)
SameEnd (Full left) (Full right) = SameHistory left right
SameEnd left right = ⊥

-- a plan has one end
abbrev pub OneEnd : Type 0
OneEnd =
    (plan : PlanValue) (left right : RunEnd) → IsEndFor plan left → IsEndFor plan right → SameEnd left right

-- an end is of the kind that a journal asks for, with the node and the position of a stop
pub record IsExact (g : GraphValue) (b : ℕ) (script : List Event) (limit : ℕ) (j : List Event) (end : RunEnd) : Type 0 where
  pub complete : AllThere g b j → next g b script j ≡ None → (h : History) × (end ≡ Complete h)
  pub stopped : (k : ℕ) → IsLeastNone g (row g b j (length j)) k → (journal : Spared Event) × (end ≡ Stopped journal k (length j))
  pub full : (e : Event) → AllThere g b j → length j ≡ limit → next g b script j ≡ Some e → (h : History) × (end ≡ Full h)

-- so is the end of a plan, by its plain journal
abbrev pub EndsAreExact : Type 0
EndsAreExact =
    (plan : PlanValue) (end : RunEnd) → IsEndFor plan end → IsExact plan.graph plan.budget plan.script plan.limit (plain_journal_for plan) end

-- ---- what an end says of its journal

-- a run that ends complete has a complete journal
abbrev pub CompleteEndsAreComplete : Type 0
CompleteEndsAreComplete =
    (plan : PlanValue) (h : History) → IsGraph plan.graph → NamesInputs plan.graph.nodes plan.script → IsEndFor plan (Complete h)
    → IsCompleteFor plan h.journal.items

-- where a run stops, the call of that node at that position is over budget
abbrev pub StoppedEndsAreStopped : Type 0
StoppedEndsAreStopped =
    (plan : PlanValue) (journal : Spared Event) (node position : ℕ) → IsGraph plan.graph → NamesInputs plan.graph.nodes plan.script
    → IsEndFor plan (Stopped journal node position) → IsStoppedFor plan journal.items node position

-- where a run is full, its journal has every message, and something was still to enter
abbrev pub FullEndsAreFull : Type 0
FullEndsAreFull =
    (plan : PlanValue) (h : History) → IsGraph plan.graph → NamesInputs plan.graph.nodes plan.script → IsEndFor plan (Full h)
    → IsFullFor plan h.journal.items

-- a run is complete where every message over its journal is there and no legal journal is longer than the limit
abbrev pub RunsComplete : Type 0
RunsComplete =
    (plan : PlanValue) (end : RunEnd) → NamesInputs plan.graph.nodes plan.script
    → ((k p : ℕ) → k < length plan.graph.nodes → p ≤ length (plain_journal_for plan) → IsThere (msg_for plan (plain_journal_for plan) k p))
    → ((j : List Event) → IsLegalFor plan j → length j ≤ plan.limit) → IsEndFor plan end → (h : History) × (end ≡ Complete h)
