-- How the run of a plan on one thread ends.
use Rattle.std.specs.Prelude.{◌≡◌, ℕ, Some, None, List, length}
use Rattle.felm_term.specs.declared.event.Event.{Event}
use Rattle.felm_graph.specs.GraphValue.{GraphValue}
use Rattle.felm_meaning.specs.declared.history.RunEnd.{RunEnd}
use Rattle.felm_meaning.specs.declared.history.RunEnd.TheVariants.{Complete, Stopped, Full}
pub use Rattle.felm_meaning.specs.Histories.{IsHistory}
use Rattle.felm_meaning.specs.Meaning.{row}
use Rattle.felm_meaning.specs.Journals.{AllThere, IsLeastNone, next, plain_journal}
use Rattle.felm_meaning.specs.PlanValue.{PlanValue}

-- how a run ends with a journal: every message is there and nothing comes next; or the node is the least without a message at the
-- last event, or without a default where there is no event; or every message is there and the journal is at its limit, though
-- something comes next
abbrev pub EndsWith : GraphValue → ℕ → List Event → ℕ → List Event → RunEnd → Type 0
EndsWith g b script limit j (Complete h) = IsHistory g b j h × AllThere g b j × (next g b script j ≡ None)
EndsWith g b script limit j (Stopped journal node position) =
    (journal.items ≡ j) × (position ≡ length j) × IsLeastNone g (row g b j (length j)) node
EndsWith g b script limit j (Full h) =
    IsHistory g b j h × AllThere g b j × (length j ≡ limit) × ((e : Event) × (next g b script j ≡ Some e))

-- the end of a run on one thread: its journal is the plain one
abbrev pub IsEndOf : GraphValue → ℕ → List Event → ℕ → RunEnd → Type 0
IsEndOf g b script limit end = EndsWith g b script limit (plain_journal g b script limit) end

-- the same of a plan
abbrev pub IsEndFor : PlanValue → RunEnd → Type 0
IsEndFor plan end = IsEndOf plan.graph plan.budget plan.script plan.limit end
