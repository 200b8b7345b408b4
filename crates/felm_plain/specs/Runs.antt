-- What a run on one thread keeps from event to event.
use Rattle.std.specs.Prelude.{◌≡◌, ℕ, ◌<◌, Option, Some, None, List, [], ◌∷◌, ◌++◌, length, slice_get}
use Rattle.felm_term.specs.declared.value.Value.{Value}
use Rattle.felm_term.specs.declared.message.Message.{Message}
use Rattle.felm_term.specs.declared.event.Event.{Event}
use Rattle.felm_graph.specs.GraphValue.{GraphValue}
use Rattle.felm_graph.specs.Graphs.{IsGraph}
use Rattle.felm_meaning.specs.declared.plan.Plan.{Plan}
use Rattle.felm_meaning.specs.PlanValue.{PlanValue}
use Rattle.felm_meaning.specs.OfPlans.{CameNextFor, next_for}
use Rattle.felm_meaning.specs.Plans.{plan_of}
use Rattle.felm_meaning.specs.Meaning.{row, val, sends}
use Rattle.felm_meaning.specs.Journals.{IsLegal, NamesInputs, IsLeastNone, inputs_in}
use Rattle.felm_meaning.specs.Words.{CameNext}
use Rattle.felm_meaning.specs.Types.{EventsFit}
use Rattle.felm_plain.specs.declared.run.Run.{Run}
use Rattle.felm_plain.specs.Rows.{row_of}
use Rattle.felm_plain.specs.Queues.{Holds}

-- a run has come as far as journal j, and has taken the events of a journal off its queues and the script
pub record Keeps (g : GraphValue) (b : ℕ) (script : List Event) (limit : ℕ) (j taken : List Event) (messages : List Message)
    (queues : List (List Value)) (outputs : List Message) (cursor : ℕ) : Type 0 where
  pub graph : IsGraph g
  pub named : NamesInputs g.nodes script
  pub typed : EventsFit g script
  pub came : CameNext g b script limit j
  pub legal : IsLegal g b script j
  pub row : row_of messages ≡ row g b j (length j)
  pub sent : outputs ≡ sends g b j g.main (length j)
  pub holds : Holds g b taken (length j) queues
  pub at_cursor : cursor ≡ length (inputs_in g taken)

-- the default of each node, in order
abbrev pub AreDefaults : GraphValue → ℕ → List Value → Type 0
AreDefaults g b values =
    (length values ≡ length g.nodes) × ((k : ℕ) → k < length g.nodes → val g b [] k 0 ≡ slice_get values k)

-- the same of a plan
abbrev pub AreDefaultsFor : PlanValue → List Value → Type 0
AreDefaultsFor plan values = AreDefaults plan.graph plan.budget values

-- a run of the plan has come as far as its journal, and has taken these events
abbrev pub Stands : Plan → Run → List Event → Type 0
Stands p r taken =
    Keeps p.graph p.limits.turn_steps p.script.items p.limits.journal r.journal.items taken r.row r.queues r.outputs.items r.cursor

-- between two events the run has taken the events of its journal
abbrev pub IsBetween : Plan → Run → Type 0
IsBetween p r = Stands p r r.journal.items

-- a run that has entered nothing
abbrev pub IsBegun : Plan → Run → Type 0
IsBegun p r = IsBetween p r × (r.journal.items ≡ [])

-- the event that comes next in a run
abbrev pub next_in : Plan → Run → Option Event
next_in p r = next_for (plan_of p) r.journal.items

-- the run has taken the event that comes next; or there is none, and the run stays
abbrev pub TakesNext : Plan → Run → Run → Option Event → Type 0
TakesNext p before after None = (next_in p after ≡ None) × (after ≡ before)
TakesNext p before after (Some e) =
    Stands p after (after.journal.items ++ e ∷ []) × (next_in p after ≡ Some e) × (after.journal.items ≡ before.journal.items)

-- the run has entered the event, or this is the least node without a message there
abbrev pub Enters : Plan → Run → Event → Run → Option ℕ → Type 0
Enters p before e after None = IsBetween p after × (after.journal.items ≡ before.journal.items ++ e ∷ [])
Enters p before e after (Some k) =
    (after.journal.items ≡ before.journal.items ++ e ∷ [])
    × CameNextFor (plan_of p) after.journal.items
    × IsLeastNone p.graph (row p.graph p.limits.turn_steps after.journal.items (length after.journal.items)) k
