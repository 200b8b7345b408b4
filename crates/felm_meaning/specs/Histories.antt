-- What the run of a plan was, and how one may end that events entered in any legal order: said of its journal alone.
use Rattle.std.specs.Prelude.{◌≡◌, ℕ, ◌<◌, List, [], Some, length}
use Rattle.felm_term.specs.declared.event.Event.{Event}
use Rattle.felm_graph.specs.GraphValue.{GraphValue}
use Rattle.felm_meaning.specs.Meaning.{val, sends}
use Rattle.felm_meaning.specs.PlanValue.{PlanValue}
use Rattle.felm_meaning.specs.OfPlans.{DefaultsThereFor, IsCompleteFor, IsStoppedFor, IsFullFor}
use Rattle.felm_meaning.specs.declared.history.History.{History}
use Rattle.felm_meaning.specs.declared.history.RunEnd.{RunEnd}
use Rattle.felm_meaning.specs.declared.history.RunEnd.TheVariants as end

-- a journal, with the default and the messages of main over it
pub record IsHistory (g : GraphValue) (b : ℕ) (j : List Event) (h : History) : Type 0 where
  pub journal : h.journal.items ≡ j
  pub default : val g b j g.main 0 ≡ Some h.default
  pub outputs : h.outputs.items ≡ sends g b j g.main (length j)

-- the same of a plan, over the history's own journal
abbrev pub IsHistoryFor : PlanValue → History → Type 0
IsHistoryFor plan h = IsHistory plan.graph plan.budget h.journal.items h

-- histories that are equal but for the room that is left in their lists
pub record SameHistory (left right : History) : Type 0 where
  pub default : left.default ≡ right.default
  pub journal : left.journal.items ≡ right.journal.items
  pub outputs : left.outputs.items ≡ right.outputs.items

-- a run of the plan that stopped at the call of node k at a position: at 0, which stands for its default, before any event; later only
-- where every node has a default
pub record IsStoppedAt (plan : PlanValue) (j : List Event) (k position : ℕ) : Type 0 where
  pub stopped : IsStoppedFor plan j k position
  pub before_events : position ≡ 0 → j ≡ []
  pub past_defaults : 0 < position → DefaultsThereFor plan

-- an end of the plan's run: its journal is complete; or a call is over budget; or the journal is full, though something is still to enter
abbrev pub IsConcluded : PlanValue → RunEnd → Type 0
IsConcluded plan (end.Complete h) = IsCompleteFor plan h.journal.items × IsHistoryFor plan h
IsConcluded plan (end.Stopped journal node position) = IsStoppedAt plan journal.items node position
IsConcluded plan (end.Full h) = IsFullFor plan h.journal.items × IsHistoryFor plan h

-- the events of a run that ended so
abbrev pub journal_of : RunEnd → List Event
journal_of (end.Complete h) = h.journal.items
journal_of (end.Stopped journal node position) = journal.items
journal_of (end.Full h) = h.journal.items
