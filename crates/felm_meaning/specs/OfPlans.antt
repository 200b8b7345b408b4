-- The meaning and the journals of a plan.
use Rattle.std.specs.Prelude.{ℕ, List, Option}
use Rattle.felm_term.specs.declared.value.Value.{Value}
use Rattle.felm_term.specs.declared.message.Message.{Message}
use Rattle.felm_term.specs.declared.event.Event.{Event}
use Rattle.felm_meaning.specs.Meaning.{msg, val, changes, sends, edge}
use Rattle.felm_meaning.specs.Journals.{IsCaused, IsLegal, IsComplete, waiting, next, plain_journal}
use Rattle.felm_meaning.specs.Ends.{IsOver, IsStopped, IsFull}
use Rattle.felm_meaning.specs.Laws.{DefaultsThere}
use Rattle.felm_meaning.specs.Words.{CameNext}
use Rattle.felm_meaning.specs.PlanValue.{PlanValue}

-- ---- the meaning

-- every default is there
abbrev pub DefaultsThereFor : PlanValue → Type 0
DefaultsThereFor plan = DefaultsThere plan.graph plan.budget

-- the message of node k at a position of a journal, or none
abbrev pub msg_for : PlanValue → List Event → ℕ → ℕ → Option Message
msg_for plan j k p = msg plan.graph plan.budget j k p

-- its value there, or none
abbrev pub val_for : PlanValue → List Event → ℕ → ℕ → Option Value
val_for plan j k p = val plan.graph plan.budget j k p

-- the values of its Changes up to a position
abbrev pub changes_for : PlanValue → List Event → ℕ → ℕ → List Value
changes_for plan j k p = changes plan.graph plan.budget j k p

-- its messages up to a position
abbrev pub sends_for : PlanValue → List Event → ℕ → ℕ → List Message
sends_for plan j k w = sends plan.graph plan.budget j k w

-- the contents of an edge from it: its messages after position r, up to position w
abbrev pub edge_for : PlanValue → List Event → ℕ → ℕ → ℕ → List Message
edge_for plan j k r w = edge plan.graph plan.budget j k r w

-- ---- journals

-- each event of an async has its cause
abbrev pub IsCausedFor : PlanValue → List Event → Type 0
IsCausedFor plan j = IsCaused plan.graph plan.budget j

abbrev pub IsLegalFor : PlanValue → List Event → Type 0
IsLegalFor plan j = IsLegal plan.graph plan.budget plan.script j

abbrev pub IsCompleteFor : PlanValue → List Event → Type 0
IsCompleteFor plan j = IsComplete plan.graph plan.budget plan.script j

-- the first Change of an async's inner signal that has no event yet
abbrev pub waiting_for : PlanValue → List Event → ℕ → Option Value
waiting_for plan j a = waiting plan.graph plan.budget j a

-- what comes next on one thread
abbrev pub next_for : PlanValue → List Event → Option Event
next_for plan j = next plan.graph plan.budget plan.script j

-- each event came next, below the limit
abbrev pub CameNextFor : PlanValue → List Event → Type 0
CameNextFor plan j = CameNext plan.graph plan.budget plan.script plan.limit j

-- the journal of a run on one thread
abbrev pub plain_journal_for : PlanValue → List Event
plain_journal_for plan = plain_journal plan.graph plan.budget plan.script plan.limit

-- ---- ends

-- the call of node k at a position is over budget
abbrev pub IsOverFor : PlanValue → List Event → ℕ → ℕ → Type 0
IsOverFor plan j k p = IsOver plan.graph plan.budget j k p

-- a legal journal, and a call over it that is over budget
abbrev pub IsStoppedFor : PlanValue → List Event → ℕ → ℕ → Type 0
IsStoppedFor plan j k p = IsStopped plan.graph plan.budget plan.script j k p

-- a legal journal at the limit, though something is still to enter
abbrev pub IsFullFor : PlanValue → List Event → Type 0
IsFullFor plan j = IsFull plan.graph plan.budget plan.script plan.limit j
