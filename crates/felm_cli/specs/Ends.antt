-- What a command leaves of a plan: how its run ends, and the text of that end.
use Rattle.std.specs.Prelude.{◌≡◌, ℕ, ⊤, List, length}
use Rattle.felm_meaning.specs.declared.history.History.{History}
use Rattle.felm_meaning.specs.declared.history.RunEnd.{RunEnd}
use Rattle.felm_meaning.specs.declared.history.RunEnd.TheVariants.{Complete, Stopped, Full}
use Rattle.felm_meaning.specs.PlanValue.{PlanValue}
use Rattle.felm_meaning.specs.Histories.{IsHistoryFor, IsConcluded}
use Rattle.felm_plain.specs.Ends.{IsEndFor}
use Rattle.felm_printer.specs.declared.result.Closing.TheVariants as closing
use Rattle.felm_printer.specs.declared.status.Status.{Status}
use Rattle.felm_printer.specs.declared.status.Status.TheVariants.{Success, Turn, Journal}
use Rattle.felm_printer.specs.Results.{NamesSources, result_text, stopped_text}
use Rattle.felm_printer.specs.Graphs.{graph_text}
use Rattle.felm_cli.specs.declared.words.Command.{Command}
use Rattle.felm_cli.specs.declared.words.Command.TheVariants.{Sync, Graph, Run}

-- ---- how a run ends

-- a history that can be printed: its journal is of sources, and has one message an event
pub record IsPrintable (plan : PlanValue) (h : History) : Type 0 where
  pub sources : NamesSources plan.graph h.journal.items
  pub one_each : length h.outputs.items ≡ length h.journal.items
  pub history : IsHistoryFor plan h

-- an end to which a command may run a plan: on one thread the one of its plain journal, and with workers any
abbrev pub MayEnd : Command → PlanValue → RunEnd → Type 0
MayEnd Sync plan end = IsEndFor plan end
MayEnd Run plan end = IsConcluded plan end
MayEnd Graph plan end = ⊥

-- ---- texts

-- the status and the text of an end
abbrev pub IsTextOfEnd : PlanValue → RunEnd → Status → List ℕ → Type 0
IsTextOfEnd plan (Complete h) status text =
    (status ≡ Success) × (text ≡ result_text plan.graph plan.budget h.journal.items closing.End)
IsTextOfEnd plan (Stopped journal node position) status text =
    (status ≡ Turn node position) × (text ≡ stopped_text plan.graph journal.items node position)
IsTextOfEnd plan (Full h) status text =
    (status ≡ Journal) × (text ≡ result_text plan.graph plan.budget h.journal.items closing.Full)

-- what a command may leave of a plan: this text, with this status
abbrev pub Leaves : Command → PlanValue → Status → List ℕ → Type 0
Leaves Graph plan status text = (status ≡ Success) × (text ≡ graph_text plan.graph)
Leaves command plan status text = (end : RunEnd) × MayEnd command plan end × IsTextOfEnd plan end status text

-- a status that leaves a text
abbrev pub LeavesText : Status → Type 0
LeavesText Success = ⊤
LeavesText (Turn node position) = ⊤
LeavesText Journal = ⊤
LeavesText _ = ⊥
