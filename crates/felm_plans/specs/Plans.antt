-- The plan of two texts, or why they have none: the first case of the order of work that applies.
use Rattle.std.specs.Prelude.{◌≡◌, ℕ, ⊤, List, Some, Result, Ok, Err}
use Rattle.felm_term.specs.CoreTerm.{CoreTerm}
use Rattle.felm_term.specs.declared.event.Event.{Event}
use Rattle.felm_term.specs.declared.input.InputDecl.{InputDecl}
use Rattle.felm_syntax.specs.ProgramText.{IsProgramText}
use Rattle.felm_syntax.specs.declared.program.Program.{Program}
use Rattle.felm_types.specs.FirstFault.{program_fault}
use Rattle.felm_types.specs.Typed.{IsTyped, program_term}
use Rattle.felm_graph.specs.FinishedPair.{FinishedPair, FinishGives}
use Rattle.felm_graph.specs.GraphValue.{GraphValue}
use Rattle.felm_stage.specs.Outcome.{IsGraphOf}
use Rattle.felm_meaning.specs.declared.plan.Plan.{Plan}
use Rattle.felm_script.specs.Script.{script_of}
use Rattle.felm_printer.specs.declared.status.Status.{Status}
use Rattle.felm_printer.specs.declared.status.Status.TheVariants.{Syntax, Typing, Script, Stage, Memory}
use Rattle.felm_printer.specs.declared.status.ScriptCause.{ScriptCause}
use Rattle.felm_printer.specs.declared.status.StageCause.{StageCause}
use Rattle.felm_plans.specs.Faults.{IsSyntaxFault, IsTypingFault, IsStageFault, type_fault, script_fault}

-- ---- programs

-- a text is this program, and it is typed
pub record IsTypedText (text : List ℕ) (program : Program) : Type 0 where
  pub text_of : IsProgramText text program
  pub typed : IsTyped program

-- a core term under declared inputs comes to a finished pair within a budget of steps, and this is the layout of that
abbrev pub IsStagedTerm : List InputDecl → CoreTerm → ℕ → GraphValue → Type 0
IsStagedTerm inputs term budget g = (pair : FinishedPair) × FinishGives term budget (Some pair) × IsGraphOf inputs pair g

-- a program's core term comes to a finished pair within a budget of steps, and this is the layout of that
abbrev pub IsStagedAs : Program → ℕ → GraphValue → Type 0
IsStagedAs program budget g = (term : CoreTerm) × (program_term program ≡ Some term) × IsStagedTerm program.inputs term budget g

-- a program has no graph within a budget of steps, for this cause
abbrev pub IsUnstaged : Program → ℕ → StageCause → Type 0
IsUnstaged program budget cause = (term : CoreTerm) × (program_term program ≡ Some term) × IsStageFault program.inputs budget term cause

-- ---- plans

-- what is run: a graph, and the events of a script
pub record Planned : Type 0 where
  pub graph : GraphValue
  pub script : List Event

-- the text of a program and the text of a script have this plan within a budget of steps for stage one
pub record HavePlan (program script : List ℕ) (budget : ℕ) (plan : Planned) : Type 0 where
  pub read : Program
  pub typed : IsTypedText program read
  pub events : script_of read.inputs script ≡ Ok plan.script
  pub staged : IsStagedAs read budget plan.graph

-- a typed program, and the text of a script whose first refused line is this, for this cause
pub record IsScriptFault (program script : List ℕ) (cause : ScriptCause) (line : ℕ) : Type 0 where
  pub read : Program
  pub typed : IsTypedText program read
  pub refused : script_of read.inputs script ≡ Err (script_fault cause line)

-- a typed program without a graph, and a script that is accepted
pub record AreUnplanned (program script : List ℕ) (budget : ℕ) (cause : StageCause) : Type 0 where
  pub read : Program
  pub typed : IsTypedText program read
  pub events : List Event
  pub accepted : script_of read.inputs script ≡ Ok events
  pub unstaged : IsUnstaged read budget cause

-- ---- refusals

-- why the text of a program and the text of a script have no plan
abbrev pub IsPlanFault : ℕ → List ℕ → List ℕ → Status → Type 0
IsPlanFault budget program script (Syntax cause at) = IsSyntaxFault program cause at
IsPlanFault budget program script (Typing cause at) = IsTypingFault program cause at
IsPlanFault budget program script (Script cause line) = IsScriptFault program script cause line
IsPlanFault budget program script (Stage cause) = AreUnplanned program script budget cause
IsPlanFault budget program script _ = ⊥

-- what the text of a program and the text of a script come to: their plan, or why they have none
abbrev pub ComeTo : ℕ → List ℕ → List ℕ → Result Planned Status → Type 0
ComeTo budget program script (Ok plan) = HavePlan program script budget plan
ComeTo budget program script (Err status) = IsPlanFault budget program script status

-- this holds of a status, or it says that there was no memory
abbrev pub OrMemory : (Status → Type 0) → Status → Type 0
OrMemory P Memory = ⊤
OrMemory P status = P status

-- ---- as the code comes to them

-- why a text is no program
abbrev pub IsProgramFault : List ℕ → Status → Type 0
IsProgramFault text (Syntax cause at) = IsSyntaxFault text cause at
IsProgramFault text _ = ⊥

-- why a program has no type
abbrev pub IsCheckFault : Program → Status → Type 0
IsCheckFault program (Typing cause at) = program_fault program ≡ Some (type_fault cause at)
IsCheckFault program _ = ⊥

-- why a text is no script for these inputs
abbrev pub IsEventsFault : List InputDecl → List ℕ → Status → Type 0
IsEventsFault inputs text (Script cause line) = script_of inputs text ≡ Err (script_fault cause line)
IsEventsFault inputs text _ = ⊥

-- why it has no graph
abbrev pub IsTermFault : List InputDecl → CoreTerm → ℕ → Status → Type 0
IsTermFault inputs term budget (Stage cause) = IsStageFault inputs budget term cause
IsTermFault inputs term budget _ = ⊥

-- a plan as what is run
abbrev pub planned : Plan → Planned
planned plan = record { graph = plan.graph; script = plan.script.items }
