-- What the laws of this crate say.
use Rattle.std.specs.Prelude.{◌≡◌, ◌⊎◌, ℕ, List, Result}
use Rattle.felm_term.specs.declared.event.Event.{Event}
use Rattle.felm_syntax.specs.ProgramText.{IsProgramText}
use Rattle.felm_syntax.specs.declared.program.Program.{Program}
use Rattle.felm_types.specs.Typed.{IsTyped}
use Rattle.felm_meaning.specs.Journals.{IsLegal}
use Rattle.felm_printer.specs.declared.result.Closing.{Closing}
use Rattle.felm_printer.specs.declared.status.Status.{Status}
use Rattle.felm_printer.specs.declared.status.SyntaxCause.{SyntaxCause}
use Rattle.felm_printer.specs.declared.status.TypingCause.{TypingCause}
use Rattle.felm_printer.specs.Results.{result_text, stopped_text}
use Rattle.felm_plans.specs.Faults.{IsSyntaxFault, IsTypingFault}
use Rattle.felm_plans.specs.Plans.{Planned, HavePlan, ComeTo}

-- two texts come to at most one plan or fault
abbrev pub TextsComeToOnePlan : Type 0
TextsComeToOnePlan =
    (budget : ℕ) (program script : List ℕ) (one other : Result Planned Status) → ComeTo budget program script one → ComeTo budget program script other
    → one ≡ other

-- of a plan of two texts, legal journals with equal result texts are equal, and so are those with equal stopped texts
abbrev pub TextsNameTheirJournals : Type 0
TextsNameTheirJournals =
    (program script : List ℕ) (stage_steps : ℕ) (plan : Planned) (b : ℕ) (one other : List Event) → HavePlan program script stage_steps plan
    → IsLegal plan.graph b plan.script one → IsLegal plan.graph b plan.script other
    → ((c d : Closing) → result_text plan.graph b one c ≡ result_text plan.graph b other d → one ≡ other)
    × ((k p l q : ℕ) → stopped_text plan.graph one k p ≡ stopped_text plan.graph other l q → one ≡ other)

-- a text is a program, or it has a fault of its text
abbrev pub IsProgramOrFaulty : List ℕ → Type 0
IsProgramOrFaulty text = ((program : Program) × IsProgramText text program) ⊎ ((cause : SyntaxCause) × (at : ℕ) × IsSyntaxFault text cause at)

-- each text is one or the other
abbrev pub TextsAreProgramsOrFaulty : Type 0
TextsAreProgramsOrFaulty = (text : List ℕ) → IsProgramOrFaulty text

-- a text with a fault is no program
abbrev pub FaultyTextsAreNoPrograms : Type 0
FaultyTextsAreNoPrograms = (text : List ℕ) (cause : SyntaxCause) (at : ℕ) (program : Program) → IsSyntaxFault text cause at → IsProgramText text program → ⊥

-- a program with a fault of types isn't typed
abbrev pub FaultyProgramsAreUntyped : Type 0
FaultyProgramsAreUntyped =
    (text : List ℕ) (cause : TypingCause) (at : ℕ) (program : Program) → IsTypingFault text cause at → IsProgramText text program → IsTyped program → ⊥
