-- Fault lines.
use Rattle.std.specs.Prelude.{◌≡◌, ℕ, ◌≤◌, ◌++◌, ◌⊎◌, List, [], codes, Option}
use Rattle.std.specs.Fmt.{decimal}
use Rattle.std.specs.Io.KnownBytes.{Appends}
use Rattle.felm_term.specs.declared.limits.Limits.{Limits}
use Rattle.felm_io.specs.Causes.{Rose, AppendsPrefix}
use Rattle.felm_printer.specs.declared.status.Status.{Status}
use Rattle.felm_printer.specs.declared.status.Status.TheVariants.{Success, Usage, Read, TooLong, Syntax, Typing, Script, Stage, Turn, Journal, Write, Memory}
use Rattle.felm_printer.specs.declared.status.SyntaxCause.{SyntaxCause}
use Rattle.felm_printer.specs.declared.status.SyntaxCause.TheVariants.{NoToken, Wide, Grammar, Depth, Twice}
use Rattle.felm_printer.specs.declared.status.TypingCause.{TypingCause}
use Rattle.felm_printer.specs.declared.status.TypingCause.TheVariants.{Untyped, Unknown, IllFormed, MainType}
use Rattle.felm_printer.specs.declared.status.ScriptCause.{ScriptCause}
use Rattle.felm_printer.specs.declared.status.ScriptCause.TheVariants.{Line, Name, Literal}
use Rattle.felm_printer.specs.declared.status.StageCause.{StageCause}
use Rattle.felm_printer.specs.declared.status.StageCause.TheVariants.{Over, Large}

-- what is wrong with the text of a program
abbrev pub fault_of_syntax : SyntaxCause → List ℕ
fault_of_syntax NoToken = codes "no token"
fault_of_syntax Wide = codes "number too wide"
fault_of_syntax Grammar = codes "syntax error"
fault_of_syntax Depth = codes "nested too deeply"
fault_of_syntax Twice = codes "input declared twice"

-- what is wrong with the types of a program
abbrev pub fault_of_typing : TypingCause → List ℕ
fault_of_typing Untyped = codes "no type"
fault_of_typing Unknown = codes "unknown name"
fault_of_typing IllFormed = codes "ill-formed type"
fault_of_typing MainType = codes "main is no signal"

-- what is wrong with a line of an event script
abbrev pub fault_of_script : ScriptCause → List ℕ
fault_of_script Line = codes "is no event"
fault_of_script Name = codes "names no input"
fault_of_script Literal = codes "has a wrong value"

-- what is wrong with a program, and where
abbrev pub at_byte : List ℕ → ℕ → List ℕ
at_byte fault at = codes "felm: " ++ fault ++ codes " at byte " ++ decimal at ++ codes "\n"

-- what is wrong with a line of a script
abbrev pub at_line : ℕ → List ℕ → List ℕ
at_line line fault = codes "felm: line " ++ decimal line ++ codes " " ++ fault ++ codes "\n"

-- why a program has no graph within its limits
abbrev pub stage_line : StageCause → Limits → List ℕ
stage_line Over limits = codes "felm: stage one takes more than " ++ decimal limits.stage_steps ++ codes " steps\n"
stage_line Large limits = codes "felm: the graph has more than 16384 nodes\n"

-- a turn that takes more steps than these
abbrev pub turn_line : ℕ → ℕ → ℕ → List ℕ
turn_line node steps position =
    codes "felm: node " ++ decimal node ++ codes " takes more than " ++ decimal steps ++ codes " steps at event " ++ decimal position ++ codes "\n"

-- the line of a status, with this file name and under these limits; none for success
abbrev pub fault_text : Status → List ℕ → Limits → List ℕ
fault_text Success file limits = []
fault_text Usage file limits = codes "felm: the words name no command of this program\n"
fault_text (Read which) file limits = codes "felm: cannot read " ++ file ++ codes "\n"
fault_text (TooLong which) file limits = codes "felm: " ++ file ++ codes " is too long\n"
fault_text (Syntax cause at) file limits = at_byte (fault_of_syntax cause) at
fault_text (Typing cause at) file limits = at_byte (fault_of_typing cause) at
fault_text (Script cause line) file limits = at_line line (fault_of_script cause)
fault_text (Stage cause) file limits = stage_line cause limits
fault_text (Turn node position) file limits = turn_line node limits.turn_steps position
fault_text Journal file limits = codes "felm: the journal is full at " ++ decimal limits.journal ++ codes " events\n"
fault_text Write file limits = codes "felm: cannot write\n"
fault_text Memory file limits = codes "felm: out of memory\n"

-- a put was refused: the count of its cause rose, and the other one stayed
abbrev pub IsRefused : ℕ → ℕ → ℕ → ℕ → Type 0
IsRefused faults faults' short short' =
    ((faults ≤ faults') × Rose faults faults' × (short' ≡ short)) ⊎ ((short ≤ short') × Rose short short' × (faults' ≡ faults))

-- the whole line was put and the counts stayed, or a prefix of it was where a put was refused
abbrev pub FaultPut : List ℕ → Option (List ℕ) → Option (List ℕ) → ℕ → ℕ → ℕ → ℕ → Type 0
FaultPut line old new faults faults' short short' =
    (Appends old new line × (faults' ≡ faults) × (short' ≡ short))
    ⊎ (AppendsPrefix old new line × IsRefused faults faults' short short')
