-- What is wrong with a text, by the cause and the place that a status tells.
use Rattle.std.specs.Prelude.{◌≡◌, ℕ, List, Some, None}
use Rattle.felm_term.specs.CoreTerm.{CoreTerm}
use Rattle.felm_term.specs.declared.input.InputDecl.{InputDecl}
use Rattle.felm_lexer.specs.declared.token.Token.{Token}
use Rattle.felm_lexer.specs.Readings.{Reads, Whole, NoToken as NoTokenAt, TooWide as TooWideAt}
use Rattle.felm_syntax.specs.FirstFaults.{Fault, IsFirstFault}
use Rattle.felm_syntax.specs.FirstFaults as tokens
use Rattle.felm_syntax.specs.ProgramText.{IsProgramText, nesting_limit}
use Rattle.felm_syntax.specs.declared.program.Program.{Program}
use Rattle.felm_types.specs.declared.fault.TypeFault.{TypeFault}
use Rattle.felm_types.specs.declared.fault.TypeFault.TheVariants as typing
use Rattle.felm_types.specs.FirstFault.{program_fault}
use Rattle.felm_script.specs.declared.fault.ScriptFault.{ScriptFault}
use Rattle.felm_script.specs.declared.fault.ScriptFault.TheVariants as scripting
use Rattle.felm_graph.specs.FinishedPair.{FinishedPair, FinishGives}
use Rattle.felm_stage.specs.Outcome.{IsLarge}
use Rattle.felm_printer.specs.declared.status.SyntaxCause.{SyntaxCause}
use Rattle.felm_printer.specs.declared.status.SyntaxCause.TheVariants.{NoToken, Wide, Grammar, Depth, Twice}
use Rattle.felm_printer.specs.declared.status.TypingCause.{TypingCause}
use Rattle.felm_printer.specs.declared.status.TypingCause.TheVariants.{Untyped, Unknown, IllFormed, MainType}
use Rattle.felm_printer.specs.declared.status.ScriptCause.{ScriptCause}
use Rattle.felm_printer.specs.declared.status.ScriptCause.TheVariants.{Line, Name, Literal}
use Rattle.felm_printer.specs.declared.status.StageCause.{StageCause}
use Rattle.felm_printer.specs.declared.status.StageCause.TheVariants.{Over, Large}

-- ---- the program's text

-- a text has tokens, and this is their first fault
abbrev pub HasTokenFault : List ℕ → Fault → Type 0
HasTokenFault text fault = (ts : List Token) × Reads text (Whole ts) × IsFirstFault text nesting_limit ts fault

-- a text has no tokens, for this cause and from this place on, or this is the first fault of its tokens
abbrev pub IsSyntaxFault : List ℕ → SyntaxCause → ℕ → Type 0
IsSyntaxFault text NoToken at = Reads text (NoTokenAt at)
IsSyntaxFault text Wide at = Reads text (TooWideAt at)
IsSyntaxFault text Grammar at = HasTokenFault text (tokens.Syntax at)
IsSyntaxFault text Depth at = HasTokenFault text (tokens.Depth at)
IsSyntaxFault text Twice at = HasTokenFault text (tokens.Twice at)

-- ---- its types

-- the fault of types that a cause and a place are
abbrev pub type_fault : TypingCause → ℕ → TypeFault
type_fault Untyped at = typing.Untyped at
type_fault Unknown at = typing.Unknown at
type_fault IllFormed at = typing.IllFormed at
type_fault MainType at = typing.MainType at

-- a text is a program whose first fault of types is this
abbrev pub IsTypingFault : List ℕ → TypingCause → ℕ → Type 0
IsTypingFault text cause at = (read : Program) × IsProgramText text read × (program_fault read ≡ Some (type_fault cause at))

-- ---- the script

-- the fault of a script that a cause and a line are
abbrev pub script_fault : ScriptCause → ℕ → ScriptFault
script_fault Line line = scripting.Line line
script_fault Name line = scripting.Name line
script_fault Literal line = scripting.Literal line

-- ---- stage one

-- a core term takes more steps than the budget; or it doesn't, and its graph is too large
abbrev pub IsStageFault : List InputDecl → ℕ → CoreTerm → StageCause → Type 0
IsStageFault inputs budget term Over = FinishGives term budget None
IsStageFault inputs budget term Large = (pair : FinishedPair) × FinishGives term budget (Some pair) × IsLarge inputs pair
