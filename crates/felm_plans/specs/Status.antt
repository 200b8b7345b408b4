-- The statuses of what is wrong with texts.
use Rattle.felm_lexer.specs.declared.fault.LexFault.{LexFault}
use Rattle.felm_lexer.specs.declared.fault.LexFault.TheVariants as lexing
use Rattle.felm_parser.specs.declared.fault.ParseFault.{ParseFault}
use Rattle.felm_parser.specs.declared.fault.ParseFault.TheVariants as parsing
use Rattle.felm_types.specs.declared.fault.TypeFault.{TypeFault}
use Rattle.felm_types.specs.declared.fault.TypeFault.TheVariants as typing
use Rattle.felm_script.specs.declared.fault.ScriptFault.{ScriptFault}
use Rattle.felm_script.specs.declared.fault.ScriptFault.TheVariants as scripting
use Rattle.felm_printer.specs.declared.status.Status.{Status}
use Rattle.felm_printer.specs.declared.status.Status.TheVariants.{Syntax, Typing, Script, Memory}
use Rattle.felm_printer.specs.declared.status.SyntaxCause.TheVariants.{NoToken, Wide, Grammar, Depth, Twice}
use Rattle.felm_printer.specs.declared.status.TypingCause.TheVariants.{Untyped, Unknown, IllFormed, MainType}
use Rattle.felm_printer.specs.declared.status.ScriptCause.TheVariants.{Line, Name, Literal}

-- the status of a text that has no tokens
abbrev pub status_of_lex_fault : LexFault → Status
status_of_lex_fault (lexing.Byte at) = Syntax NoToken at
status_of_lex_fault (lexing.Wide at) = Syntax Wide at
status_of_lex_fault lexing.Memory = Memory

-- the status of tokens that are no program
abbrev pub status_of_parse_fault : ParseFault → Status
status_of_parse_fault (parsing.Syntax at) = Syntax Grammar at
status_of_parse_fault (parsing.Depth at) = Syntax Depth at
status_of_parse_fault (parsing.Twice at) = Syntax Twice at
status_of_parse_fault parsing.Memory = Memory

-- the status of a program that has no type
abbrev pub status_of_type_fault : TypeFault → Status
status_of_type_fault (typing.Untyped at) = Typing Untyped at
status_of_type_fault (typing.Unknown at) = Typing Unknown at
status_of_type_fault (typing.IllFormed at) = Typing IllFormed at
status_of_type_fault (typing.MainType at) = Typing MainType at
status_of_type_fault typing.Memory = Memory

-- the status of a script that is refused
abbrev pub status_of_script_fault : ScriptFault → Status
status_of_script_fault (scripting.Line line) = Script Line line
status_of_script_fault (scripting.Name line) = Script Name line
status_of_script_fault (scripting.Literal line) = Script Literal line
status_of_script_fault scripting.Memory = Memory
