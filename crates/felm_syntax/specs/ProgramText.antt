-- Which texts are programs.
use Rattle.std.specs.Prelude.{ℕ, List, bytes_eq}
use Rattle.std.specs.List.{IsDistinct}
use Rattle.felm_term.specs.Inputs.{names_of}
use Rattle.felm_lexer.specs.declared.token.Token.{Token}
use Rattle.felm_lexer.specs.Readings.{Reads as Tokenizes, Whole}
use Rattle.felm_syntax.specs.declared.program.Program.{Program}
use Rattle.felm_syntax.specs.Grammar.{ReadsProgram}
use Rattle.felm_syntax.specs.Nesting.{NestWithin}

-- how deeply a token of a program may nest
abbrev pub nesting_limit : ℕ
nesting_limit = 200

-- the grammar reads the tokens of a text as a program, the declared names are distinct, and no token nests too deeply
abbrev pub IsProgram : List ℕ → List Token → Program → Type 0
IsProgram text tokens program =
    ReadsProgram text tokens program.inputs program.main
    × IsDistinct bytes_eq (names_of program.inputs) × NestWithin text nesting_limit tokens

-- a text splits into tokens, which are a program
abbrev pub IsProgramText : List ℕ → Program → Type 0
IsProgramText text program = (tokens : List Token) × Tokenizes text (Whole tokens) × IsProgram text tokens program
