-- What ties the reading function to the grammar and its fronts. Each is a fact about all texts and tokens.
use Rattle.std.specs.Prelude.{◌≡◌, ℕ, ◌+◌, ◌≤◌, List, [], ◌∷◌, ◌++◌, length, Ok, Err, Some, bytes_eq}
use Rattle.std.specs.List.{All, IsDistinct}
use Rattle.felm_term.specs.Inputs.{names_of}
use Rattle.felm_term.specs.declared.input.InputDecl.{InputDecl}
use Rattle.felm_lexer.specs.Readings.{Reads as Tokenizes, Whole}
use Rattle.felm_lexer.specs.declared.kind.TokenKind.TheVariants.{Name}
use Rattle.felm_lexer.specs.declared.token.Token.{Token}
use Rattle.felm_syntax.specs.Binders.{binders}
use Rattle.felm_syntax.specs.Expression.{Expression}
use Rattle.felm_syntax.specs.FirstFaults.{Fault, Syntax, AllPass, IsFirstFault}
use Rattle.felm_syntax.specs.Fronts.{IsFront}
use Rattle.felm_syntax.specs.Grammar.{ReadsProgram}
use Rattle.felm_syntax.specs.Kinds.{name_of, text_of}
use Rattle.felm_syntax.specs.Nesting.{NestWithin}
use Rattle.felm_reading.specs.Reading.{place, program_after}

-- ---- programs

-- what is read is a program by the grammar, with distinct names, and none of its tokens nests too deeply
abbrev pub ProgramSound : Type 0
ProgramSound = (text : List ℕ) (limit : ℕ) (ts : List Token) (ds : List InputDecl) (main : Expression) → program_after text limit [] ts ≡ Ok (ds, main)
    → ReadsProgram text ts ds main × IsDistinct bytes_eq (names_of ds) × NestWithin text limit ts

-- Of the tokens of a text, such a program is read.
abbrev pub ProgramComplete : Type 0
ProgramComplete = (text : List ℕ) (limit : ℕ) (ts : List Token) (ds : List InputDecl) (main : Expression) → Tokenizes text (Whole ts)
    → ReadsProgram text ts ds main → IsDistinct bytes_eq (names_of ds) → NestWithin text limit ts → program_after text limit [] ts ≡ Ok (ds, main)

-- a program's inputs and binders are no more than its tokens
abbrev pub ProgramSize : Type 0
ProgramSize = (text : List ℕ) (ts : List Token) (ds : List InputDecl) (main : Expression) → ReadsProgram text ts ds main
    → length ds + binders main ≤ length ts

-- tokens read as at most one program
abbrev pub OneProgram : Type 0
OneProgram = (text : List ℕ) (ts : List Token) (ds es : List InputDecl) (main other : Expression) → ReadsProgram text ts ds main
    → ReadsProgram text ts es other → (ds ≡ es) × (main ≡ other)

-- of the tokens of a text, each of the kind of names is the name that its slice spells
abbrev pub TokenNames : Type 0
TokenNames = (text : List ℕ) (tokens : List Token) → Tokenizes text (Whole tokens)
    → All (λ t. t.kind ≡ Name → name_of text t ≡ Some (text_of text t)) tokens

-- ---- fronts and faults

-- none of the tokens of a program is refused
abbrev pub ProgramPasses : Type 0
ProgramPasses = (text : List ℕ) (limit : ℕ) (ts : List Token) (ds : List InputDecl) (main : Expression) → Tokenizes text (Whole ts)
    → ReadsProgram text ts ds main → IsDistinct bytes_eq (names_of ds) → NestWithin text limit ts → AllPass text limit ts

-- a whole program is a front of one
abbrev pub WholeIsFront : Type 0
WholeIsFront = (text : List ℕ) (ts : List Token) (ds : List InputDecl) (main : Expression) → ReadsProgram text ts ds main → IsFront text ts

-- Of the tokens of a text, reading stops at the first fault.
abbrev pub FirstFault : Type 0
FirstFault = (text : List ℕ) (limit : ℕ) (ts : List Token) (fault : Fault) → Tokenizes text (Whole ts) → program_after text limit [] ts ≡ Err fault
    → IsFirstFault text limit ts fault

-- tokens have at most one first fault
abbrev pub OneFirstFault : Type 0
OneFirstFault = (text : List ℕ) (limit : ℕ) (ts : List Token) (fault other : Fault) → IsFirstFault text limit ts fault → IsFirstFault text limit ts other → fault ≡ other

-- Where the tokens of a text have a first fault, reading stops there.
abbrev pub FirstFaultMet : Type 0
FirstFaultMet = (text : List ℕ) (limit : ℕ) (ts : List Token) (fault : Fault) → Tokenizes text (Whole ts) → IsFirstFault text limit ts fault
    → program_after text limit [] ts ≡ Err fault

-- Where the tokens before one pass, and with that one they are no front, no front begins with them.
abbrev pub NoFrontGoesOn : Type 0
NoFrontGoesOn = (text : List ℕ) (limit : ℕ) (first rest more : List Token) (t : Token) → Tokenizes text (Whole (first ++ t ∷ rest))
    → AllPass text limit first → (IsFront text (first ++ t ∷ []) → ⊥) → IsFront text (first ++ t ∷ more) → ⊥

-- the longest front that tokens begin with, and the tokens behind it
pub record IsLongestFront (text : List ℕ) (tokens front rest : List Token) : Type 0 where
  pub split : tokens ≡ front ++ rest
  pub is_front : IsFront text front
  pub longest : (longer more : List Token) → tokens ≡ longer ++ more → IsFront text longer → length longer ≤ length front

-- A first fault of the syntax is at the first token behind the longest front, or at the end of the text where none is left.
abbrev pub BehindLongestFront : Type 0
BehindLongestFront = (text : List ℕ) (limit at : ℕ) (ts : List Token) → Tokenizes text (Whole ts) → IsFirstFault text limit ts (Syntax at)
    → (front : List Token) × (rest : List Token) × IsLongestFront text ts front rest × (at ≡ place text rest)
