-- What an answer that reading gives says of the tokens.
use Rattle.std.proofs.Common.{◌≡◌, ℕ, ◌+◌, ◌≤◌, List, [], length, refl, arith}
use Rattle.std.specs.Prelude.{Result, Ok, Err, IfOk, IfErr, IfSome, MatchResult}
use Rattle.felm_term.specs.declared.input.InputDecl.{InputDecl}
use Rattle.felm_lexer.proofs.Spans.{no_more_than_bytes}
use Rattle.felm_lexer.specs.Readings.{Reads as Tokenizes, Whole}
use Rattle.felm_lexer.specs.declared.token.Token.{Token}
use Rattle.felm_syntax.specs.Binders.{binders}
use Rattle.felm_syntax.specs.Expression.{Expression}
use Rattle.felm_syntax.specs.FirstFaults.{Fault, Syntax, Depth, Twice, IsFirstFault}
use Rattle.felm_syntax.specs.ProgramText.{nesting_limit, IsProgram}
use Rattle.felm_syntax.specs.declared.program.Program.{Program}
use Rattle.felm_reading.specs.Reading.{program_after}
use Rattle.felm_reading.proofs.Complete.{program_sound, program_complete}
use Rattle.felm_reading.proofs.Exact.{first_fault}
use Rattle.felm_reading.proofs.OneFault.{first_fault_met}
use Rattle.felm_reading.proofs.Sizes.{program_size}
use Rattle.felm_reading.proofs.Whole.{one_program}
use Rattle.felm_parser.specs.declared.fault.ParseFault.{ParseFault}
use Rattle.felm_parser.specs.declared.fault.ParseFault.TheVariants as fault
use Rattle.felm_parser.specs.Gives.{Gives, fault_of}

-- the inputs and the expression of a program
abbrev pub parts : Program → List InputDecl × Expression
parts program = (program.inputs, program.main)

-- what was returned is what reading the tokens gives
abbrev pub IsRead : List ℕ → List Token → Result Program ParseFault → Type 0
IsRead text ts result = Gives parts result (program_after text nesting_limit [] ts)

pub is_program : (text : List ℕ) (ts : List Token) (result : Result Program ParseFault) → IsRead text ts result → IfOk result (λ program. IsProgram text ts program)
is_program text ts (Ok program) read = program_sound text nesting_limit ts program.inputs program.main read
is_program text ts (Err fault) read = tt

pub accepts : (text : List ℕ) (ts : List Token) (result : Result Program ParseFault) → IsRead text ts result → Tokenizes text (Whole ts)
    → (program : Program) → IsProgram text ts program → MatchResult result (λ found. found ≡ program) (λ refusal. refusal ≡ fault.Memory)
accepts text ts result read tokenizes program is = by_answer result read
  where
    whole : program_after text nesting_limit [] ts ≡ Ok (parts program)
    whole = program_complete text nesting_limit ts program.inputs program.main tokenizes is.0 is.1 is.2

    by_answer : (answer : Result Program ParseFault) → IsRead text ts answer → MatchResult answer (λ found. found ≡ program) (λ refusal. refusal ≡ fault.Memory)
    by_answer (Ok found) h =
        let own = program_sound text nesting_limit ts found.inputs found.main h in
        let same = one_program text ts found.inputs program.inputs found.main program.main own.0 is.0 in
        λ i. record { inputs = same.0 i; main = same.1 i }
    by_answer (Err fault.Memory) h = refl
    by_answer (Err (fault.Syntax at)) h = let read_too = whole in absurd (cc)
    by_answer (Err (fault.Depth at)) h = let read_too = whole in absurd (cc)
    by_answer (Err (fault.Twice at)) h = let read_too = whole in absurd (cc)

pub size : (text : List ℕ) (ts : List Token) (result : Result Program ParseFault) → IsRead text ts result → Tokenizes text (Whole ts)
    → IfOk result (λ program. length program.inputs + binders program.main ≤ length text)
size text ts (Ok program) read tokenizes =
    let own = program_sound text nesting_limit ts program.inputs program.main read in
    omega (arith, program_size text ts program.inputs program.main own.0, no_more_than_bytes text ts tokenizes)
size text ts (Err fault) read tokenizes = tt

-- a refusal is the first fault
pub fault_is : (text : List ℕ) (ts : List Token) (result : Result Program ParseFault) → IsRead text ts result → Tokenizes text (Whole ts)
    → IfErr result (λ refusal. IfSome (fault_of refusal) (λ first. IsFirstFault text nesting_limit ts first))
fault_is text ts (Ok program) read tokenizes = tt
fault_is text ts (Err fault.Memory) read tokenizes = tt
fault_is text ts (Err (fault.Syntax at)) read tokenizes = first_fault text nesting_limit ts (Syntax at) tokenizes read
fault_is text ts (Err (fault.Depth at)) read tokenizes = first_fault text nesting_limit ts (Depth at) tokenizes read
fault_is text ts (Err (fault.Twice at)) read tokenizes = first_fault text nesting_limit ts (Twice at) tokenizes read

-- the first fault is refused
pub refuses : (text : List ℕ) (ts : List Token) (result : Result Program ParseFault) → IsRead text ts result → Tokenizes text (Whole ts)
    → (first : Fault) → IsFirstFault text nesting_limit ts first → MatchResult result (λ _. ⊥) (λ refusal. IfSome (fault_of refusal) (λ found. found ≡ first))
refuses text ts (Ok program) read tokenizes first is = let met = first_fault_met text nesting_limit ts first tokenizes is in absurd (cc)
refuses text ts (Err fault.Memory) read tokenizes first is = tt
refuses text ts (Err (fault.Syntax at)) read tokenizes first is = let met = first_fault_met text nesting_limit ts first tokenizes is in cc
refuses text ts (Err (fault.Depth at)) read tokenizes first is = let met = first_fault_met text nesting_limit ts first tokenizes is in cc
refuses text ts (Err (fault.Twice at)) read tokenizes first is = let met = first_fault_met text nesting_limit ts first tokenizes is in cc
