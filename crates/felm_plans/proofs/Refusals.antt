-- What the texts of an order are read as, and why they are refused.
use Rattle.std.proofs.Common.{◌≡◌, ℕ, List, [], Some, refl, sym, ap, ◌∙◌, subst, inl, inr}
use Rattle.std.specs.Prelude.{IfSome, Result, Ok, Err}
use Rattle.felm_lexer.specs.declared.token.Token.{Token}
use Rattle.felm_lexer.specs.declared.fault.LexFault.{LexFault}
use Rattle.felm_lexer.specs.declared.fault.LexFault.TheVariants as lexing
use Rattle.felm_lexer.specs.Readings.{Reading, Reads, Whole, NoToken as NoTokenAt, TooWide as TooWideAt}
use Rattle.felm_lexer.proofs.Every.{some_reading}
use Rattle.felm_lexer.proofs.Readings.{one_reading}
use Rattle.felm_syntax.specs.Expression.{Expression}
use Rattle.felm_syntax.specs.FirstFaults.{Fault, IsFirstFault as IsTokenFault}
use Rattle.felm_syntax.specs.FirstFaults as tokens
use Rattle.felm_syntax.specs.ProgramText.{IsProgram, IsProgramText, nesting_limit}
use Rattle.felm_syntax.specs.declared.program.Program.{Program}
use Rattle.felm_reading.specs.Reading.{program_after}
use Rattle.felm_reading.proofs.Complete.{program_sound, program_complete}
use Rattle.felm_reading.proofs.Exact.{first_fault}
use Rattle.felm_reading.proofs.OneFault.{one_first_fault, first_fault_met}
use Rattle.felm_reading.proofs.Whole.{one_program}
use Rattle.felm_parser.specs.Gives.{fault_of}
use Rattle.felm_parser.specs.declared.fault.ParseFault.{ParseFault}
use Rattle.felm_parser.specs.declared.fault.ParseFault.TheVariants as parsing
use Rattle.felm_types.specs.declared.fault.TypeFault.{TypeFault}
use Rattle.felm_types.specs.declared.fault.TypeFault.TheVariants as typing
use Rattle.felm_types.specs.FirstFault.{program_fault, IsFirstFault}
use Rattle.felm_types.specs.Typed.{IsTyped}
use Rattle.felm_types.proofs.FirstFaults.{no_fault_typed, type_in_typed}
use Rattle.felm_term.specs.declared.input.InputDecl.{InputDecl}
use Rattle.felm_script.specs.declared.fault.ScriptFault.{ScriptFault}
use Rattle.felm_script.specs.declared.fault.ScriptFault.TheVariants as scripting
use Rattle.felm_script.specs.Script.{script_of, IsRefusal}
use Rattle.felm_printer.specs.declared.status.Status.TheVariants.{Syntax}
use Rattle.felm_printer.specs.declared.status.SyntaxCause.{SyntaxCause}
use Rattle.felm_printer.specs.declared.status.SyntaxCause.TheVariants.{NoToken, Wide, Grammar, Depth, Twice}
use Rattle.felm_plans.specs.Status.{status_of_lex_fault, status_of_parse_fault, status_of_type_fault, status_of_script_fault}
use Rattle.felm_plans.specs.Faults.{IsSyntaxFault, HasTokenFault}
use Rattle.felm_plans.specs.Plans.{IsProgramFault, IsCheckFault, IsEventsFault, OrMemory}
use Rattle.felm_plans.specs.Laws.{IsProgramOrFaulty, TextsAreProgramsOrFaulty, FaultyTextsAreNoPrograms, FaultyProgramsAreUntyped}

-- a text has at most one list of tokens
same_tokens : (text : List ℕ) (one other : List Token) → Reads text (Whole one) → Reads text (Whole other) → one ≡ other
same_tokens text one other p q = let e : Whole one ≡ Whole other = one_reading text (Whole one) (Whole other) p q in cc

-- a text is at most one program
pub one_text : (text : List ℕ) (one other : Program) → IsProgramText text one → IsProgramText text other → one ≡ other
one_text text one other p q =
    let tokens : q.0 ≡ p.0 = same_tokens text q.0 p.0 q.1 p.1 in
    let r : IsProgram text p.0 other = subst (λ ts. IsProgram text ts other) tokens q.2 in
    let same = one_program text p.0 one.inputs other.inputs one.main other.main p.2.0 r.0 in
    λ i. record { inputs = same.0 i; main = same.1 i }

not_whole : (text : List ℕ) (tokens : List Token) (reading : Reading) → Reads text (Whole tokens) → Reads text reading → Whole tokens ≡ reading
not_whole text tokens reading p q = one_reading text (Whole tokens) reading p q

-- tokens with a fault are no program
faulty : (text : List ℕ) (fault : Fault) (program : Program) → HasTokenFault text fault → IsProgramText text program → ⊥
faulty text fault program (ts, reads, first) is =
    let same : is.0 ≡ ts = same_tokens text is.0 ts is.1 reads in
    let p = subst (λ us. IsProgram text us program) same is.2 in
    let met = first_fault_met text nesting_limit ts fault reads first in
    let whole = program_complete text nesting_limit ts program.inputs program.main reads p.0 p.1 p.2 in cc

-- and have no other one
same_fault : (text : List ℕ) (one other : Fault) → HasTokenFault text one → HasTokenFault text other → one ≡ other
same_fault text one other p q =
    one_first_fault text nesting_limit p.0 one other p.2
    (subst (λ ts. IsTokenFault text nesting_limit ts other) (same_tokens text q.0 p.0 q.1 p.1) q.2)

pub faulty_texts : FaultyTextsAreNoPrograms
faulty_texts text NoToken at program fault is = let e = not_whole text is.0 (NoTokenAt at) is.1 fault in cc
faulty_texts text Wide at program fault is = let e = not_whole text is.0 (TooWideAt at) is.1 fault in cc
faulty_texts text Grammar at program fault is = faulty text (tokens.Syntax at) program fault is
faulty_texts text Depth at program fault is = faulty text (tokens.Depth at) program fault is
faulty_texts text Twice at program fault is = faulty text (tokens.Twice at) program fault is

-- a text has at most one fault
pub one_fault : (text : List ℕ) (c d : SyntaxCause) (m n : ℕ) → IsSyntaxFault text c m → IsSyntaxFault text d n → Syntax c m ≡ Syntax d n
one_fault text NoToken NoToken m n f g = let e = one_reading text (NoTokenAt m) (NoTokenAt n) f g in cc
one_fault text NoToken Wide m n f g = let e = one_reading text (NoTokenAt m) (TooWideAt n) f g in cc
one_fault text NoToken Grammar m n f g = let e = not_whole text g.0 (NoTokenAt m) g.1 f in cc
one_fault text NoToken Depth m n f g = let e = not_whole text g.0 (NoTokenAt m) g.1 f in cc
one_fault text NoToken Twice m n f g = let e = not_whole text g.0 (NoTokenAt m) g.1 f in cc
one_fault text Wide NoToken m n f g = let e = one_reading text (TooWideAt m) (NoTokenAt n) f g in cc
one_fault text Wide Wide m n f g = let e = one_reading text (TooWideAt m) (TooWideAt n) f g in cc
one_fault text Wide Grammar m n f g = let e = not_whole text g.0 (TooWideAt m) g.1 f in cc
one_fault text Wide Depth m n f g = let e = not_whole text g.0 (TooWideAt m) g.1 f in cc
one_fault text Wide Twice m n f g = let e = not_whole text g.0 (TooWideAt m) g.1 f in cc
one_fault text Grammar NoToken m n f g = let e = not_whole text f.0 (NoTokenAt n) f.1 g in cc
one_fault text Grammar Wide m n f g = let e = not_whole text f.0 (TooWideAt n) f.1 g in cc
one_fault text Grammar Grammar m n f g = let e = same_fault text (tokens.Syntax m) (tokens.Syntax n) f g in cc
one_fault text Grammar Depth m n f g = let e = same_fault text (tokens.Syntax m) (tokens.Depth n) f g in cc
one_fault text Grammar Twice m n f g = let e = same_fault text (tokens.Syntax m) (tokens.Twice n) f g in cc
one_fault text Depth NoToken m n f g = let e = not_whole text f.0 (NoTokenAt n) f.1 g in cc
one_fault text Depth Wide m n f g = let e = not_whole text f.0 (TooWideAt n) f.1 g in cc
one_fault text Depth Grammar m n f g = let e = same_fault text (tokens.Depth m) (tokens.Syntax n) f g in cc
one_fault text Depth Depth m n f g = let e = same_fault text (tokens.Depth m) (tokens.Depth n) f g in cc
one_fault text Depth Twice m n f g = let e = same_fault text (tokens.Depth m) (tokens.Twice n) f g in cc
one_fault text Twice NoToken m n f g = let e = not_whole text f.0 (NoTokenAt n) f.1 g in cc
one_fault text Twice Wide m n f g = let e = not_whole text f.0 (TooWideAt n) f.1 g in cc
one_fault text Twice Grammar m n f g = let e = same_fault text (tokens.Twice m) (tokens.Syntax n) f g in cc
one_fault text Twice Depth m n f g = let e = same_fault text (tokens.Twice m) (tokens.Depth n) f g in cc
one_fault text Twice Twice m n f g = let e = same_fault text (tokens.Twice m) (tokens.Twice n) f g in cc

-- a text is a program, or it has a fault
pub program_or_fault : TextsAreProgramsOrFaulty
program_or_fault text = let read = some_reading text in go read.0 read.1
  where
    is : (ts : List Token) → Reads text (Whole ts) → (answer : Result (List InputDecl × Expression) Fault)
        → program_after text nesting_limit [] ts ≡ answer → IsProgramOrFaulty text
    is ts reads (Ok found) e =
        let p = program_sound text nesting_limit ts found.0 found.1 e in
        inl (record { inputs = found.0; main = found.1 }, (ts, reads, p))
    is ts reads (Err (tokens.Syntax at)) e = inr (Grammar, at, (ts, reads, first_fault text nesting_limit ts (tokens.Syntax at) reads e))
    is ts reads (Err (tokens.Depth at)) e = inr (Depth, at, (ts, reads, first_fault text nesting_limit ts (tokens.Depth at) reads e))
    is ts reads (Err (tokens.Twice at)) e = inr (Twice, at, (ts, reads, first_fault text nesting_limit ts (tokens.Twice at) reads e))

    go : (r : Reading) → Reads text r → IsProgramOrFaulty text
    go (Whole ts) reads = is ts reads (program_after text nesting_limit [] ts) refl
    go (NoTokenAt at) reads = inr (NoToken, at, reads)
    go (TooWideAt at) reads = inr (Wide, at, reads)

-- a typed program has no fault
none_typed : (program : Program) (fault : TypeFault) → program_fault program ≡ Some fault → IsTyped program → ⊥
none_typed program fault h typed =
    let none = (no_fault_typed program.inputs [] program.main).1 (typed.0, typed.2) in
    let found = (type_in_typed program.inputs [] program.main typed.0).1 typed.2 in
    let e = rw (none, found, typed.1) at h in cc

pub faulty_programs : FaultyProgramsAreUntyped
faulty_programs text cause at program fault is typed =
    let same = one_text text fault.0 program fault.1 is in
    none_typed program _ (ap program_fault (sym same) ∙ fault.2) typed

-- ---- what the readers of a text say

-- why a text has no tokens, as the lexer says it
pub lex_fault_is : (text : List ℕ) (fault : LexFault)
    → ((at : ℕ) → fault ≡ lexing.Byte at → Reads text (NoTokenAt at))
    → ((at : ℕ) → fault ≡ lexing.Wide at → Reads text (TooWideAt at))
    → OrMemory (IsProgramFault text) (status_of_lex_fault fault)
lex_fault_is text (lexing.Byte at) b w = b at refl
lex_fault_is text (lexing.Wide at) b w = w at refl
lex_fault_is text lexing.Memory b w = tt

-- why tokens are no program, as the parser says it
pub parse_fault_is : (text : List ℕ) (ts : List Token) (fault : ParseFault) → Reads text (Whole ts)
    → IfSome (fault_of fault) (λ first. IsTokenFault text nesting_limit ts first) → OrMemory (IsProgramFault text) (status_of_parse_fault fault)
parse_fault_is text ts (parsing.Syntax at) reads first = (ts, reads, first)
parse_fault_is text ts (parsing.Depth at) reads first = (ts, reads, first)
parse_fault_is text ts (parsing.Twice at) reads first = (ts, reads, first)
parse_fault_is text ts parsing.Memory reads first = tt

-- why a program has no type, as the checker says it
pub type_fault_is : (program : Program) (fault : TypeFault) → IsFirstFault program fault → OrMemory (IsCheckFault program) (status_of_type_fault fault)
type_fault_is program (typing.Untyped at) first = first (λ e. cc)
type_fault_is program (typing.Unknown at) first = first (λ e. cc)
type_fault_is program (typing.IllFormed at) first = first (λ e. cc)
type_fault_is program (typing.MainType at) first = first (λ e. cc)
type_fault_is program typing.Memory first = tt

-- why a script is refused, as its reader says it
pub script_fault_is : (inputs : List InputDecl) (text : List ℕ) (fault : ScriptFault) → IsRefusal (script_of inputs text) fault
    → OrMemory (IsEventsFault inputs text) (status_of_script_fault fault)
script_fault_is inputs text (scripting.Line line) h = h
script_fault_is inputs text (scripting.Name line) h = h
script_fault_is inputs text (scripting.Literal line) h = h
script_fault_is inputs text scripting.Memory h = tt
