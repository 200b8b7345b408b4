-- A program is read exactly where the grammar reads it, its names are distinct and no token nests too deeply.
use Rattle.std.proofs.Common.{◌≡◌, ℕ, refl, arith, inl, inr, List, [], ◌∷◌, ◌++◌, append_assoc, sym, ◌∙◌}
use Rattle.std.specs.Prelude.{Result, Ok, Err, bytes_eq}
use Rattle.std.specs.List.{IsDistinct}
use Rattle.felm_term.specs.Inputs.{names_of}
use Rattle.felm_term.specs.declared.input.InputDecl.{InputDecl}
use Rattle.felm_lexer.specs.Readings.{Reads as Tokenizes, Whole}
use Rattle.felm_lexer.specs.declared.token.Token.{Token}
use Rattle.felm_lexer.proofs.Spans.{in_order}
use Rattle.felm_syntax.specs.Expression.{Expression}
use Rattle.felm_syntax.specs.FirstFaults.{Fault, Syntax, Depth, Twice, IsFirstFault}
use Rattle.felm_syntax.specs.Grammar.{ReadsProgram}
use Rattle.felm_syntax.specs.Nesting.{NestWithin}
use Rattle.felm_reading.specs.Laws.{ProgramSound, ProgramComplete, ProgramPasses}
use Rattle.felm_reading.specs.Reading.{program_after}
use Rattle.felm_reading.proofs.Exact.{ended_room, first_fault}
use Rattle.felm_reading.proofs.OneFault.{beginning, read_passes}
use Rattle.felm_reading.proofs.ProgramMeets.{program_meets}
use Rattle.felm_reading.proofs.ProgramRuns.{Parts}
use Rattle.felm_reading.proofs.Whole.{program_read, program_syntax, program_twice, one_program}

pub program_sound : ProgramSound
program_sound text limit ts ds main read =
    let reads = program_read text limit ts ds main read in
    (reads.0, reads.1, λ first rest e n d. ended_room (program_meets text limit [] d) (beginning text limit ts (ds, main) read first rest e))

not_deep : (text : List ℕ) (limit : ℕ) (ts : List Token) (at : ℕ) → NestWithin text limit ts → IsFirstFault text limit ts (Depth at) → ⊥
not_deep text limit ts at within (inl (first, t, rest, e, _, r, _)) =
    let le = within (first ++ t ∷ []) rest (e ∙ sym (append_assoc first (t ∷ []) rest)) r.1.0 r.1.1 in absurd (omega (arith, le, r.1.2))
not_deep text limit ts at within (inr (_, h)) = cc

complete_by : (text : List ℕ) (limit : ℕ) (ts : List Token) (ds : List InputDecl) (main : Expression) → Tokenizes text (Whole ts) →
    ReadsProgram text ts ds main → IsDistinct bytes_eq (names_of ds) → NestWithin text limit ts → (a : Result Parts Fault) → program_after text limit [] ts ≡ a → a ≡ Ok (ds, main)
complete_by text limit ts ds main tokenizes reads distinct within (Ok (es, other)) read =
    let same = one_program text ts es ds other main (program_read text limit ts es other read).0 reads in λ i. Ok (same.0 i, same.1 i)
complete_by text limit ts ds main tokenizes reads distinct within (Err (Syntax at)) read = absurd (program_syntax text limit at ts read ds main reads)
complete_by text limit ts ds main tokenizes reads distinct within (Err (Depth at)) read = absurd (not_deep text limit ts at within (first_fault text limit ts (Depth at) tokenizes read))
complete_by text limit ts ds main tokenizes reads distinct within (Err (Twice at)) read = absurd (program_twice text limit at ts read ds main reads distinct)

pub program_complete : ProgramComplete
program_complete text limit ts ds main tokenizes reads distinct within =
    complete_by text limit ts ds main tokenizes reads distinct within (program_after text limit [] ts) refl

pub program_passes : ProgramPasses
program_passes text limit ts ds main tokenizes reads distinct within =
    read_passes text limit ts (ds, main) (in_order text ts tokenizes) (program_complete text limit ts ds main tokenizes reads distinct within)
