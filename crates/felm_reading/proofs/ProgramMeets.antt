-- Fronts of programs are read to their end, or refused for their nesting or for a name.
use Rattle.std.proofs.Common.{◌≡◌, ℕ, ◌≤◌, refl, arith, List, [], ◌∷◌, ◌++◌, Bool, true, false, drop, subst, sym, ap, ◌∙◌}
use Rattle.std.specs.Prelude.{ℤ, pos, Result, Ok, Err, Some, if◌then◌else◌, bytes_eq}
use Rattle.std.specs.List.{list_any}
use Rattle.felm_term.specs.Inputs.{names_of}
use Rattle.felm_term.specs.declared.input.InputDecl.{InputDecl}
use Rattle.felm_term.specs.declared.input.InputTy.TheVariants as input
use Rattle.felm_lexer.specs.declared.kind.Symbol.{Symbol}
use Rattle.felm_lexer.specs.declared.kind.Symbol.TheVariants as symbol
use Rattle.felm_lexer.specs.declared.kind.WordKind.TheVariants as word
use Rattle.felm_lexer.specs.declared.kind.TokenKind.TheVariants as kind
use Rattle.felm_lexer.specs.declared.token.Token.{Token}
use Rattle.felm_syntax.specs.Expression.{Expression}
use Rattle.felm_syntax.specs.Nesting.{Nests}
use Rattle.felm_syntax.specs.Fronts.{Part}
use Rattle.felm_syntax.specs.Fronts as f
use Rattle.felm_syntax.specs.Nesting as path
use Rattle.felm_syntax.specs.Grammar.{IsWord, IsName, Phrase, ReadsDeclaration}
use Rattle.felm_syntax.specs.Grammar as g
use Rattle.felm_syntax.specs.Kinds.{unsigned_number, negated}
use Rattle.felm_syntax.specs.FirstFaults.{Fault, Twice}
use Rattle.felm_reading.specs.Reading.{◌>>=◌, Answer, Whole, place, has_mark, has_word, expect, expect_word, name, numeral, literal, new_name, int_input, unit_input, described, declaration, reads_in, all_of, main_of, program_after}
use Rattle.felm_reading.proofs.Tokens.{number-is, number_read}
use Rattle.felm_reading.proofs.Declared.{if_new, new_name_read, declaration_word, declaration_read}
use Rattle.felm_reading.proofs.Programs.{program_step, program_end}
use Rattle.felm_reading.proofs.Runs.{no_front}
use Rattle.felm_reading.proofs.ProgramRuns.{Parts, done, finish, then_main, done_bind, finish_is}
use Rattle.felm_reading.proofs.ExprMeets.{reads_meet}
use Rattle.felm_reading.proofs.ExprRuns.{reads_read}
use Rattle.felm_reading.proofs.Meets.{Ended, ended_ok, ended_out, Met, met, deep, Meets, Head, only, first, head, Starts, starts, starts_word, ended_of, ended_last, meets_last, meets_none, meets_is, meets_first, meets_expect, meets_expect_word}

-- all was taken, and there is room for n, or the nesting is too deep, or a name was declared
pub data Judged {X : Type 0} (text : List ℕ) (n room : ℕ) : Answer X → Type 0 where
  judged : {a : Answer X} → Met text n room a → Judged text n room a
  twice : {at : ℕ} → Judged text n room (Err (Twice at))

zero_le : (n : ℕ) → 0 ≤ n
zero_le n = omega arith

-- literals
literal_ends : (text : List ℕ) → Ended text (literal text [])
unfolding literal numeral
literal_ends text = ended_out

numeral_ends : (text : List ℕ) → Ended text (numeral negated text [])
unfolding numeral
numeral_ends text = ended_out

literal_meets : (text : List ℕ) (room : ℕ) → Meets text (f.literal ∷ []) room (literal text)
unfolding literal
literal_meets text room _ _ (path.token h) = absurd h
literal_meets text room _ _ (path.inside {n} {ts} f.unsigned d) =
    meets_first text f.number [] room (literal text) refl
    (λ t h. (λ us. Ok (h.0, us), λ us. plain t us h.0 h.1, ended_ok, meets_none text room _)) n ts d
  where
    plain : (t : Token) (us : List Token) (m : ℤ) → unsigned_number t.kind ≡ Some m → literal text (t ∷ us) ≡ Ok (m, us)
    plain t us m h =
        let no_sign : has_mark symbol.Minus (t ∷ us) ≡ false = rw (number-is t.kind m h) refl in
        rw no_sign (number_read unsigned_number text t us m h)
literal_meets text room _ _ (path.inside {n} {ts} f.signed d) =
    meets_first text (f.mark symbol.Minus) (f.negated ∷ []) room (literal text) refl
    (λ t h. (
      numeral negated text,
      λ us. rw h refl,
      numeral_ends text,
      meets_first text f.negated [] room (numeral negated text) refl
          (λ u k. (λ us. Ok (k.0, us), λ us. number_read negated text u us k.0 k.1, ended_ok, meets_none text room _)),
    )) n ts d
literal_meets text room _ _ (path.deeper r _) = elim r [ ]
literal_meets text room _ _ (path.after w d) = no_front d refl

-- what is declared of a name
described_ends : (text : List ℕ) (x : List ℕ) → Ended text (described text x [])
unfolding described
described_ends text x = ended_out

mark_ends : {X : Type 0} (text : List ℕ) (s : Symbol) (k : List Token → Answer X) → Ended text (expect text s [] >>= k)
unfolding expect
mark_ends text s k = ended_out

pub int_meets : (text : List ℕ) (room : ℕ) (x : List ℕ) → Meets text (f.word_of word.Int ∷ f.mark symbol.Equals ∷ f.literal ∷ []) room (described text x)
unfolding described int_input
int_meets text room x =
    meets_first text (f.word_of word.Int) (f.mark symbol.Equals ∷ f.literal ∷ []) room (described text x) refl
    (λ t h. (
      λ us. expect text symbol.Equals us >>= λ vs. (literal text vs >>= λ n. Ok (record { name = x; ty = input.Int; default = n.0 }, n.1)),
      λ us. rw h refl,
      mark_ends text symbol.Equals _,
      meets_expect text symbol.Equals (f.literal ∷ []) room (λ vs. literal text vs >>= λ n. Ok (record { name = x; ty = input.Int; default = n.0 }, n.1))
          (ended_last text (λ n. record { name = x; ty = input.Int; default = n }) (literal_ends text))
          (meets_last text (f.literal ∷ []) room (literal text) (λ n. record { name = x; ty = input.Int; default = n }) (literal_meets text room)),
    ))

pub unit_meets : (text : List ℕ) (room : ℕ) (x : List ℕ) →
    Meets text (f.word_of word.Unit ∷ f.mark symbol.Equals ∷ f.mark symbol.OpenBracket ∷ f.mark symbol.CloseBracket ∷ []) room (described text x)
unfolding described unit_input
unit_meets text room x =
    let last : List Token → Answer InputDecl = λ ws. Ok (record { name = x; ty = input.Unit; default = pos 0 }, ws) in
    meets_first text (f.word_of word.Unit) (f.mark symbol.Equals ∷ f.mark symbol.OpenBracket ∷ f.mark symbol.CloseBracket ∷ []) room (described text x) refl
    (λ t h. (
      λ us. expect text symbol.Equals us >>= λ vs. (expect text symbol.OpenBracket vs >>= λ ws. (expect text symbol.CloseBracket ws >>= last)),
      λ us. rw h refl,
      mark_ends text symbol.Equals _,
      meets_expect text symbol.Equals _ room _ (mark_ends text symbol.OpenBracket _)
          (meets_expect text symbol.OpenBracket _ room _ (mark_ends text symbol.CloseBracket last)
          (meets_expect text symbol.CloseBracket [] room last ended_ok (meets_none text room last))),
    ))

-- declarations
colon_meets : (text : List ℕ) (room : ℕ) (x : List ℕ) (ps : List Part) → Meets text ps room (described text x) →
    Meets text (f.mark symbol.Colon ∷ ps) room (λ us. expect text symbol.Colon us >>= λ vs. described text x vs)
colon_meets text room x ps meets = meets_expect text symbol.Colon ps room (described text x) (described_ends text x) meets

abbrev pub fresh : List ℕ → List InputDecl → Token → List Token → Answer (List ℕ)
fresh x seen n us = if_new x seen n (x, us)

pub named_is : (text : List ℕ) (seen : List InputDecl) (t n : Token) (us : List Token) (x : List ℕ) → IsName text x n →
    declaration text seen (t ∷ n ∷ us) ≡ (fresh x seen n us >>= λ y. (expect text symbol.Colon y.1 >>= λ vs. described text y.0 vs))
unfolding declaration
named_is text seen t n us x h = ap (λ a. a >>= λ y. (expect text symbol.Colon y.1 >>= λ vs. described text y.0 vs)) (new_name_read text seen n us x h)

unless_judged : (text : List ℕ) (m room at : ℕ) (b : Bool) (y : List ℕ × List Token) (k : List ℕ × List Token → Answer InputDecl) → Met text m room (k y) →
    Judged text m room ((if b then Err (Twice at) else Ok y) >>= k)
unless_judged text m room at true y k h = twice
unless_judged text m room at false y k h = judged h

named_judged : (text : List ℕ) (room : ℕ) (seen : List InputDecl) (ps : List Part) → ((x : List ℕ) → Meets text ps room (described text x)) → (t : Token) {n : ℕ} {ts : List Token} →
    Head text f.name (f.mark symbol.Colon ∷ ps) n ts → Judged text n room (declaration text seen (t ∷ ts))
named_judged text room seen ps meets t (only {t = n} (x, h)) =
    subst (Judged text 0 room) (sym (named_is text seen t n [] x h))
    (unless_judged text 0 room n.start (list_any (bytes_eq x) (names_of seen)) (x, []) (λ y. expect text symbol.Colon y.1 >>= λ vs. described text y.0 vs)
    (met (mark_ends text symbol.Colon (described text x)) (zero_le room)))
named_judged text room seen ps meets t (first {n = m} {t = n} {us} (x, h) d) =
    subst (Judged text m room) (sym (named_is text seen t n us x h))
    (unless_judged text m room n.start (list_any (bytes_eq x) (names_of seen)) (x, us) (λ y. expect text symbol.Colon y.1 >>= λ vs. described text y.0 vs)
    (colon_meets text room x ps (meets x) m us d))

behind_ends : (text : List ℕ) (seen : List InputDecl) (t : Token) → Ended text (declaration text seen (t ∷ []))
unfolding declaration new_name name
behind_ends text seen t = ended_out

pub parts_judged : (text : List ℕ) (room : ℕ) (seen : List InputDecl) (ps : List Part) → ((x : List ℕ) → Meets text ps room (described text x)) → {n : ℕ} {ts : List Token} →
    Head text (f.word_of word.Input) (f.name ∷ f.mark symbol.Colon ∷ ps) n ts → Judged text n room (declaration text seen ts)
parts_judged text room seen ps meets (only {t} h) = judged (met (behind_ends text seen t) (zero_le room))
parts_judged text room seen ps meets (first {n} {t} {us} h d) = named_judged text room seen ps meets t (head refl d)

input_starts : {ts : List Token} → Starts (kind.Word word.Input) ts → has_word word.Input ts ≡ true
input_starts (starts h) = rw h refl

main_starts : {ts : List Token} → Starts (kind.Word word.Main) ts → has_word word.Input ts ≡ false
main_starts (starts h) = rw h refl

-- the expression of `main`
met_finish : (text : List ℕ) (n room : ℕ) (seen : List InputDecl) {a : Answer Expression} → Met text n room a → Met text n room (finish seen a)
met_finish text n room seen (met ended_ok le) = met ended_ok le
met_finish text n room seen (met ended_out le) = met ended_out le
met_finish text n room seen deep = deep

ended_finish : (text : List ℕ) (seen : List InputDecl) {a : Answer Expression} → Ended text a → Ended text (finish seen a)
ended_finish text seen ended_ok = ended_ok
ended_finish text seen ended_out = ended_out

main_meets : (text : List ℕ) (room : ℕ) (seen : List InputDecl) → Meets text (f.word_of word.Main ∷ f.mark symbol.Equals ∷ f.phrase g.expr ∷ []) room (then_main text room seen)
unfolding main_of
main_meets text room seen =
    meets_is text (f.word_of word.Main ∷ f.mark symbol.Equals ∷ f.phrase g.expr ∷ []) room (then_main text room seen) _
    (λ n us _. done_bind (expect_word text word.Main us) (λ vs. expect text symbol.Equals vs >>= λ ws. all_of text room ws) (λ main. Ok (seen, main)))
    (meets_expect_word text word.Main (f.mark symbol.Equals ∷ f.phrase g.expr ∷ []) room
    (λ us. done ((expect text symbol.Equals us >>= λ ws. all_of text room ws) >>= λ main. Ok (seen, main))) equals_ends
    (meets_is text (f.mark symbol.Equals ∷ f.phrase g.expr ∷ []) room _ _
    (λ n us _. done_bind (expect text symbol.Equals us) (λ ws. all_of text room ws) (λ main. Ok (seen, main)))
    (meets_expect text symbol.Equals (f.phrase g.expr ∷ []) room (λ ws. done (all_of text room ws >>= λ main. Ok (seen, main))) all_ends
    (meets_is text (f.phrase g.expr ∷ []) room _ (λ us. finish seen (reads_in text room Whole us)) (λ n us _. finish_is text room seen us)
    (λ n us d. met_finish text n room seen (reads_meet text room Whole n us d))))))
  where
    all_ends : Ended {X = Parts} text (done (all_of text room [] >>= λ main. Ok (seen, main)))
    all_ends = subst (Ended text) (sym (finish_is text room seen [])) (ended_finish text seen (ended_of text (f.phrase g.expr ∷ []) room (reads_in text room Whole) (reads_read text room Whole)))

    equals_ends : Ended {X = Parts} text (done ((expect text symbol.Equals [] >>= λ ws. all_of text room ws) >>= λ main. Ok (seen, main)))
    equals_ends = subst (Ended text) (sym (done_bind (expect text symbol.Equals []) (λ ws. all_of text room ws) (λ main. Ok (seen, main))))
        (mark_ends text symbol.Equals (λ ws. done (all_of text room ws >>= λ main. Ok (seen, main))))

main_ends : (text : List ℕ) (room : ℕ) (seen : List InputDecl) → Ended text (then_main text room seen [])
unfolding main_of expect_word
main_ends text room seen = ended_out

none_ends : (text : List ℕ) (room : ℕ) (seen : List InputDecl) → Ended text (done (program_after text room seen []))
none_ends text room seen = subst (λ a. Ended text (done a)) (sym (program_end text room seen [] refl)) (main_ends text room seen)

-- programs
declared_ends : (text : List ℕ) (room : ℕ) (seen : List InputDecl) (n : ℕ) {a : Answer InputDecl} → Judged text n room a →
    Judged text n room (done (a >>= λ d. program_after text room (seen ++ d.0 ∷ []) d.1))
declared_ends text room seen n (judged (met (ended_ok {x}) le)) = judged (met (none_ends text room (seen ++ x ∷ [])) le)
declared_ends text room seen n (judged (met ended_out le)) = judged (met ended_out le)
declared_ends text room seen n (judged deep) = judged deep
declared_ends text room seen n twice = twice

unless_program : (text : List ℕ) (n room at : ℕ) (b : Bool) (y : InputDecl × List Token) (k : InputDecl × List Token → Result Parts Fault) → Judged text n room (done (k y)) →
    Judged text n room (done ((if b then Err (Twice at) else Ok y) >>= k))
unless_program text n room at true y k h = twice
unless_program text n room at false y k h = h

mutual
  pub program_meets : (text : List ℕ) (room : ℕ) (seen : List InputDecl) {n : ℕ} {ts : List Token} → Nests text (f.program ∷ []) n ts → Judged text n room (done (program_after text room seen ts))
  program_meets text room seen (path.token h) = absurd h
  program_meets text room seen (path.inside f.declared d) = declared_meets text room seen d
  program_meets text room seen (path.inside {n} {ts} f.main_is d) =
      subst (λ a. Judged text n room (done a)) (sym (program_end text room seen ts (main_starts (starts_word d)))) (judged (main_meets text room seen n ts d))
  program_meets text room seen (path.deeper r _) = elim r [ ]
  program_meets text room seen (path.after w d) = no_front d refl

  declared_meets : (text : List ℕ) (room : ℕ) (seen : List InputDecl) {n : ℕ} {ts : List Token} → Nests text (f.declaration ∷ f.program ∷ []) n ts → Judged text n room (done (program_after text room seen ts))
  declared_meets text room seen (path.token h) = absurd h
  declared_meets text room seen (path.inside {n} {ts} f.int_input d) =
      subst (λ a. Judged text n room (done a)) (sym (program_step text room seen ts (input_starts (starts_word d))))
      (declared_ends text room seen n (parts_judged text room seen _ (int_meets text room) (head refl d)))
  declared_meets text room seen (path.inside {n} {ts} f.unit_input d) =
      subst (λ a. Judged text n room (done a)) (sym (program_step text room seen ts (input_starts (starts_word d))))
      (declared_ends text room seen n (parts_judged text room seen _ (unit_meets text room) (head refl d)))
  declared_meets text room seen (path.deeper r _) = elim r [ ]
  declared_meets text room seen (path.after (f.whole_token h) _) = absurd h
  declared_meets text room seen (path.after {n} {ts} {us} (f.whole_declaration {d} r) k) =
      subst (λ a. Judged text n room (done a)) (sym (program_step text room seen ts (declaration_word r) ∙ ap (λ a. a >>= λ d. program_after text room (seen ++ d.0 ∷ []) d.1) (declaration_read text seen r)))
      (unless_program text n room (place text (drop 1 ts)) (list_any (bytes_eq d.name) (names_of seen)) (d, us) (λ d. program_after text room (seen ++ d.0 ∷ []) d.1)
      (program_meets text room (seen ++ d ∷ []) k))
