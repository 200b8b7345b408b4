-- All of the tokens are read as the grammar says.
use Rattle.std.proofs.Common.{◌≡◌, ℕ, zero, suc, ◌≤◌, max, refl, arith, inl, inr, List, [], ◌∷◌, ◌++◌, length, drop, ap, sym, ◌∙◌, subst, Bool, true, false, append_assoc}
use Rattle.std.specs.Prelude.{Result, Ok, Err, ◌⊎◌, if◌then◌else◌, bytes_eq}
use Rattle.std.specs.List.{list_any, IsDistinct}
use Rattle.std.proofs.lemmas.List.{append-nil}
use Rattle.felm_term.specs.Inputs.{names_of}
use Rattle.felm_term.specs.declared.input.InputDecl.{InputDecl}
use Rattle.felm_term.proofs.Names.{distinct_more}
use Rattle.felm_lexer.specs.declared.kind.Symbol.TheVariants as symbol
use Rattle.felm_lexer.specs.declared.kind.TokenKind.TheVariants as kind
use Rattle.felm_lexer.specs.declared.kind.WordKind.TheVariants as word
use Rattle.felm_lexer.specs.declared.token.Token.{Token}
use Rattle.felm_syntax.specs.Expression.{Expression}
use Rattle.felm_syntax.specs.Grammar.{IsWord, IsMark, Reads, ReadsDeclaration, ReadsProgram}
use Rattle.felm_syntax.specs.Grammar as g
use Rattle.felm_syntax.specs.FirstFaults.{Fault, Syntax, Depth, Twice}
use Rattle.felm_reading.specs.Reading.{◌>>=◌, Whole, place, has_word, expect, expect_word, reads_in, all_of, declaration, main_of, program_in, program_after}
use Rattle.felm_reading.specs.Laws.{OneProgram}
pub use Rattle.felm_reading.proofs.Sizes.{program_size}
pub use Rattle.felm_reading.proofs.TokenNames.{token_names}
use Rattle.felm_reading.proofs.Room.{IsDepth, Agrees, Settles, agrees_last}
use Rattle.felm_reading.proofs.Tokens.{Took, took, expect_took, expect_word_took, chosen, bind_ok, ok_move, no_ok}
use Rattle.felm_reading.proofs.ExprRoom.{settles, deeper, expr_starts}
use Rattle.felm_reading.proofs.ExprSound.{Read, reads_sound}
use Rattle.felm_reading.proofs.Declared.{declaration_sound, declaration_word, declaration_read}
use Rattle.felm_reading.proofs.Distinct.{seen_twice}
use Rattle.felm_reading.proofs.Programs.{program_step, program_end}

-- what the grammar reads as an expression is read so where there is room, and else refused for its nesting
all_settles : (text : List ℕ) {ts : List Token} {e : Expression} → Reads text g.expr ts [] e → Settles (λ room. all_of text room ts) e
unfolding all_of
all_settles text {ts} {e} d =
    let k = deeper text ts (e, []) (expr_starts d) (settles text d (omega arith)) in
    (k.0, λ room. agrees_last (reads_in text room Whole ts) _ (e, []) e k.0 room (k.1 room) refl)

-- an answer is one
both : {X : Type 0} (answer : Result X Fault) (x y : X) → answer ≡ Ok x → answer ≡ Ok y → x ≡ y
both answer x y h k = cc

not_both : {X : Type 0} (answer : Result X Fault) (x : X) (fault : Fault) → answer ≡ Ok x → answer ≡ Err fault → ⊥
not_both answer x fault h k = cc

-- where there is room
room_read : {X : Type 0} (answer : Result X Fault) (x : X) (need room : ℕ) → need ≤ room → Agrees answer x need room → answer ≡ Ok x
room_read answer x need room le (inl h) = h
room_read answer x need room le (inr (h, lt)) = absurd (omega arith)

one_expression : (text : List ℕ) (ts : List Token) (e f : Expression) → Reads text g.expr ts [] e → Reads text g.expr ts [] f → e ≡ f
one_expression text ts e f d k =
    let first = all_settles text d in
    let other = all_settles text k in
    let room : ℕ = max first.0 other.0 in
    both (all_of text room ts) e f
    (room_read (all_of text room ts) e first.0 room (omega arith) (first.1 room))
    (room_read (all_of text room ts) f other.0 room (omega arith) (other.1 room))

abbrev at_end : Expression → List Token → Result Expression Fault
at_end e [] = Ok e
at_end e (t ∷ _) = Err (Syntax t.start)

end_sound : {text : List ℕ} {ts : List Token} (rest : List Token) (e f : Expression) → Reads text g.expr ts rest e → at_end e rest ≡ Ok f →
    Reads text g.expr ts [] f
end_sound {text} {ts} [] e f d h = ok_move (λ (y : Expression). Reads text g.expr ts [] y) e f h d
end_sound (t ∷ _) e f d h = absurd (no_ok _ f h)

all_sound : (text : List ℕ) (room : ℕ) (ts : List Token) (e : Expression) → all_of text room ts ≡ Ok e → Reads text g.expr ts [] e
unfolding all_of
all_sound text room ts e h =
    let a = bind_ok (reads_in text room Whole ts) (λ (x : Read). at_end x.0 x.1) e h in
    end_sound a.0.1 a.0.0 e (reads_sound text room Whole ts a.0 a.1) a.2

-- the expression of `main`
main_read : (text : List ℕ) (room : ℕ) (t e : Token) {ts : List Token} {main : Expression} → IsWord word.Main t → IsMark symbol.Equals e →
    Reads text g.expr ts [] main → (main_of text room (t ∷ e ∷ ts) ≡ Ok main) ⊎ IsDepth (main_of text room (t ∷ e ∷ ts))
unfolding main_of expect expect_word
main_read text room t e {ts} {main} ht he d = rw (ht, he) (elim ((all_settles text d).1 room) as (λ _. (all_of text room ts ≡ Ok main) ⊎ IsDepth (all_of text room ts)) [
  | inl h ↦ inl h
  | inr (h, _) ↦ inr h
])

main_of_tokens : {text : List ℕ} {ts us vs : List Token} {main : Expression} → Took (kind.Word word.Main) ts us → Took (kind.Mark symbol.Equals) us vs →
    Reads text g.expr vs [] main → ReadsProgram text ts [] main
main_of_tokens (took h) (took k) d = g.main_is h k d

main_sound : (text : List ℕ) (room : ℕ) (ts : List Token) (main : Expression) → main_of text room ts ≡ Ok main → ReadsProgram text ts [] main
unfolding main_of
main_sound text room ts main h =
    let a = bind_ok (expect_word text word.Main ts) _ main h in
    let b = bind_ok (expect text symbol.Equals a.0) _ main a.2 in
    main_of_tokens (expect_word_took text word.Main ts a.0 a.1) (expect_took text symbol.Equals a.0 b.0 b.1) (all_sound text room b.0 main b.2)

-- what is read after some declarations: more of them, and the names stay distinct
abbrev IsAfter : List ℕ → List InputDecl → List Token → List InputDecl × Expression → Type 0
IsAfter text seen ts x =
    (ds : List InputDecl) × ReadsProgram text ts ds x.1 × (x.0 ≡ seen ++ ds) × (IsDistinct bytes_eq (names_of seen) → IsDistinct bytes_eq (names_of x.0))

end_is : (text : List ℕ) (room : ℕ) (seen : List InputDecl) (ts : List Token) (x : List InputDecl × Expression) →
    (main_of text room ts >>= λ main. Ok (seen, main)) ≡ Ok x → IsAfter text seen ts x
end_is text room seen ts x h =
    let a = bind_ok (main_of text room ts) _ x h in
    ok_move (IsAfter text seen ts) (seen, a.0) x a.2 ([], main_sound text room ts a.0 a.1, sym (append-nil seen), λ d. d)

after_sound : (text : List ℕ) (room n : ℕ) (seen : List InputDecl) (ts : List Token) (x : List InputDecl × Expression) →
    program_in text room n seen ts ≡ Ok x → IsAfter text seen ts x
unfolding program_in
after_sound text room zero seen ts x h = end_is text room seen ts x h
after_sound text room (suc more) seen ts x h =
    elim (chosen (has_word word.Input ts) _ _ (Ok x) h) as (λ _. IsAfter text seen ts x) [
      | inl (m, q) ↦ (
          let a = bind_ok (declaration text seen ts) _ x q in
          let d = declaration_sound text seen ts a.0 m a.1 in
          let others = after_sound text room more (seen ++ a.0.0 ∷ []) a.0.1 x a.2 in (
            a.0.0 ∷ others.0,
            g.declared d.0 others.1,
            others.2 ∙ append_assoc seen (a.0.0 ∷ []) others.0,
            λ distinct. others.3 (distinct_more seen _ a.0.0 distinct d.1 refl),
          ))
      | inr (m, q) ↦ end_is text room seen ts x q
    ]

-- Ok with x or refused for the nesting, or else refused for a name that stands twice
abbrev IsTwice : {X : Type 0} → Result X Fault → Type 0
IsTwice answer = (at : ℕ) × (answer ≡ Err (Twice at))

abbrev Judged : {X : Type 0} → Result X Fault → X → Type 0 → Type 0
Judged answer x Distinct = ((answer ≡ Ok x) ⊎ IsDepth answer) ⊎ (IsTwice answer × (Distinct → ⊥))

abbrev AreDistinct : List InputDecl → Type 0
AreDistinct ds = IsDistinct bytes_eq (names_of ds)

-- a declaration before a program
declared_judged : (b : Bool) (at : ℕ) (a : InputDecl × List Token) (f : InputDecl × List Token → Result (List InputDecl × Expression) Fault)
    (x : List InputDecl × Expression) (Distinct : Type 0) → (b ≡ true → Distinct → ⊥) →
    Judged (f a) x Distinct → Judged ((if b then Err (Twice at) else Ok a) >>= f) x Distinct
declared_judged true at a f x Distinct twice judged = inr ((at, refl), twice refl)
declared_judged false at a f x Distinct twice judged = judged

-- `main` behind the declarations
main_judged : {X Y : Type 0} (answer : Result X Fault) (f : X → Y) (x : X) → (answer ≡ Ok x) ⊎ IsDepth answer →
    ((answer >>= λ main. Ok (f main)) ≡ Ok (f x)) ⊎ IsDepth (answer >>= λ main. Ok (f main))
main_judged answer f x (inl h) = rw h (inl refl)
main_judged answer f x (inr (at, h)) = rw h (inr (at, refl))

program_judged : (text : List ℕ) (room : ℕ) (seen : List InputDecl) {ts : List Token} {ds : List InputDecl} {main : Expression} → ReadsProgram text ts ds main →
    Judged (program_after text room seen ts) (seen ++ ds, main) (AreDistinct (seen ++ ds))
program_judged text room seen (g.declared {ts} {us} {d} {ds} {main} r others) =
    let J : Result (List InputDecl × Expression) Fault → Type 0 = λ answer. Judged answer (seen ++ d ∷ ds, main) (AreDistinct (seen ++ d ∷ ds)) in
    let f : InputDecl × List Token → Result (List InputDecl × Expression) Fault = λ d. program_after text room (seen ++ d.0 ∷ []) d.1 in
    let behind = subst (λ all. Judged (program_after text room (seen ++ d ∷ []) us) (all, main) (AreDistinct all))
    (append_assoc seen (d ∷ []) ds) (program_judged text room (seen ++ d ∷ []) others) in
    let read : program_after text room seen ts ≡ ((if list_any (bytes_eq d.name) (names_of seen) then Err (Twice (place text (drop 1 ts))) else Ok (d, us)) >>= f) =
    program_step text room seen ts (declaration_word r) ∙ ap (λ a. a >>= f) (declaration_read text seen r) in
    subst J (sym read) (declared_judged (list_any (bytes_eq d.name) (names_of seen)) (place text (drop 1 ts)) (d, us) f (seen ++ d ∷ ds, main)
    (AreDistinct (seen ++ d ∷ ds)) (seen_twice seen d ds) behind)
program_judged text room seen (g.main_is {t} {e} {ts} {main} ht he d) =
    let no_input : has_word word.Input (t ∷ e ∷ ts) ≡ false = rw ht refl in
    let read = program_end text room seen (t ∷ e ∷ ts) no_input in
    subst (λ all. Judged (program_after text room seen (t ∷ e ∷ ts)) (all, main) (AreDistinct all)) (sym (append-nil seen))
    (subst (λ answer. Judged answer (seen, main) (AreDistinct seen)) (sym read)
    (inl (main_judged (main_of text room (t ∷ e ∷ ts)) (λ m. (seen, m)) main (main_read text room t e ht he d))))

-- what is read is a program by the grammar, with distinct names
pub program_read : (text : List ℕ) (limit : ℕ) (ts : List Token) (ds : List InputDecl) (main : Expression) → program_after text limit [] ts ≡ Ok (ds, main) →
    ReadsProgram text ts ds main × IsDistinct bytes_eq (names_of ds)
unfolding program_after IsDistinct
program_read text limit ts ds main h =
    let after = after_sound text limit (length ts) [] ts (ds, main) h in
    (subst (λ all. ReadsProgram text ts all main) (sym after.2) after.1, after.3 tt)

-- the faults are told apart
other_fault : {X : Type 0} (answer : Result X Fault) (one other : Fault) → answer ≡ Err one → answer ≡ Err other → one ≡ other
other_fault answer one other h k = cc

-- where reading stops at a token that can't stand there, the grammar reads the tokens as no program
pub program_syntax : (text : List ℕ) (limit at : ℕ) (ts : List Token) → program_after text limit [] ts ≡ Err (Syntax at) →
    (ds : List InputDecl) (main : Expression) → ReadsProgram text ts ds main → ⊥
program_syntax text limit at ts h ds main r = elim (program_judged text limit [] r) as (λ _. ⊥) [
  | inl (inl k) ↦ not_both (program_after text limit [] ts) (ds, main) (Syntax at) k h
  | inl (inr (p, k)) ↦ (let same = other_fault (program_after text limit [] ts) (Syntax at) (Depth p) h k in cc)
  | inr ((p, k), twice) ↦ (let same = other_fault (program_after text limit [] ts) (Syntax at) (Twice p) h k in cc)
]

-- where reading stops at a name that was declared, no reading has distinct names
pub program_twice : (text : List ℕ) (limit at : ℕ) (ts : List Token) → program_after text limit [] ts ≡ Err (Twice at) →
    (ds : List InputDecl) (main : Expression) → ReadsProgram text ts ds main → IsDistinct bytes_eq (names_of ds) → ⊥
program_twice text limit at ts h ds main r distinct = elim (program_judged text limit [] r) as (λ _. ⊥) [
  | inl (inl k) ↦ not_both (program_after text limit [] ts) (ds, main) (Twice at) k h
  | inl (inr (p, k)) ↦ (let same = other_fault (program_after text limit [] ts) (Twice at) (Depth p) h k in cc)
  | inr (k, twice) ↦ twice distinct
]

-- a declaration is read in one way
pub one_declaration : {text : List ℕ} {ts us vs : List Token} {d e : InputDecl} → ReadsDeclaration text ts us d → ReadsDeclaration text ts vs e →
    (us ≡ vs) × (d ≡ e)
one_declaration {text} {ts} {us} {vs} {d} {e} r s =
    let same = both (declaration text [] ts) (d, us) (e, vs) (declaration_read text [] r) (declaration_read text [] s) in
    (ap (λ x. x.1) same, ap (λ x. x.0) same)

no_main : (t : Token) (ts : List Token) → IsWord word.Main t → has_word word.Input (t ∷ ts) ≡ true → ⊥
no_main t ts h k = let none : has_word word.Input (t ∷ ts) ≡ false = rw h refl in cc

pub one_program : OneProgram
one_program text ts ds es main other (g.declared {us = us} {d} {ds = more} r rs) (g.declared {us = vs} {d = e} {ds = others} s ss) =
    let first = one_declaration r s in
    let rest = one_program text us more others main other rs (subst (λ w. ReadsProgram text w others other) (sym first.0) ss) in
    (λ i. first.1 i ∷ rest.0 i, rest.1)
one_program text ts ds es main other (g.main_is _ _ d) (g.main_is _ _ e) = (refl, one_expression text _ main other d e)
one_program text ts ds es main other (g.declared r _) (g.main_is {t} {e} {ts = us} h _ _) = absurd (no_main t (e ∷ us) h (declaration_word r))
one_program text ts ds es main other (g.main_is {t} {e} {ts = us} h _ _) (g.declared s _) = absurd (no_main t (e ∷ us) h (declaration_word s))
