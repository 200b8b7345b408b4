-- Tokens have at most one first fault, and reading stops there.
use Rattle.std.proofs.Common.{◌≡◌, ℕ, refl, arith, inl, inr, List, [], ◌∷◌, ◌++◌, append_assoc, subst, sym, ap, ◌∙◌}
use Rattle.std.specs.Prelude.{Result, Ok, Err, ◌⊎◌}
use Rattle.felm_lexer.specs.Readings.{Reads as Tokenizes, Whole, StandInOrder}
use Rattle.felm_lexer.specs.declared.token.Token.{Token}
use Rattle.felm_lexer.proofs.Spans.{in_order}
use Rattle.felm_syntax.specs.FirstFaults.{Fault, Syntax, Depth, Twice, place_of_fault, NamesAgain, IsRefused, AllPass, RefusesToken, IsFirstFault}
use Rattle.felm_syntax.specs.Fronts.{IsFront}
use Rattle.felm_syntax.specs.Nesting.{HasRoom}
use Rattle.felm_reading.specs.Laws.{OneFirstFault, FirstFaultMet}
use Rattle.felm_reading.specs.Reading.{Answer, program_after}
use Rattle.felm_reading.proofs.ProgramRuns.{Parts, done, Goes, goes_same, goes_ended, goes_out, goes_refused}
use Rattle.felm_reading.proofs.Meets.{Ended, ended_ok, ended_out}
use Rattle.felm_reading.proofs.Exact.{read_of, reads_beside, passes, tail_within, tail_append, first_fault}
use Rattle.felm_reading.proofs.Whole.{program_read}

-- which of two splits of one list comes first
compare : (xs ys us vs : List Token) (a b : Token) → xs ++ a ∷ us ≡ ys ++ b ∷ vs →
    ((xs ≡ ys) × (a ≡ b)) ⊎ (((q : List Token) × (ys ≡ xs ++ a ∷ q)) ⊎ ((q : List Token) × (xs ≡ ys ++ b ∷ q)))
compare [] [] us vs a b e = inl (refl, let h : a ≡ b = cc in h)
compare [] (y ∷ ys) us vs a b e = let h : a ≡ y = cc in inr (inl (ys, ap (λ t. t ∷ ys) (sym h)))
compare (x ∷ xs) [] us vs a b e = let h : x ≡ b = cc in inr (inr (xs, ap (λ t. t ∷ xs) h))
compare (x ∷ xs) (y ∷ ys) us vs a b e =
    let same : x ≡ y = cc in
    let rest : xs ++ a ∷ us ≡ ys ++ b ∷ vs = cc in
    elim (compare xs ys us vs a b rest) as (λ _. ((x ∷ xs ≡ y ∷ ys) × (a ≡ b)) ⊎ (((q : List Token) × (y ∷ ys ≡ (x ∷ xs) ++ a ∷ q)) ⊎ ((q : List Token) × (x ∷ xs ≡ (y ∷ ys) ++ b ∷ q)))) [
      | inl (h, k) ↦ inl (λ i. same i ∷ h i, k)
      | inr (inl (q, h)) ↦ inr (inl (q, λ i. sym same i ∷ h i))
      | inr (inr (q, h)) ↦ inr (inr (q, λ i. same i ∷ h i))
    ]

-- what passes isn't refused
abbrev Passes : List ℕ → ℕ → List Token → Type 0
Passes text limit us = IsFront text us × HasRoom text limit us × (NamesAgain text us → ⊥)

not_refused : (text : List ℕ) (limit : ℕ) (us : List Token) (fault : Fault) → Passes text limit us → IsRefused text limit us fault → ⊥
not_refused text limit us (Syntax _) p r = r p.0
not_refused text limit us (Depth _) p r = let le = p.1 r.1.0 r.1.1 in absurd (omega (arith, le, r.1.2))
not_refused text limit us (Twice _) p r = p.2 r.2

-- a token is refused for one cause
one_cause : (text : List ℕ) (limit : ℕ) (us : List Token) (fault other : Fault) → IsRefused text limit us fault → IsRefused text limit us other →
    place_of_fault fault ≡ place_of_fault other → fault ≡ other
one_cause text limit us (Syntax _) (Syntax _) r s e = ap Syntax e
one_cause text limit us (Syntax _) (Depth _) r s e = absurd (r s.0)
one_cause text limit us (Syntax _) (Twice _) r s e = absurd (r s.0)
one_cause text limit us (Depth _) (Syntax _) r s e = absurd (s r.0)
one_cause text limit us (Depth _) (Depth _) r s e = ap Depth e
one_cause text limit us (Depth _) (Twice _) r s e = let le = s.1 r.1.0 r.1.1 in absurd (omega (arith, le, r.1.2))
one_cause text limit us (Twice _) (Syntax _) r s e = absurd (s r.0)
one_cause text limit us (Twice _) (Depth _) r s e = let le = r.1 s.1.0 s.1.1 in absurd (omega (arith, le, s.1.2))
one_cause text limit us (Twice _) (Twice _) r s e = ap Twice e

-- tokens that all pass refuse none
pass_refuse : (text : List ℕ) (limit : ℕ) (ts : List Token) (fault : Fault) → AllPass text limit ts → RefusesToken text limit ts fault → ⊥
pass_refuse text limit ts fault pass (before, t, rest, e, _, r, _) =
    not_refused text limit (before ++ t ∷ []) fault (pass (before ++ t ∷ []) rest (e ∙ sym (append_assoc before (t ∷ []) rest))) r

one_token : (text : List ℕ) (limit : ℕ) (ts : List Token) (fault other : Fault) → RefusesToken text limit ts fault → RefusesToken text limit ts other → fault ≡ other
one_token text limit ts fault other (xs, a, us, e, pass, r, h) (ys, b, vs, k, also, s, g) =
    elim (compare xs ys us vs a b (sym e ∙ k)) as (λ _. fault ≡ other) [
      | inl (same, here) ↦ (
          let alike : xs ++ a ∷ [] ≡ ys ++ b ∷ [] = λ i. same i ++ here i ∷ [] in
          one_cause text limit (ys ++ b ∷ []) fault other (subst (λ us. IsRefused text limit us fault) alike r) s (h ∙ ap (λ (t : Token). t.start) here ∙ sym g))
      | inr (inl (q, w)) ↦ absurd (not_refused text limit (xs ++ a ∷ []) fault (also (xs ++ a ∷ []) q (w ∙ sym (append_assoc xs (a ∷ []) q))) r)
      | inr (inr (q, w)) ↦ absurd (not_refused text limit (ys ++ b ∷ []) other (pass (ys ++ b ∷ []) q (w ∙ sym (append_assoc ys (b ∷ []) q))) s)
    ]

pub one_first_fault : OneFirstFault
one_first_fault text limit ts fault other (inl r) (inl s) = one_token text limit ts fault other r s
one_first_fault text limit ts fault other (inl r) (inr (s, k)) = absurd (pass_refuse text limit ts fault s.0 r)
one_first_fault text limit ts fault other (inr (r, h)) (inl s) = absurd (pass_refuse text limit ts other r.0 s)
one_first_fault text limit ts fault other (inr (r, h)) (inr (s, k)) = h ∙ sym k

-- of a program that was read, all that begins it was taken
ended_program : {text : List ℕ} {limit : ℕ} {us more : List Token} {a b : Answer Parts} (x : Parts) → Goes text limit [] us more a b → b ≡ Ok (x, []) → Ended text a
ended_program {more} x (goes_same {x = y} {t} {r} _) e =
    let both : ◌≡◌ {A = Parts × List Token} (y, t ∷ (r ++ more)) (x, []) = cc in
    let none : t ∷ (r ++ more) ≡ [] = ap (λ z. z.1) both in absurd (cc)
ended_program x (goes_ended _ _) e = ended_ok
ended_program x (goes_out _ _) e = ended_out
ended_program x (goes_refused _ _ _) e = absurd (cc)

pub beginning : (text : List ℕ) (limit : ℕ) (ts : List Token) (x : Parts) → program_after text limit [] ts ≡ Ok x → (first rest : List Token) → ts ≡ first ++ rest → Ended text (read_of text limit first)
beginning text limit ts x read first rest e =
    ended_program x (reads_beside text limit first rest) (subst (λ l. read_of text limit l ≡ Ok (x, [])) e (ap done read))

pub read_passes : (text : List ℕ) (limit : ℕ) (ts : List Token) (x : Parts) → StandInOrder text 0 ts → program_after text limit [] ts ≡ Ok x → AllPass text limit ts
read_passes text limit ts x order read first rest e =
    let order_of : StandInOrder text 0 (first ++ rest) = subst (StandInOrder text 0) e order in
    passes text limit first (beginning text limit ts x read first rest e)
    (λ t q tail at. let lt = tail_within text 0 t (q ++ rest) (tail_append rest tail) refl order_of in absurd (omega arith))

no_fault : (text : List ℕ) (limit : ℕ) (ts : List Token) (x : Parts) (fault : Fault) → StandInOrder text 0 ts → program_after text limit [] ts ≡ Ok x → IsFirstFault text limit ts fault → ⊥
no_fault text limit ts x fault order read (inl r) = pass_refuse text limit ts fault (read_passes text limit ts x order read) r
no_fault text limit ts x fault order read (inr r) = let reads = program_read text limit ts x.0 x.1 read in r.0.1 x.0 x.1 reads.0

by_answer : (text : List ℕ) (limit : ℕ) (ts : List Token) (fault : Fault) → Tokenizes text (Whole ts) → IsFirstFault text limit ts fault → (a : Result Parts Fault) → program_after text limit [] ts ≡ a → a ≡ Err fault
by_answer text limit ts fault tokenizes is (Ok x) read = absurd (no_fault text limit ts x fault (in_order text ts tokenizes) read is)
by_answer text limit ts fault tokenizes is (Err other) read = ap Err (one_first_fault text limit ts other fault (first_fault text limit ts other tokenizes read) is)

pub first_fault_met : FirstFaultMet
first_fault_met text limit ts fault tokenizes is = by_answer text limit ts fault tokenizes is (program_after text limit [] ts) refl
