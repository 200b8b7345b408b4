-- A fault of the syntax is behind the longest front that the tokens begin with.
use Rattle.std.proofs.Common.{◌≡◌, ℕ, ◌≤◌, refl, arith, inl, inr, List, [], ◌∷◌, ◌++◌, length, length-append, append_assoc, append-nil, subst, sym, ap, ◌∙◌}
use Rattle.std.specs.Prelude.{◌⊎◌}
use Rattle.felm_lexer.specs.Readings.{Reads as Tokenizes, Whole}
use Rattle.felm_lexer.specs.declared.token.Token.{Token}
use Rattle.felm_lexer.proofs.Spans.{in_order}
use Rattle.felm_syntax.specs.FirstFaults.{Syntax, RefusesToken, IsCutShort}
use Rattle.felm_syntax.specs.Fronts.{IsFront}
use Rattle.felm_reading.specs.Laws.{WholeIsFront, NoFrontGoesOn, IsLongestFront, BehindLongestFront}
use Rattle.felm_reading.specs.Reading.{place}
use Rattle.felm_reading.proofs.Exact.{proper_of, why, starts_inside, no_longer_front}
use Rattle.felm_reading.proofs.FrontsAre.{whole_program_front}
use Rattle.felm_reading.proofs.OneFault.{first_fault_met}
use Rattle.felm_reading.proofs.ProgramRuns.{done}

pub whole_is_front : WholeIsFront
whole_is_front text ts ds main reads = whole_program_front reads

pub no_front_goes_on : NoFrontGoesOn
no_front_goes_on text limit first rest more t tokenizes pass none front =
    let ts : List Token = first ++ t ∷ rest in
    let read = ap done (first_fault_met text limit ts (Syntax t.start) tokenizes (inl (first, t, rest, refl, pass, none, refl))) in
    let order = in_order text ts tokenizes in
    let proper = proper_of text ts tokenizes in
    no_longer_front limit first t more (why text limit ts (Syntax t.start) order proper read first t rest refl refl).1
    (starts_inside text limit ts (Syntax t.start) order proper read first t rest refl refl)
    (subst (IsFront text) (sym (append_assoc first (t ∷ []) more)) front)

-- what begins the same tokens is no longer than the first ones, or goes on with the next
beside : (xs ys us vs : List Token) (t : Token) → xs ++ ys ≡ us ++ t ∷ vs → (length xs ≤ length us) ⊎ ((q : List Token) × (xs ≡ us ++ t ∷ q))
beside [] ys us vs t e = inl (omega arith)
beside (x ∷ xs) ys [] vs t e = let h : x ≡ t = cc in inr (xs, ap (λ u. u ∷ xs) h)
beside (x ∷ xs) ys (u ∷ us) vs t e =
    let same : x ≡ u = cc in
    let rest : xs ++ ys ≡ us ++ t ∷ vs = cc in
    elim (beside xs ys us vs t rest) as (λ _. (length (x ∷ xs) ≤ length (u ∷ us)) ⊎ ((q : List Token) × (x ∷ xs ≡ (u ∷ us) ++ t ∷ q))) [
      | inl le ↦ inl (omega (arith, le))
      | inr (q, h) ↦ inr (q, λ i. same i ∷ h i)
    ]

abbrev Behind : List ℕ → ℕ → List Token → Type 0
Behind text at ts = (front : List Token) × (rest : List Token) × IsLongestFront text ts front rest × (at ≡ place text rest)

refused_behind : (text : List ℕ) (limit at : ℕ) (ts : List Token) → Tokenizes text (Whole ts) → RefusesToken text limit ts (Syntax at) → Behind text at ts
refused_behind text limit at ts tokenizes (first, t, rest, e, pass, none, here) = (
  first,
  t ∷ rest,
  record {
    split = e;
    is_front = (pass first [] (sym (append-nil first))).0;
    longest = λ longer more split front. elim (beside longer more first rest t (sym split ∙ e)) as (λ _. length longer ≤ length first) [
      | inl le ↦ le
      | inr (q, h) ↦ absurd (no_front_goes_on text limit first rest q t (subst (λ us. Tokenizes text (Whole us)) e tokenizes) pass none (subst (IsFront text) h front))
    ];
  },
  here,
)

cut_behind : (text : List ℕ) (limit at : ℕ) (ts : List Token) → IsCutShort text limit ts → at ≡ length text → Behind text at ts
cut_behind text limit at ts short here = (
  ts,
  [],
  record {
    split = sym (append-nil ts);
    is_front = (short.0 ts [] (sym (append-nil ts))).0;
    longest = λ longer more split front. let e = ap length split in omega (arith, e, length-append longer more);
  },
  here,
)

pub behind_longest_front : BehindLongestFront
behind_longest_front text limit at ts tokenizes (inl refuses) = refused_behind text limit at ts tokenizes refuses
behind_longest_front text limit at ts tokenizes (inr (short, is)) = cut_behind text limit at ts short (let h : at ≡ length text = cc in h)
