-- The type of a lift, which the code finds argument by argument.
use Rattle.std.proofs.Common.{◌≡◌, ℕ, zero, suc, ◌+◌, Bool, true, false, ◌&&◌, List, [], ◌∷◌, length, Option, Some, None, Ok, Err, refl, sym, ap, ◌∙◌, arith, add-one, leb, if◌then◌else◌}
use Rattle.std.specs.Option.{option_map, option_and_then}
use Rattle.std.proofs.Math.Dec.{leb-zero, leb-suc-suc}
use Rattle.std.proofs.lemmas.Bool.{lt-leb}
use Rattle.std.proofs.lemmas.Bool.Decides.{leb_tells}
use Rattle.felm_term.specs.CoreType.{CoreType, Signal, is_simple}
use Rattle.felm_term.specs.CoreTerm.{CoreTerm, CoreTerms, count}
use Rattle.felm_term.specs.CoreTerm as core
use Rattle.felm_term.specs.FoundType.{when, is_count_within, is_liftable}
use Rattle.felm_term.specs.Inputs.{names_of}
use Rattle.felm_term.specs.declared.input.InputDecl.{InputDecl}
use Rattle.felm_syntax.specs.Expression.{Expression, Expressions, Lift, End, More}
use Rattle.felm_types.specs.Binder.{Binder, names}
use Rattle.felm_types.specs.CoreTermOf.{core_term, core_terms, of_two}
use Rattle.felm_types.specs.Judgement.{Judged, ◌>>=◌, row, taken, is_one_to_nine, lift_type, judge, judge_all}
use Rattle.felm_types.specs.Lift.{left_by, lifted}

-- a whole of two parts has both
pub two_parts : {A B C : Type 0} (whole : A → B → C) (a : Option A) (b : Option B) (c : C) → of_two whole a b ≡ Some c
    → (x : A) × (y : B) × (a ≡ Some x) × (b ≡ Some y) × (whole x y ≡ c)
two_parts whole (Some x) (Some y) c h = (x, y, refl, refl, cc)
two_parts whole (Some x) None c h = cc
two_parts whole None b c h = cc

-- what gives a value has a first step that gives one
pub step_ok : {A B : Type 0} (first : Judged A) (next : A → Judged B) (y : B) → (first >>= next) ≡ Ok y
    → (x : A) × (first ≡ Ok x) × (next x ≡ Ok y)
step_ok (Ok x) next y h = (x, refl, h)
step_ok (Err f) next y h = cc

-- ---- one to nine

within_is : (n : ℕ) (ts : CoreTerms) → is_count_within n ts ≡ leb (count ts) n
within_is n core.End = sym (leb-zero n)
within_is zero (core.More t ts) = sym (lt-leb (count ts + 1) 0 (omega arith))
within_is (suc n) (core.More t ts) = within_is n ts ∙ sym (ap (λ m. leb m (suc n)) (add-one (count ts)) ∙ leb-suc-suc (count ts) n)

nine : (m n : ℕ) → m + 1 ≡ n → leb m 8 ≡ (leb 1 n && leb n 9)
nine m n h = grind (arith, leb_tells m 8, leb_tells 1 n, leb_tells n 9)

-- as many terms as types
pub liftable_is : (ts : CoreTerms) (signals : List CoreType) → count ts ≡ length signals → is_liftable ts ≡ is_one_to_nine signals
liftable_is core.End [] h = refl
liftable_is core.End (s ∷ signals) h = absurd (omega arith)
liftable_is (core.More t ts) [] h = absurd (omega arith)
liftable_is (core.More t ts) (s ∷ signals) h = within_is 8 ts ∙ nine (count ts) (length (s ∷ signals)) h

module _ (inputs : List InputDecl) where
  pub counted : (g : List Binder) (es : Expressions) (ts : CoreTerms) (signals : List CoreType)
      → core_terms (names_of inputs) (names g) es ≡ Some ts → judge_all inputs g es ≡ Ok signals → count ts ≡ length signals
  counted g End ts signals h k =
      let e : core.End ≡ ts = cc in
      let f : [] ≡ signals = cc in
      ap count (sym e) ∙ ap length f
  counted g (More e es) ts signals h k =
      let first = two_parts core.More (core_term (names_of inputs) (names g) e) (core_terms (names_of inputs) (names g) es) ts h in
      let s = step_ok (judge inputs g e) (λ s. judge_all inputs g es >>= λ others. Ok (s ∷ others)) signals k in
      let others = step_ok (judge_all inputs g es) (λ others. Ok (s.0 ∷ others)) signals s.2 in
      let f : (s.0 ∷ others.0) ≡ signals = cc in
      let a : count (core.More first.0 first.1) ≡ count ts = ap count first.4 in
      let b = counted g es first.1 others.0 first.3 others.1 in
      let c : length (s.0 ∷ others.0) ≡ length signals = ap length f in
      omega (arith, a, b, c)

same_lift : (simple few : Bool) (p : CoreType) (signals : List CoreType)
    → (if simple && few then option_map Signal (taken p signals) else None)
    ≡ (if few then option_map Signal (option_and_then (λ q. taken q signals) (when simple p)) else None)
same_lift true true p signals = refl
same_lift true false p signals = refl
same_lift false true p signals = refl
same_lift false false p signals = refl

-- what is found argument by argument is the type of the lift
lift_found : (p : CoreType) (arguments : Judged (List CoreType)) (left : Option CoreType) (ts : CoreTerms) (at : ℕ)
    → left_by (when (is_simple p) p) arguments ≡ Ok left
    → ((signals : List CoreType) → arguments ≡ Ok signals → count ts ≡ length signals)
    → (arguments >>= λ signals. row at (lift_type p signals)) ≡ row at (lifted left ts)
lift_found p (Err f) left ts at h n = cc
lift_found p (Ok signals) left ts at h n =
    let l : option_and_then (λ q. taken q signals) (when (is_simple p) p) ≡ left = cc in
    let e : is_one_to_nine signals ≡ is_liftable ts = sym (liftable_is ts signals (n signals refl)) in
    ap (row at) (same_lift (is_simple p) (is_one_to_nine signals) p signals
    ∙ ap (λ few. if few then option_map Signal (option_and_then (λ q. taken q signals) (when (is_simple p) p)) else None) e
    ∙ ap (λ x. if is_liftable ts then option_map Signal x else None) l)

module _ (inputs : List InputDecl) where
  pub lift_judged : (g : List Binder) (e f : Expression) (es : Expressions) (at : ℕ) (p : CoreType) (first left : Option CoreType) (ts : CoreTerms)
      → e ≡ Lift f es at → judge inputs g f ≡ Ok p → first ≡ when (is_simple p) p → left_by first (judge_all inputs g es) ≡ Ok left
      → core_terms (names_of inputs) (names g) es ≡ Some ts → judge inputs g e ≡ row at (lifted left ts)
  lift_judged g e f es at p first left ts form is simple taken_by terms =
      ap (judge inputs g) form
      ∙ ap (λ judged. judged >>= λ q. judge_all inputs g es >>= λ signals. row at (lift_type q signals)) is
      ∙ lift_found p (judge_all inputs g es) left ts at (ap (λ l. left_by l (judge_all inputs g es)) (sym simple) ∙ taken_by)
      (λ signals k. counted inputs g es ts signals terms k)
