-- A closed term has no variable, and is put for one without regard to others.
use Rattle.std.proofs.Common.{◌≡◌, ◌≢◌, ◌<◌, ◌≤◌, ℕ, zero, suc, true, false, ◌==◌, List, [], ◌∷◌, ◌++◌, length, Some, refl, sym, ap, ◌∙◌, arith, if◌then◌else◌, ◌⊎◌, inl, inr}
use Rattle.std.specs.Prelude.{slice_get}
use Rattle.std.proofs.lemmas.Bool.Decides.{nat_tests}
use Rattle.felm_term.specs.CoreType.{CoreType, Arrow, Signal}
use Rattle.felm_term.specs.CoreType as type
use Rattle.felm_term.specs.CoreTerm.{CoreTerm, CoreTerms, Int, Var, Lam, App, Bin, If, Let, Input, Node, Lift, Foldp, Async, End, More}
use Rattle.felm_term.specs.CoreTerm as term
use Rattle.felm_term.specs.Typing.{HasType, AreTakenBy}
use Rattle.felm_term.specs.Substitution.{substitute, substitute_at, substitute_all}
use Rattle.felm_term.specs.Values.{term_of}
use Rattle.felm_term.specs.declared.value.Value.{Value}
use Rattle.felm_laws.proofs.Weakening.{beside_signals}
use Rattle.felm_laws.proofs.Substituted.{substituted, substitute_typed}

slice_get-below : (g : List CoreType) (n : ℕ) (u : CoreType) → slice_get g n ≡ Some u → n < length g
slice_get-below [] n u h = cc
slice_get-below (t ∷ g) zero u h = omega arith
slice_get-below (t ∷ g) (suc n) u h = omega (arith, slice_get-below g n u h)

-- a variable that is not searched for stays
other_stays : (n k : ℕ) (v : CoreTerm) → n ≢ k → (if n == k then v else Var n) ≡ Var n
other_stays n k v h = let t : (n == k) ≡ false = grind (arith, nat_tests) in rw t refl

found_goes : (n k : ℕ) (v : CoreTerm) → n ≡ k → (if n == k then v else Var n) ≡ v
found_goes n k v h = let t : (n == k) ≡ true = grind (arith, nat_tests) in rw t refl

-- ---- a term under fewer binders than the searched one is out

module _ (inputs shared : List CoreType) (v : CoreTerm) where
  mutual
    stays_under : (g : List CoreType) (k : ℕ) (t : CoreTerm) (u : CoreType) → length g ≤ k → HasType inputs shared g t u → substitute_at k v t ≡ t
    stays_under g k term.Unit u l h = refl
    stays_under g k (Int n) u l h = refl
    stays_under g k (Var n) u l h = other_stays n k v (λ e. let below = slice_get-below g n u h in omega arith)
    stays_under g k (Input n) u l h = refl
    stays_under g k (Node n) u l h = refl
    stays_under g k (Lam p b) u l h = ap (Lam p) (stays_under (p ∷ g) (suc k) b h.0 (omega arith) h.4)
    stays_under g k (App f a) u l h =
        let e = stays_under g k f (Arrow h.0 u) l h.1 in let d = stays_under g k a h.0 l h.2 in λ i. App (e i) (d i)
    stays_under g k (Bin o a b) u l h =
        let e = stays_under g k a type.Int l h.1 in let d = stays_under g k b type.Int l h.2 in λ i. Bin o (e i) (d i)
    stays_under g k (If c a b) u l h =
        let e = stays_under g k c type.Int l h.0 in
        let d = stays_under g k a u l h.1 in
        let q = stays_under g k b u l h.2 in
        λ i. If (e i) (d i) (q i)
    stays_under g k (Let a b) u l h =
        let e = stays_under g k a h.0 l h.1 in
        let d = stays_under (h.0 ∷ g) (suc k) b u (omega arith) h.2 in
        λ i. Let (e i) (d i)
    stays_under g k (Lift f ts) u l h =
        let e = stays_under g k f h.0 l h.4 in let d = all_stay_under g k h.0 ts h.1 l h.5 in λ i. Lift (e i) (d i)
    stays_under g k (Foldp f b s) u l h =
        let e = stays_under g k f (Arrow h.0 (Arrow h.1 h.1)) l h.4 in
        let d = stays_under g k b h.1 l h.5 in
        let q = stays_under g k s (Signal h.0) l h.6 in
        λ i. Foldp (e i) (d i) (q i)
    stays_under g k (Async s) u l h = ap Async (stays_under g k s (Signal h.0) l h.3)

    all_stay_under : (g : List CoreType) (k : ℕ) (p : CoreType) (ts : CoreTerms) (r : CoreType) → length g ≤ k → AreTakenBy inputs shared g p ts r
        → substitute_all k v ts ≡ ts
    all_stay_under g k p End r l h = refl
    all_stay_under g k p (More t ts) r l h =
        let e = stays_under g k t (Signal h.0) l h.3 in let d = all_stay_under g k h.1 ts r l h.4 in λ i. More (e i) (d i)

pub closed_stays : (inputs shared : List CoreType) (e : CoreTerm) (u : CoreType) → HasType inputs shared [] e u
    → (k : ℕ) (v : CoreTerm) → substitute_at k v e ≡ e
closed_stays inputs shared e u h k v = stays_under inputs shared v [] k e u (omega arith) h

-- ---- two closed terms

equal_or_not : (m n : ℕ) → (m ≡ n) ⊎ (m ≢ n)
equal_or_not zero zero = inl refl
equal_or_not zero (suc n) = inr (λ e. omega arith)
equal_or_not (suc m) zero = inr (λ e. omega arith)
equal_or_not (suc m) (suc n) = elim (equal_or_not m n) [ inl e ↦ inl (omega arith) | inr d ↦ inr (λ e. d (omega arith)) ]

which : (n j k : ℕ) → (n ≡ j) ⊎ ((n ≡ k) ⊎ ((n ≢ j) × (n ≢ k)))
which n j k =
    elim (equal_or_not n j) [
      | inl e ↦ inl e
      | inr d ↦ elim (equal_or_not n k) [ inl e ↦ inr (inl e) | inr q ↦ inr (inr (d, q)) ]
    ]

module _ (v w : CoreTerm) (v_stays : (k : ℕ) (t : CoreTerm) → substitute_at k t v ≡ v) (w_stays : (k : ℕ) (t : CoreTerm) → substitute_at k t w ≡ w) where
  -- the variable that each of them may be put for
  at_variable : (j k n : ℕ) → j ≢ k → (n ≡ j) ⊎ ((n ≡ k) ⊎ ((n ≢ j) × (n ≢ k))) → substitute_at j v (substitute_at k w (Var n)) ≡ substitute_at k w (substitute_at j v (Var n))
  at_variable j k n d (inl e) =
      let other : n ≢ k = λ q. d (sym e ∙ q) in
      ap (substitute_at j v) (other_stays n k w other) ∙ (found_goes n j v e ∙ (sym (v_stays k w) ∙ sym (ap (substitute_at k w) (found_goes n j v e))))
  at_variable j k n d (inr (inl e)) =
      let other : n ≢ j = λ q. d (sym q ∙ e) in
      ap (substitute_at j v) (found_goes n k w e) ∙ (w_stays j v ∙ (sym (found_goes n k w e) ∙ sym (ap (substitute_at k w) (other_stays n j v other))))
  at_variable j k n d (inr (inr e)) =
      ap (substitute_at j v) (other_stays n k w e.1) ∙ (other_stays n j v e.0 ∙ (sym (other_stays n k w e.1) ∙ sym (ap (substitute_at k w) (other_stays n j v e.0))))

  mutual
    either_order : (j k : ℕ) (t : CoreTerm) → j ≢ k → substitute_at j v (substitute_at k w t) ≡ substitute_at k w (substitute_at j v t)
    either_order j k term.Unit d = refl
    either_order j k (Int n) d = refl
    either_order j k (Var n) d = at_variable j k n d (which n j k)
    either_order j k (Input n) d = refl
    either_order j k (Node n) d = refl
    either_order j k (Lam p b) d = ap (Lam p) (either_order (suc j) (suc k) b (λ e. d (omega arith)))
    either_order j k (App f a) d = let e = either_order j k f d in let q = either_order j k a d in λ i. App (e i) (q i)
    either_order j k (Bin o a b) d = let e = either_order j k a d in let q = either_order j k b d in λ i. Bin o (e i) (q i)
    either_order j k (If c a b) d =
        let e = either_order j k c d in let q = either_order j k a d in let r = either_order j k b d in λ i. If (e i) (q i) (r i)
    either_order j k (Let a b) d =
        let e = either_order j k a d in let q = either_order (suc j) (suc k) b (λ x. d (omega arith)) in λ i. Let (e i) (q i)
    either_order j k (Lift f ts) d = let e = either_order j k f d in let q = either_order_all j k ts d in λ i. Lift (e i) (q i)
    either_order j k (Foldp f b s) d =
        let e = either_order j k f d in let q = either_order j k b d in let r = either_order j k s d in λ i. Foldp (e i) (q i) (r i)
    either_order j k (Async s) d = ap Async (either_order j k s d)

    either_order_all : (j k : ℕ) (ts : CoreTerms) → j ≢ k → substitute_all j v (substitute_all k w ts) ≡ substitute_all k w (substitute_all j v ts)
    either_order_all j k End d = refl
    either_order_all j k (More t ts) d = let e = either_order j k t d in let q = either_order_all j k ts d in λ i. More (e i) (q i)

pub substitutions_commute : (inputs shared : List CoreType) (v w : CoreTerm) (p q : CoreType) (j k : ℕ) (e : CoreTerm) → HasType inputs shared [] v p
    → HasType inputs shared [] w q → j ≢ k → substitute_at j v (substitute_at k w e) ≡ substitute_at k w (substitute_at j v e)
substitutions_commute inputs shared v w p q j k e h l d =
    either_order v w (closed_stays inputs shared v p h) (closed_stays inputs shared w q l) j k e d

-- ---- types

pub outer_substituted : (inputs shared g : List CoreType) (v e : CoreTerm) (p u : CoreType) → HasType inputs shared [] v p
    → HasType inputs shared (g ++ p ∷ []) e u → HasType inputs shared g (substitute_at (length g) v e) u
outer_substituted inputs shared g v e p u h k = substituted inputs shared v p h g e u k

pub value_substituted : (inputs shared : List CoreType) (v : Value) (body : CoreTerm) (p u : CoreType) → HasType [] [] [] (term_of v) p
    → HasType inputs shared (p ∷ []) body u → HasType inputs shared [] (substitute (term_of v) body) u
value_substituted inputs shared v body p u h k =
    substitute_typed inputs shared (term_of v) body p u (beside_signals inputs shared [] (term_of v) p h) k
