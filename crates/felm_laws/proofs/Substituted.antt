-- A closed term in the place of a variable keeps each type.
use Rattle.std.proofs.Common.{◌≡◌, ℕ, ◌+◌, zero, suc, true, false, ◌==◌, List, [], ◌∷◌, ◌++◌, length, Some, refl, ap, arith, if◌then◌else◌, ◌⊎◌, inl, inr}
use Rattle.std.specs.Prelude.{slice_get}
use Rattle.std.proofs.lemmas.Bool.Decides.{nat_tests}
use Rattle.felm_term.specs.CoreType.{CoreType, Arrow, Signal}
use Rattle.felm_term.specs.CoreType as type
use Rattle.felm_term.specs.CoreTerm.{CoreTerm, CoreTerms, Int, Var, Lam, App, Bin, If, Let, Input, Node, Lift, Foldp, Async, End, More, count}
use Rattle.felm_term.specs.CoreTerm as term
use Rattle.felm_term.specs.Typing.{HasType, AreTakenBy}
use Rattle.felm_term.specs.Substitution.{substitute, substitute_at, substitute_all}
use Rattle.felm_laws.proofs.Weakening.{more_binders}

count-substitute : (k : ℕ) (v : CoreTerm) (ts : CoreTerms) → count (substitute_all k v ts) ≡ count ts
count-substitute k v End = refl
count-substitute k v (More t ts) = ap (λ n. n + 1) (count-substitute k v ts)

-- the variable of the outermost binder has that binder's type, and another keeps its own
slice_get-last : (g : List CoreType) (p : CoreType) (n : ℕ) (u : CoreType) → slice_get (g ++ p ∷ []) n ≡ Some u
    → ((n ≡ length g) × (u ≡ p)) ⊎ ((n ≡ length g → ⊥) × (slice_get g n ≡ Some u))
slice_get-last [] p zero u h = inl (refl, cc)
slice_get-last [] p (suc n) u h = cc
slice_get-last (t ∷ g) p zero u h = inr ((λ e. omega arith), h)
slice_get-last (t ∷ g) p (suc n) u h =
    elim (slice_get-last g p n u h) [ inl e ↦ inl (omega arith, e.1) | inr e ↦ inr ((λ q. e.0 (omega arith)), e.1) ]

module _ (inputs shared : List CoreType) (v : CoreTerm) (p : CoreType) (closed : HasType inputs shared [] v p) where
  here : (g : List CoreType) (n : ℕ) (u : CoreType) → n ≡ length g → u ≡ p → HasType inputs shared g (if n == length g then v else Var n) u
  here g n u e q =
      let t : (n == length g) ≡ true = grind (arith, nat_tests) in
      rw (t, q) (more_binders inputs shared g v p closed)

  other : (g : List CoreType) (n : ℕ) (u : CoreType) → (n ≡ length g → ⊥) → slice_get g n ≡ Some u → HasType inputs shared g (if n == length g then v else Var n) u
  other g n u e h =
      let t : (n == length g) ≡ false = grind (arith, nat_tests) in
      rw t h

  mutual
    pub substituted : (g : List CoreType) (t : CoreTerm) (u : CoreType) → HasType inputs shared (g ++ p ∷ []) t u → HasType inputs shared g (substitute_at (length g) v t) u
    substituted g term.Unit u h = h
    substituted g (Int n) u h = h
    substituted g (Var n) u h = elim (slice_get-last g p n u h) [ inl e ↦ here g n u e.0 e.1 | inr e ↦ other g n u e.0 e.1 ]
    substituted g (Input n) u h = h
    substituted g (Node n) u h = h
    substituted g (Lam q b) u h = (h.0, h.1, h.2, h.3, substituted (q ∷ g) b h.0 h.4)
    substituted g (App f a) u h = (h.0, substituted g f (Arrow h.0 u) h.1, substituted g a h.0 h.2)
    substituted g (Bin o a b) u h = (h.0, substituted g a type.Int h.1, substituted g b type.Int h.2)
    substituted g (If c a b) u h = (substituted g c type.Int h.0, substituted g a u h.1, substituted g b u h.2)
    substituted g (Let a b) u h = (h.0, substituted g a h.0 h.1, substituted (h.0 ∷ g) b u h.2, h.3)
    substituted g (Lift f ts) u h =
        (h.0, h.1, h.2, h.3, substituted g f h.0 h.4, all_substituted g h.0 ts h.1 h.5, rw (count-substitute (length g) v ts) h.6, rw (count-substitute (length g) v ts) h.7)
    substituted g (Foldp f b s) u h =
        (h.0, h.1, h.2, h.3, substituted g f (Arrow h.0 (Arrow h.1 h.1)) h.4, substituted g b h.1 h.5, substituted g s (Signal h.0) h.6)
    substituted g (Async s) u h = (h.0, h.1, h.2, substituted g s (Signal h.0) h.3)

    all_substituted : (g : List CoreType) (q : CoreType) (ts : CoreTerms) (r : CoreType) → AreTakenBy inputs shared (g ++ p ∷ []) q ts r
        → AreTakenBy inputs shared g q (substitute_all (length g) v ts) r
    all_substituted g q End r h = h
    all_substituted g q (More t ts) r h =
        (h.0, h.1, h.2, substituted g t (Signal h.0) h.3, all_substituted g h.1 ts r h.4)

-- the body of a binder with a closed term of the binder's type in the variable's place
pub substitute_typed : (inputs shared : List CoreType) (v a : CoreTerm) (p u : CoreType) → HasType inputs shared [] v p
    → HasType inputs shared (p ∷ []) a u → HasType inputs shared [] (substitute v a) u
substitute_typed inputs shared v a p u h k = substituted inputs shared v p h [] a u k
