-- More binders further out, and more inputs and shared signals later, keep each type.
use Rattle.std.proofs.Common.{◌≡◌, ℕ, zero, suc, List, [], ◌∷◌, ◌++◌, Some, subst, append-nil}
use Rattle.std.specs.Prelude.{slice_get}
use Rattle.felm_term.specs.CoreType.{CoreType, Arrow, Signal}
use Rattle.felm_term.specs.CoreType as type
use Rattle.felm_term.specs.CoreTerm.{CoreTerm, CoreTerms, Int, Var, Lam, App, Bin, If, Let, Input, Node, Lift, Foldp, Async, End, More}
use Rattle.felm_term.specs.CoreTerm as term
use Rattle.felm_term.specs.Typing.{HasType, AreTakenBy}

pub slice_get-append : (g d : List CoreType) (n : ℕ) (u : CoreType) → slice_get g n ≡ Some u → slice_get (g ++ d) n ≡ Some u
slice_get-append [] d n u h = cc
slice_get-append (t ∷ g) d zero u h = h
slice_get-append (t ∷ g) d (suc n) u h = slice_get-append g d n u h

module _ (inputs added shared later outer : List CoreType) where
  mutual
    pub weaken : (g : List CoreType) (t : CoreTerm) (u : CoreType) → HasType inputs shared g t u
        → HasType (inputs ++ added) (shared ++ later) (g ++ outer) t u
    weaken g term.Unit u h = h
    weaken g (Int n) u h = h
    weaken g (Var n) u h = slice_get-append g outer n u h
    weaken g (Input n) u h = slice_get-append inputs added n u h
    weaken g (Node n) u h = slice_get-append shared later n u h
    weaken g (Lam p b) u h = (h.0, h.1, h.2, h.3, weaken (p ∷ g) b h.0 h.4)
    weaken g (App f a) u h = (h.0, weaken g f (Arrow h.0 u) h.1, weaken g a h.0 h.2)
    weaken g (Bin o a b) u h = (h.0, weaken g a type.Int h.1, weaken g b type.Int h.2)
    weaken g (If c a b) u h = (weaken g c type.Int h.0, weaken g a u h.1, weaken g b u h.2)
    weaken g (Let a b) u h = (h.0, weaken g a h.0 h.1, weaken (h.0 ∷ g) b u h.2, h.3)
    weaken g (Lift f ts) u h = (h.0, h.1, h.2, h.3, weaken g f h.0 h.4, weaken_all g h.0 ts h.1 h.5, h.6, h.7)
    weaken g (Foldp f b s) u h =
        (h.0, h.1, h.2, h.3, weaken g f (Arrow h.0 (Arrow h.1 h.1)) h.4, weaken g b h.1 h.5, weaken g s (Signal h.0) h.6)
    weaken g (Async s) u h = (h.0, h.1, h.2, weaken g s (Signal h.0) h.3)

    pub weaken_all : (g : List CoreType) (p : CoreType) (ts : CoreTerms) (r : CoreType) → AreTakenBy inputs shared g p ts r
        → AreTakenBy (inputs ++ added) (shared ++ later) (g ++ outer) p ts r
    weaken_all g p End r h = h
    weaken_all g p (More t ts) r h =
        (h.0, h.1, h.2, weaken g t (Signal h.0) h.3, weaken_all g h.1 ts r h.4)

pub types_stay : (inputs added shared later g outer : List CoreType) (t : CoreTerm) (u : CoreType) → HasType inputs shared g t u
    → HasType (inputs ++ added) (shared ++ later) (g ++ outer) t u
types_stay inputs added shared later g outer t u h = weaken inputs added shared later outer g t u h

pub more_binders : (inputs shared g : List CoreType) (t : CoreTerm) (u : CoreType) → HasType inputs shared [] t u → HasType inputs shared g t u
more_binders inputs shared g t u h =
    subst (λ i. HasType i shared g t u) (append-nil inputs)
    (subst (λ s. HasType (inputs ++ []) s g t u) (append-nil shared) (weaken inputs [] shared [] g [] t u h))

pub more_shared : (inputs shared later g : List CoreType) (t : CoreTerm) (u : CoreType) → HasType inputs shared g t u → HasType inputs (shared ++ later) g t u
more_shared inputs shared later g t u h =
    subst (λ i. HasType i (shared ++ later) g t u) (append-nil inputs)
    (subst (λ x. HasType (inputs ++ []) (shared ++ later) x t u) (append-nil g) (weaken inputs [] shared later [] g t u h))

pub more_shared_all : (inputs shared later g : List CoreType) (p : CoreType) (ts : CoreTerms) (r : CoreType) → AreTakenBy inputs shared g p ts r
    → AreTakenBy inputs (shared ++ later) g p ts r
more_shared_all inputs shared later g p ts r h =
    subst (λ i. AreTakenBy i (shared ++ later) g p ts r) (append-nil inputs)
    (subst (λ x. AreTakenBy (inputs ++ []) (shared ++ later) x p ts r) (append-nil g) (weaken_all inputs [] shared later [] g p ts r h))

-- a term that has its type without inputs and shared signals has it beside any
pub beside_signals : (inputs shared g : List CoreType) (t : CoreTerm) (u : CoreType) → HasType [] [] g t u → HasType inputs shared g t u
beside_signals inputs shared g t u h = subst (λ x. HasType inputs shared x t u) (append-nil g) (weaken [] inputs [] shared [] g t u h)
