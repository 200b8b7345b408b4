-- The types of terms.
use Rattle.std.specs.Prelude.{◌≡◌, ◌≤◌, IsTrue, List, [], ◌∷◌, ◌++◌, Some, slice_get}
use Rattle.felm_term.specs.CoreType.{CoreType, Int, Arrow, Signal, is_simple, is_signal, is_well_formed, is_simple_signal}
use Rattle.felm_term.specs.CoreType as type
use Rattle.felm_term.specs.CoreTerm.{CoreTerm, CoreTerms, count}
use Rattle.felm_term.specs.CoreTerm as term

-- under the types of the inputs and of the shared signals
module _ (inputs shared : List CoreType) where
  abbrev mutual
    -- the term has type u under the types g of its binders, the nearest first
    pub HasType : List CoreType → CoreTerm → CoreType → Type 0
    HasType g term.Unit u = u ≡ type.Unit
    HasType g (term.Int n) u = u ≡ Int
    HasType g (term.Var n) u = slice_get g n ≡ Some u
    HasType g (term.Input n) u = slice_get inputs n ≡ Some u
    HasType g (term.Node n) u = slice_get shared n ≡ Some u
    -- the annotation p and the function's own type are well formed
    HasType g (term.Lam p b) u =
        (r : CoreType) × (u ≡ Arrow p r) × IsTrue (is_well_formed p) × IsTrue (is_well_formed (Arrow p r)) × HasType (p ∷ g) b r
    HasType g (term.App f a) u = (p : CoreType) × HasType g f (Arrow p u) × HasType g a p
    HasType g (term.Bin o a b) u = (u ≡ Int) × HasType g a Int × HasType g b Int
    HasType g (term.If c a b) u = HasType g c Int × HasType g a u × HasType g b u
    -- a let of a signal type has a body of a signal type
    HasType g (term.Let a b) u =
        (p : CoreType) × HasType g a p × HasType (p ∷ g) b u × (IsTrue (is_signal p) → IsTrue (is_signal u))
    -- a function of a simple type takes the values of one to nine signals
    HasType g (term.Lift f ts) u =
        (p : CoreType) × (r : CoreType) × (u ≡ Signal r) × IsTrue (is_simple p) × HasType g f p × AreTakenBy g p ts r
        × (1 ≤ count ts) × (count ts ≤ 9)
    HasType g (term.Foldp f b s) u =
        (t : CoreType) × (r : CoreType) × (u ≡ Signal r) × IsTrue (is_simple (Arrow t (Arrow r r))) × HasType g f (Arrow t (Arrow r r))
        × HasType g b r × HasType g s (Signal t)
    HasType g (term.Async s) u = (t : CoreType) × (u ≡ Signal t) × IsTrue (is_simple t) × HasType g s (Signal t)

    -- a function of type p takes the values of these signals one by one, and then gives a value of type r
    pub AreTakenBy : List CoreType → CoreType → CoreTerms → CoreType → Type 0
    AreTakenBy g p term.End r = p ≡ r
    AreTakenBy g p (term.More t ts) r =
        (q : CoreType) × (rest : CoreType) × (p ≡ Arrow q rest) × HasType g t (Signal q) × AreTakenBy g rest ts r

-- all of them are signals of simple types, as the inputs' are
abbrev pub AreSignals : List CoreType → Type 0
AreSignals [] = Unit {0}
AreSignals (t ∷ ts) = IsTrue (is_simple_signal t) × AreSignals ts

-- each term of B is a signal under those before it; `after` is `before` followed by the types of B's terms
abbrev pub SharedHaveTypes : List CoreType → List CoreType → List CoreTerm → List CoreType → Type 0
SharedHaveTypes inputs before [] after = before ≡ after
SharedHaveTypes inputs before (s ∷ B) after =
    (t : CoreType) × HasType inputs before [] s (Signal t) × SharedHaveTypes inputs (before ++ Signal t ∷ []) B after

-- the shared signals are typed in order, and beside them the term, which has no free variable, has type u
abbrev pub PairHasType : List CoreType → List CoreTerm → CoreTerm → CoreType → Type 0
PairHasType inputs B e u = (shared : List CoreType) × SharedHaveTypes inputs [] B shared × HasType inputs shared [] e u

-- the term is closed and has a simple type, without inputs and shared signals
abbrev pub HasSimpleType : CoreTerm → Type 0
HasSimpleType e = (u : CoreType) × IsTrue (is_simple u) × HasType [] [] [] e u

-- a closed function of a simple type
abbrev pub IsFunction : CoreTerm → Type 0
IsFunction (term.Lam p b) = HasSimpleType (term.Lam p b)
IsFunction _ = ⊥
