-- Typed terms have well-formed types.
use Rattle.std.proofs.Common.{◌≡◌, ℕ, zero, suc, IsTrue, List, [], ◌∷◌, ◌++◌, Some, refl, sym, subst}
use Rattle.std.specs.Prelude.{slice_get}
use Rattle.felm_term.specs.CoreType.{CoreType, Arrow, Signal, is_simple, is_signal, is_well_formed, is_simple_signal}
use Rattle.felm_term.specs.CoreType as type
use Rattle.felm_term.specs.CoreTerm.{CoreTerm, CoreTerms, Int, Var, Lam, App, Bin, If, Let, Input, Node, Lift, Foldp, Async, End, More}
use Rattle.felm_term.specs.CoreTerm as term
use Rattle.felm_term.specs.Typing.{HasType, AreTakenBy, AreSignals, SharedHaveTypes}
use Rattle.felm_term.specs.Inputs.{values_type, signal_types}
use Rattle.felm_term.specs.declared.input.InputTy.{InputTy}
use Rattle.felm_term.specs.declared.input.InputTy.TheVariants as input
use Rattle.felm_term.specs.declared.input.InputDecl.{InputDecl}
use Rattle.felm_laws.specs.TypeLaws.{AreWellFormed}
use Rattle.felm_laws.proofs.Layers.{both, result_formed}

-- ---- signals

pub as_signal : (u : CoreType) → IsTrue (is_simple_signal u) → (t : CoreType) × (u ≡ Signal t) × IsTrue (is_simple t)
as_signal type.Unit h = cc
as_signal type.Int h = cc
as_signal (Arrow p r) h = cc
as_signal (Signal t) h = (t, refl, h)

pub signal_formed : (u : CoreType) → IsTrue (is_simple_signal u) → IsTrue (is_well_formed u)
signal_formed u h = let e = as_signal u h in subst (λ x. IsTrue (is_well_formed x)) (sym e.1) e.2

pub signals_formed : (ts : List CoreType) → AreSignals ts → AreWellFormed ts
signals_formed [] h = tt
signals_formed (t ∷ ts) h = (signal_formed t h.0, signals_formed ts h.1)

pub signals_at : (ts : List CoreType) (n : ℕ) (u : CoreType) → AreSignals ts → slice_get ts n ≡ Some u → IsTrue (is_simple_signal u)
signals_at [] n u w h = cc
signals_at (t ∷ ts) zero u w h = let e : t ≡ u = cc in subst (λ x. IsTrue (is_simple_signal x)) e w.0
signals_at (t ∷ ts) (suc n) u w h = signals_at ts n u w.1 h

values_simple : (ty : InputTy) → IsTrue (is_simple (values_type ty))
values_simple input.Int = refl
values_simple input.Unit = refl

pub declared_signals : (declared : List InputDecl) → AreSignals (signal_types declared)
declared_signals [] = tt
declared_signals (d ∷ declared) = (values_simple d.ty, declared_signals declared)

pub signals_more : (ts us : List CoreType) → AreSignals ts → AreSignals us → AreSignals (ts ++ us)
signals_more [] us h k = k
signals_more (t ∷ ts) us h k = (h.0, signals_more ts us h.1 k)

-- ---- every type

formed_at : (g : List CoreType) (n : ℕ) (u : CoreType) → AreWellFormed g → slice_get g n ≡ Some u → IsTrue (is_well_formed u)
formed_at [] n u w h = cc
formed_at (t ∷ g) zero u w h = let e : t ≡ u = cc in subst (λ x. IsTrue (is_well_formed x)) e w.0
formed_at (t ∷ g) (suc n) u w h = formed_at g n u w.1 h

-- what a simple function gives once it has taken some values
pub taken_simple : (inputs shared g : List CoreType) (p : CoreType) (ts : CoreTerms) (r : CoreType) → IsTrue (is_simple p)
    → AreTakenBy inputs shared g p ts r → IsTrue (is_simple r)
taken_simple inputs shared g p End r w h = subst (λ x. IsTrue (is_simple x)) h w
taken_simple inputs shared g p (More t ts) r w h =
    let s : IsTrue (is_simple (Arrow h.0 h.1)) = subst (λ x. IsTrue (is_simple x)) h.2 w in
    taken_simple inputs shared g h.1 ts r (both (is_simple h.0) (is_simple h.1) s).1 h.4

-- what a foldp gives
pub folded_simple : (t r : CoreType) → IsTrue (is_simple (Arrow t (Arrow r r))) → IsTrue (is_simple r)
folded_simple t r h = (both (is_simple r) (is_simple r) (both (is_simple t) (is_simple (Arrow r r)) h).1).0

module _ (inputs shared : List CoreType) (wi : AreSignals inputs) (ws : AreSignals shared) where
  pub well_formed : (g : List CoreType) (t : CoreTerm) (u : CoreType) → AreWellFormed g → HasType inputs shared g t u → IsTrue (is_well_formed u)
  well_formed g term.Unit u wg h = rw h
  well_formed g (Int n) u wg h = rw h
  well_formed g (Var n) u wg h = formed_at g n u wg h
  well_formed g (Input n) u wg h = signal_formed u (signals_at inputs n u wi h)
  well_formed g (Node n) u wg h = signal_formed u (signals_at shared n u ws h)
  well_formed g (Lam p b) u wg h = rw h.1 h.3
  well_formed g (App f a) u wg h = result_formed h.0 u (well_formed g f (Arrow h.0 u) wg h.1)
  well_formed g (Bin o a b) u wg h = rw h.0
  well_formed g (If c a b) u wg h = well_formed g a u wg h.1
  well_formed g (Let a b) u wg h = well_formed (h.0 ∷ g) b u (well_formed g a h.0 wg h.1, wg) h.2
  well_formed g (Lift f ts) u wg h = rw h.2 (taken_simple inputs shared g h.0 ts h.1 h.3 h.5)
  well_formed g (Foldp f b s) u wg h = rw h.2 (folded_simple h.0 h.1 h.3)
  well_formed g (Async s) u wg h = rw h.1 h.2

-- the shared signals are signals
pub shared_signals : (inputs before : List CoreType) (B : List CoreTerm) (after : List CoreType) → AreSignals inputs → AreSignals before
    → SharedHaveTypes inputs before B after → AreSignals after
shared_signals inputs before [] after wi w h = subst AreSignals h w
shared_signals inputs before (s ∷ B) after wi w h =
    let formed : IsTrue (is_well_formed (Signal h.0)) = well_formed inputs before wi w [] s (Signal h.0) tt h.1 in
    shared_signals inputs (before ++ Signal h.0 ∷ []) B after wi (signals_more before (Signal h.0 ∷ []) w (formed, tt)) h.2
