-- A typed signal term can be laid out.
use Rattle.std.proofs.Common.{◌≡◌, suc, IsTrue, List, [], ◌∷◌, ◌++◌, length, subst, arith, length-append}
use Rattle.std.proofs.lemmas.Option.{slice_get_within}
use Rattle.felm_term.specs.CoreType.{CoreType, Arrow, Signal, is_simple}
use Rattle.felm_term.specs.CoreTerm.{CoreTerm, CoreTerms, Int, Var, Lam, App, Bin, If, Let, Input, Node, Lift, Foldp, Async, End, More}
use Rattle.felm_term.specs.CoreTerm as term
use Rattle.felm_term.specs.Typing.{HasType, AreTakenBy, AreSignals, SharedHaveTypes}
use Rattle.felm_term.specs.Reduction.{IsValue, IsSignalTerm, AreSignalTerms, AreSharedSignals}
use Rattle.felm_laws.proofs.Formed.{folded_simple, signals_more}
use Rattle.felm_laws.proofs.SimpleTerms.{simple_function_value}
use Rattle.felm_laws.proofs.StepTypes.{signal_type}
use Rattle.felm_graph.specs.Layable.{IsConstant, IsLayable, AreLayable}
use Rattle.felm_graph.specs.Pairs.{AreLayableFrom}

module _ (inputs shared : List CoreType) (wi : AreSignals inputs) (ws : AreSignals shared) where
  -- a value of a simple type is a constant
  constant : (v : CoreTerm) (p : CoreType) → IsValue v → IsTrue (is_simple p) → HasType inputs shared [] v p → IsConstant v
  constant term.Unit p w c h = tt
  constant (Int n) p w c h = tt
  constant (Lam q b) p w c h = simple_function_value inputs shared wi ws q b p c h
  constant (Var n) p w c h = absurd w
  constant (App f a) p w c h = absurd w
  constant (Bin o a b) p w c h = absurd w
  constant (If e a b) p w c h = absurd w
  constant (Let a b) p w c h = absurd w
  constant (Input n) p w c h = absurd w
  constant (Node n) p w c h = absurd w
  constant (Lift f ts) p w c h = absurd w
  constant (Foldp f b s) p w c h = absurd w
  constant (Async s) p w c h = absurd w

  mutual
    pub layable : (t : CoreTerm) (u : CoreType) → IsSignalTerm t → HasType inputs shared [] t u → IsLayable (length shared) t
    layable (Input n) u w h = tt
    layable (Node n) u w h = slice_get_within shared n u h
    layable (Lift f ts) u w h = (constant f h.0 w.0 h.3 h.4, h.6, h.7, layable_all ts h.0 h.1 w.1 h.5)
    layable (Foldp f b s) u w h =
        (constant f (Arrow h.0 (Arrow h.1 h.1)) w.0 h.3 h.4, constant b h.1 w.1 (folded_simple h.0 h.1 h.3) h.5, layable s (Signal h.0) w.2 h.6)
    layable (Async s) u w h = layable s (Signal h.0) w h.3
    layable term.Unit u w h = absurd w
    layable (Int n) u w h = absurd w
    layable (Var n) u w h = absurd w
    layable (Lam p b) u w h = absurd w
    layable (App f a) u w h = absurd w
    layable (Bin o a b) u w h = absurd w
    layable (If c a b) u w h = absurd w
    layable (Let a b) u w h = absurd w

    layable_all : (ts : CoreTerms) (p r : CoreType) → AreSignalTerms ts → AreTakenBy inputs shared [] p ts r → AreLayable (length shared) ts
    layable_all End p r w h = tt
    layable_all (More t ts) p r w h = (layable t (Signal h.0) w.0 h.3, layable_all ts h.1 r w.1 h.4)

  -- the type of a signal term that is shared is one more signal
  pub one_more_signal : (s : CoreTerm) (t : CoreType) → IsSignalTerm s → HasType inputs shared [] s (Signal t) → AreSignals (shared ++ Signal t ∷ [])
  one_more_signal s t w h = signals_more shared (Signal t ∷ []) ws (signal_type inputs shared wi ws [] s (Signal t) w h, tt)

pub shared_layable : (inputs before : List CoreType) (B : List CoreTerm) (after : List CoreType) → AreSignals inputs → AreSignals before
    → AreSharedSignals B → SharedHaveTypes inputs before B after → AreLayableFrom (length before) B
shared_layable inputs before [] after wi wb w h = tt
shared_layable inputs before (s ∷ B) after wi wb w h =
    let later = one_more_signal inputs before wi wb s h.0 w.0 h.1 in
    let n : length (before ++ Signal h.0 ∷ []) ≡ suc (length before) = omega (arith, length-append before (Signal h.0 ∷ [])) in
    (layable inputs before wi wb s (Signal h.0) w.0 h.1, subst (λ m. AreLayableFrom m B) n (shared_layable inputs (before ++ Signal h.0 ∷ []) B after wi later w.1 h.2))
