-- Terms of a simple type: they name no signals, share nothing, and go on to a value.
use Rattle.std.proofs.Common.{◌≡◌, ℕ, true, IsTrue, List, [], ◌∷◌, ◌⊎◌, inl, inr, refl, sym, subst, ◌∙◌}
use Rattle.felm_term.specs.CoreType.{CoreType, Arrow, Signal, is_simple, is_well_formed, is_simple_signal}
use Rattle.felm_term.specs.CoreType as type
use Rattle.felm_term.specs.CoreTerm.{CoreTerm, CoreTerms, Int, Var, Lam, App, Bin, If, Let, Input, Node, Lift, Foldp, Async, End, More}
use Rattle.felm_term.specs.CoreTerm as term
use Rattle.felm_term.specs.Typing.{HasType, AreSignals, IsFunction}
use Rattle.felm_term.specs.Reduction.{IsValue, Step, op, cond, app, letv, share, in_function, in_left, in_right, in_condition, in_bound, in_lift_function, in_arguments, in_foldp_function, in_base, in_signal, in_async, Steps, none, more}
use Rattle.felm_laws.specs.TypeLaws.{AreWellFormed, AreSimple}
use Rattle.felm_laws.specs.StepLaws.{GoesOnAlone}
use Rattle.felm_laws.proofs.Layers.{both, left_true, no_signal, no_signal_simple, simple_function, simple_bound}
use Rattle.felm_laws.proofs.Formed.{signals_at, well_formed}
use Rattle.felm_laws.proofs.StepTypes.{signal_type, step_typed}
use Rattle.felm_laws.proofs.OneNext.{one_next}
use Rattle.felm_laws.proofs.Progress.{progress, Goes}

simple_formed : (ts : List CoreType) → AreSimple ts → AreWellFormed ts
simple_formed [] h = tt
simple_formed (t ∷ ts) h = (left_true (is_simple t) _ h.0, simple_formed ts h.1)

-- ---- no signals

module _ (inputs shared : List CoreType) (wi : AreSignals inputs) (ws : AreSignals shared) where
  formed : (g : List CoreType) (t : CoreTerm) (u : CoreType) → AreSimple g → HasType inputs shared g t u → IsTrue (is_well_formed u)
  formed g t u w h = well_formed inputs shared wi ws g t u (simple_formed g w) h

  -- a term of a simple type under simple types has it without inputs and shared signals
  pub no_signals : (g : List CoreType) (t : CoreTerm) (u : CoreType) → AreSimple g → IsTrue (is_simple u) → HasType inputs shared g t u → HasType [] [] g t u
  no_signals g term.Unit u w c h = h
  no_signals g (Int n) u w c h = h
  no_signals g (Var n) u w c h = h
  no_signals g (Lam p b) u w c h =
      let k = both (is_simple p) (is_simple h.0) (subst (λ x. is_simple x ≡ true) h.1 c) in
      (h.0, h.1, h.2, h.3, no_signals (p ∷ g) b h.0 (k.0, w) k.1 h.4)
  no_signals g (App f a) u w c h =
      let k = simple_function h.0 u (formed g f (Arrow h.0 u) w h.1) c in
      (h.0, no_signals g f (Arrow h.0 u) w k h.1, no_signals g a h.0 w (both (is_simple h.0) (is_simple u) k).0 h.2)
  no_signals g (Bin o a b) u w c h = (h.0, no_signals g a type.Int w refl h.1, no_signals g b type.Int w refl h.2)
  no_signals g (If e a b) u w c h = (no_signals g e type.Int w refl h.0, no_signals g a u w c h.1, no_signals g b u w c h.2)
  no_signals g (Let a b) u w c h =
      let k = simple_bound h.0 u (formed g a h.0 w h.1) c h.3 in
      (h.0, no_signals g a h.0 w k h.1, no_signals (h.0 ∷ g) b u (k, w) c h.2, h.3)
  no_signals g (Input n) u w c h = absurd (no_signal u c (signals_at inputs n u wi h))
  no_signals g (Node n) u w c h = absurd (no_signal u c (signals_at shared n u ws h))
  no_signals g (Lift f ts) u w c h = absurd (no_signal_simple u h.1 c h.2)
  no_signals g (Foldp f b s) u w c h = absurd (no_signal_simple u h.1 c h.2)
  no_signals g (Async s) u w c h = absurd (no_signal_simple u h.0 c h.1)

  -- a function of a simple type is one that a value may be
  pub simple_function_value : (p : CoreType) (b : CoreTerm) (u : CoreType) → IsTrue (is_simple u) → HasType inputs shared [] (Lam p b) u → IsFunction (Lam p b)
  simple_function_value p b u c h = (u, c, no_signals [] (Lam p b) u tt c h)

-- ---- the parts of a closed term of a simple type at which it steps

closed_formed : (t : CoreTerm) (u : CoreType) → HasType [] [] [] t u → IsTrue (is_well_formed u)
closed_formed t u h = well_formed [] [] tt tt [] t u tt h

pub function_part : (f : CoreTerm) (p u : CoreType) → IsTrue (is_simple u) → HasType [] [] [] f (Arrow p u) → IsTrue (is_simple (Arrow p u))
function_part f p u c h = simple_function p u (closed_formed f (Arrow p u) h) c

pub bound_part : (a b : CoreTerm) (u : CoreType) → IsTrue (is_simple u) → (h : HasType [] [] [] (Let a b) u) → IsTrue (is_simple h.0)
bound_part a b u c h = simple_bound h.0 u (closed_formed a h.0 h.1) c h.3

-- ---- steps

-- such a term shares nothing, and steps the same beside any shared signals
pub simple_step : {B C : List CoreTerm} {e f : CoreTerm} (u : CoreType) → IsTrue (is_simple u) → HasType [] [] [] e u → Step B e C f
    → (C ≡ B) × ((D : List CoreTerm) → Step D e D f)
simple_step u c h op = (refl, λ D. op)
simple_step u c h cond = (refl, λ D. cond)
simple_step u c h app = (refl, λ D. app)
simple_step u c h (letv w) = (refl, λ D. letv w)
simple_step u c h (share {s} {a} w) =
    absurd (no_signal h.0 (bound_part s a u c h) (signal_type [] [] tt tt [] s h.0 w h.1))
simple_step u c h (in_function {f} r) =
    let k = simple_step (Arrow h.0 u) (function_part f h.0 u c h.1) h.1 r in (k.0, λ D. in_function (k.1 D))
simple_step u c h (in_left r) = let k = simple_step type.Int refl h.1 r in (k.0, λ D. in_left (k.1 D))
simple_step u c h (in_right r) = let k = simple_step type.Int refl h.2 r in (k.0, λ D. in_right (k.1 D))
simple_step u c h (in_condition r) = let k = simple_step type.Int refl h.0 r in (k.0, λ D. in_condition (k.1 D))
simple_step u c h (in_bound {a} {b} r) = let k = simple_step h.0 (bound_part a b u c h) h.1 r in (k.0, λ D. in_bound (k.1 D))
simple_step u c h (in_lift_function r) = absurd (no_signal_simple u h.1 c h.2)
simple_step u c h (in_arguments w r) = absurd (no_signal_simple u h.1 c h.2)
simple_step u c h (in_foldp_function r) = absurd (no_signal_simple u h.1 c h.2)
simple_step u c h (in_base w r) = absurd (no_signal_simple u h.1 c h.2)
simple_step u c h (in_signal w x r) = absurd (no_signal_simple u h.1 c h.2)
simple_step u c h (in_async r) = absurd (no_signal_simple u h.0 c h.1)

pub simple_step_typed : {e f : CoreTerm} (u : CoreType) → Step [] e [] f → HasType [] [] [] e u → HasType [] [] [] f u
simple_step_typed {e} {f} u r h =
    let k = step_typed [] tt [] u r refl h in
    subst (λ x. HasType [] x [] f u) (sym k.1) k.2

-- what so many steps of such a term come to
pub simple_steps : {n : ℕ} {B C : List CoreTerm} {e f : CoreTerm} (u : CoreType) → IsTrue (is_simple u) → HasType [] [] [] e u → Steps n B e C f
    → (C ≡ B) × HasType [] [] [] f u × ((D : List CoreTerm) → Steps n D e D f)
simple_steps u c h none = (refl, h, λ D. none)
simple_steps u c h (more r s) =
    let k = simple_steps u c h r in
    let l = simple_step u c k.1 s in
    (l.0 ∙ k.0, simple_step_typed u (l.1 []) k.1, λ D. more (k.2 D) (l.1 D))

-- such a term has a value or goes on
simple_progress : (e : CoreTerm) (u : CoreType) → IsTrue (is_simple u) → HasType [] [] [] e u → IsValue e ⊎ GoesOnAlone e u
simple_progress e u c h =
    elim (progress [] [] tt tt [] e u h) [
      | inl v ↦ inl v
      | inr r ↦ elim r [ inl s ↦ absurd (no_signal u c (signal_type [] [] tt tt [] e u s h)) | inr g ↦ inr (goes_on_alone e u c h g) ]
    ]
  where
    goes_on_alone : (e : CoreTerm) (u : CoreType) → IsTrue (is_simple u) → HasType [] [] [] e u → Goes [] e → GoesOnAlone e u
    goes_on_alone e u c h g =
        let k = simple_step u c h g.2 in
        record {
          next = g.1;
          step = k.1;
          typed = simple_step_typed u (k.1 []) h;
          only = λ B C f s. ((simple_step u c h s).0, (one_next s (k.1 B)).1);
        }

pub simple_never_stick : (n : ℕ) (B C : List CoreTerm) (e f : CoreTerm) (u : CoreType) → IsTrue (is_simple u) → HasType [] [] [] e u → Steps n B e C f
    → (C ≡ B) × HasType [] [] [] f u × (IsValue f ⊎ GoesOnAlone f u)
simple_never_stick n B C e f u c h s =
    let k = simple_steps u c h s in
    (k.0, k.1, simple_progress f u c k.1)
