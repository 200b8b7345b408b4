-- A step keeps the type.
use Rattle.std.proofs.Common.{◌≡◌, ◌+◌, true, false, IsTrue, List, [], ◌∷◌, ◌++◌, length, Some, refl, sym, ap, subst, arith, append-nil, length-append, if◌then◌else◌}
use Rattle.std.specs.Prelude.{slice_get}
use Rattle.felm_term.specs.CoreType.{CoreType, Arrow, Signal, is_simple_signal}
use Rattle.felm_term.specs.CoreType as type
use Rattle.felm_term.specs.CoreTerm.{CoreTerm, CoreTerms, Int, Var, Lam, App, Bin, If, Let, Input, Node, Lift, Foldp, Async, End, More, count}
use Rattle.felm_term.specs.CoreTerm as term
use Rattle.felm_term.specs.Typing.{HasType, AreTakenBy, AreSignals, SharedHaveTypes, PairHasType}
use Rattle.felm_term.specs.Operators.{apply_op, is_zero}
use Rattle.felm_term.specs.Substitution.{substitute}
use Rattle.felm_term.specs.Reduction.{IsSignalTerm, Step, StepOfArguments, op, cond, app, letv, share, in_function, in_left, in_right, in_condition, in_bound, in_lift_function, in_arguments, in_foldp_function, in_base, in_signal, in_async, in_first, in_rest}
use Rattle.felm_laws.proofs.Layers.{signal_result, from_arrow, to_arrow}
use Rattle.felm_laws.proofs.Weakening.{more_shared, more_shared_all}
use Rattle.felm_laws.proofs.Substituted.{substitute_typed}
use Rattle.felm_laws.proofs.Formed.{as_signal, signals_at, taken_simple, folded_simple, shared_signals}

-- ---- signal terms have signal types

module _ (inputs shared : List CoreType) (wi : AreSignals inputs) (ws : AreSignals shared) where
  pub signal_type : (g : List CoreType) (t : CoreTerm) (u : CoreType) → IsSignalTerm t → HasType inputs shared g t u → IsTrue (is_simple_signal u)
  signal_type g term.Unit u w h = absurd w
  signal_type g (Int n) u w h = absurd w
  signal_type g (Var n) u w h = absurd w
  signal_type g (Lam p b) u w h = absurd w
  signal_type g (App f a) u w h = absurd w
  signal_type g (Bin o a b) u w h = absurd w
  signal_type g (If c a b) u w h = absurd w
  signal_type g (Let a b) u w h = absurd w
  signal_type g (Input n) u w h = signals_at inputs n u wi h
  signal_type g (Node n) u w h = signals_at shared n u ws h
  signal_type g (Lift f ts) u w h = rw h.2 (taken_simple inputs shared g h.0 ts h.1 h.3 h.5)
  signal_type g (Foldp f b s) u w h = rw h.2 (folded_simple h.0 h.1 h.3)
  signal_type g (Async s) u w h = rw h.1 h.2

-- ---- one shared signal more

slice_get-seam : (ts : List CoreType) (t : CoreType) → slice_get (ts ++ t ∷ []) (length ts) ≡ Some t
slice_get-seam [] t = refl
slice_get-seam (s ∷ ts) t = slice_get-seam ts t

pub shared_length : (inputs before : List CoreType) (B : List CoreTerm) (after : List CoreType) → SharedHaveTypes inputs before B after → length after ≡ length before + length B
shared_length inputs before [] after h = let e = ap length h in omega arith
shared_length inputs before (s ∷ B) after h =
    omega (arith, shared_length inputs (before ++ Signal h.0 ∷ []) B after h.2, length-append before (Signal h.0 ∷ []))

pub SharedHaveTypes-push : (inputs before : List CoreType) (B : List CoreTerm) (after : List CoreType) (s : CoreTerm) (t : CoreType) → SharedHaveTypes inputs before B after
    → HasType inputs after [] s (Signal t) → SharedHaveTypes inputs before (B ++ s ∷ []) (after ++ Signal t ∷ [])
SharedHaveTypes-push inputs before [] after s t h k =
    (t, subst (λ x. HasType inputs x [] s (Signal t)) (sym h) k, ap (λ x. x ++ Signal t ∷ []) h)
SharedHaveTypes-push inputs before (b ∷ B) after s t h k =
    (h.0, h.1, SharedHaveTypes-push inputs (before ++ Signal h.0 ∷ []) B after s t h.2 k)

count_stays : {B C : List CoreTerm} {ts us : CoreTerms} → StepOfArguments B ts C us → count ts ≡ count us
count_stays (in_first r) = refl
count_stays (in_rest x r) = ap (λ n. n + 1) (count_stays r)

-- the types of the shared signals go on at the end
abbrev pub Keeps : List CoreType → List CoreType → List CoreTerm → CoreTerm → CoreType → Type 0
Keeps inputs shared C e u = (later : List CoreType) × SharedHaveTypes inputs [] C (shared ++ later) × HasType inputs (shared ++ later) [] e u

module _ (inputs : List CoreType) (wi : AreSignals inputs) where
  same : (shared : List CoreType) (B : List CoreTerm) (e : CoreTerm) (u : CoreType) → SharedHaveTypes inputs [] B shared → HasType inputs shared [] e u
      → Keeps inputs shared B e u
  same shared B e u w h = ([], subst (λ x. SharedHaveTypes inputs [] B x) (sym (append-nil shared)) w, more_shared inputs shared [] [] e u h)

  one_shared : (shared : List CoreType) (B : List CoreTerm) (s a : CoreTerm) (p u : CoreType) → IsSignalTerm s → SharedHaveTypes inputs [] B shared
      → HasType inputs shared [] s p → HasType inputs shared (p ∷ []) a u → Keeps inputs shared (B ++ s ∷ []) (substitute (Node (length B)) a) u
  one_shared shared B s a p u x w hs ha =
      let ws = shared_signals inputs [] B shared wi tt w in
      let of = as_signal p (signal_type inputs shared wi ws [] s p x hs) in
      let t = of.0 in
      let k : HasType inputs shared [] s (Signal t) = subst (λ q. HasType inputs shared [] s q) of.1 hs in
      let last : length B ≡ length shared = omega (arith, shared_length inputs [] B shared w) in
      let at : slice_get (shared ++ Signal t ∷ []) (length B) ≡ Some (Signal t) = rw last (slice_get-seam shared (Signal t)) in
      let body = subst (λ q. HasType inputs (shared ++ Signal t ∷ []) (q ∷ []) a u) of.1 (more_shared inputs shared (Signal t ∷ []) (p ∷ []) a u ha) in
      (Signal t ∷ [], SharedHaveTypes-push inputs [] B shared s t w k, substitute_typed inputs (shared ++ Signal t ∷ []) (Node (length B)) a (Signal t) u at body)

  mutual
    pub step_typed : {B C : List CoreTerm} {e f : CoreTerm} (shared : List CoreType) (u : CoreType) → Step B e C f → SharedHaveTypes inputs [] B shared
        → HasType inputs shared [] e u → Keeps inputs shared C f u
    step_typed s u (op {B} {o} {m} {n}) w h = same s B (Int (apply_op o m n)) u w h.0
    step_typed s u (cond {B} {n} {a} {b}) w h =
        same s B (if is_zero n then b else a) u w (elim (is_zero n) as (λ z. HasType inputs s [] (if z then b else a) u) [ true ↦ h.2 | false ↦ h.1 ])
    step_typed s u (app {B} {p} {a} {b}) w h =
        let from : h.0 ≡ p = from_arrow h.1.1 in
        let to : u ≡ h.1.0 = to_arrow h.1.1 in
        same s B (Let b a) u w (
          p,
          subst (λ x. HasType inputs s [] b x) from h.2,
          subst (λ x. HasType inputs s (p ∷ []) a x) (sym to) h.1.4,
          λ g. rw to (signal_result p h.1.0 h.1.3 g),
        )
    step_typed s u (letv {B} {v} {a} x) w h = same s B (substitute v a) u w (substitute_typed inputs s v a h.0 u h.1 h.2)
    step_typed s u (share {B} {s = t} {a} x) w h = one_shared s B t a h.0 u x w h.1 h.2
    step_typed s u (in_function {a} r) w h =
        let k = step_typed s (Arrow h.0 u) r w h.1 in (k.0, k.1, (h.0, k.2, more_shared inputs s k.0 [] a h.0 h.2))
    step_typed s u (in_left {b} r) w h =
        let k = step_typed s type.Int r w h.1 in (k.0, k.1, (h.0, k.2, more_shared inputs s k.0 [] b type.Int h.2))
    step_typed s u (in_right r) w h =
        let k = step_typed s type.Int r w h.2 in (k.0, k.1, (h.0, h.1, k.2))
    step_typed s u (in_condition {a} {b} r) w h =
        let k = step_typed s type.Int r w h.0 in (k.0, k.1, (k.2, more_shared inputs s k.0 [] a u h.1, more_shared inputs s k.0 [] b u h.2))
    step_typed s u (in_bound {b} r) w h =
        let k = step_typed s h.0 r w h.1 in (k.0, k.1, (h.0, k.2, more_shared inputs s k.0 (h.0 ∷ []) b u h.2, h.3))
    step_typed s u (in_lift_function {ts} r) w h =
        let k = step_typed s h.0 r w h.4 in
        (k.0, k.1, (h.0, h.1, h.2, h.3, k.2, more_shared_all inputs s k.0 [] h.0 ts h.1 h.5, h.6, h.7))
    step_typed s u (in_arguments {f} x r) w h =
        let k = step_of_arguments_typed s h.0 h.1 r w h.5 in
        (k.0, k.1, (h.0, h.1, h.2, h.3, more_shared inputs s k.0 [] f h.0 h.4, k.2, rw (sym (count_stays r)) h.6, rw (sym (count_stays r)) h.7))
    step_typed s u (in_foldp_function {b} {s = t} r) w h =
        let k = step_typed s (Arrow h.0 (Arrow h.1 h.1)) r w h.4 in
        (k.0, k.1, (h.0, h.1, h.2, h.3, k.2, more_shared inputs s k.0 [] b h.1 h.5, more_shared inputs s k.0 [] t (Signal h.0) h.6))
    step_typed s u (in_base {f} {s = t} x r) w h =
        let k = step_typed s h.1 r w h.5 in
        (k.0, k.1, (h.0, h.1, h.2, h.3, more_shared inputs s k.0 [] f (Arrow h.0 (Arrow h.1 h.1)) h.4, k.2, more_shared inputs s k.0 [] t (Signal h.0) h.6))
    step_typed s u (in_signal {f} {b} x y r) w h =
        let k = step_typed s (Signal h.0) r w h.6 in
        (k.0, k.1, (h.0, h.1, h.2, h.3, more_shared inputs s k.0 [] f (Arrow h.0 (Arrow h.1 h.1)) h.4, more_shared inputs s k.0 [] b h.1 h.5, k.2))
    step_typed s u (in_async r) w h =
        let k = step_typed s (Signal h.0) r w h.3 in (k.0, k.1, (h.0, h.1, h.2, k.2))

    pub step_of_arguments_typed : {B C : List CoreTerm} {ts us : CoreTerms} (shared : List CoreType) (p r : CoreType) → StepOfArguments B ts C us
        → SharedHaveTypes inputs [] B shared → AreTakenBy inputs shared [] p ts r
        → (later : List CoreType) × SharedHaveTypes inputs [] C (shared ++ later) × AreTakenBy inputs (shared ++ later) [] p us r
    step_of_arguments_typed s p r (in_first {ts} n) w h =
        let k = step_typed s (Signal h.0) n w h.3 in
        (k.0, k.1, (h.0, h.1, h.2, k.2, more_shared_all inputs s k.0 [] h.1 ts r h.4))
    step_of_arguments_typed s p r (in_rest {t} x n) w h =
        let k = step_of_arguments_typed s h.1 r n w h.4 in
        (k.0, k.1, (h.0, h.1, h.2, more_shared inputs s k.0 [] t (Signal h.0) h.3, k.2))

  pub pair_typed : {B C : List CoreTerm} {e f : CoreTerm} (u : CoreType) → Step B e C f → PairHasType inputs B e u → PairHasType inputs C f u
  pair_typed u r h = let k = step_typed h.0 u r h.1 h.2 in (h.0 ++ k.0, k.1, k.2)
