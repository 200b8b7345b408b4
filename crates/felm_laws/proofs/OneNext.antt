-- Values and signal terms take no step, and a pair has at most one next pair.
use Rattle.std.proofs.Common.{◌≡◌, List, refl, ap}
use Rattle.felm_term.specs.CoreTerm.{CoreTerm, CoreTerms, Int, Var, Lam, App, Bin, If, Let, Input, Node, Lift, Foldp, Async, End, More}
use Rattle.felm_term.specs.CoreTerm as term
use Rattle.felm_term.specs.Reduction.{IsValue, IsSignalTerm, AreSignalTerms, Step, StepOfArguments, op, cond, app, letv, share, in_function, in_left, in_right, in_condition, in_bound, in_lift_function, in_arguments, in_foldp_function, in_base, in_signal, in_async, in_first, in_rest}

pub value_stays : {B B' : List CoreTerm} {v e : CoreTerm} → IsValue v → Step B v B' e → ⊥
value_stays w op = w
value_stays w cond = w
value_stays w app = w
value_stays w (letv x) = w
value_stays w (share x) = w
value_stays w (in_function r) = w
value_stays w (in_left r) = w
value_stays w (in_right r) = w
value_stays w (in_condition r) = w
value_stays w (in_bound r) = w
value_stays w (in_lift_function r) = w
value_stays w (in_arguments x r) = w
value_stays w (in_foldp_function r) = w
value_stays w (in_base x r) = w
value_stays w (in_signal x y r) = w
value_stays w (in_async r) = w

mutual
  pub signal_stays : {B B' : List CoreTerm} {s e : CoreTerm} → IsSignalTerm s → Step B s B' e → ⊥
  signal_stays w op = w
  signal_stays w cond = w
  signal_stays w app = w
  signal_stays w (letv x) = w
  signal_stays w (share x) = w
  signal_stays w (in_function r) = w
  signal_stays w (in_left r) = w
  signal_stays w (in_right r) = w
  signal_stays w (in_condition r) = w
  signal_stays w (in_bound r) = w
  signal_stays w (in_lift_function r) = value_stays w.0 r
  signal_stays w (in_arguments x r) = signals_stay w.1 r
  signal_stays w (in_foldp_function r) = value_stays w.0 r
  signal_stays w (in_base x r) = value_stays w.1 r
  signal_stays w (in_signal x y r) = signal_stays w.2 r
  signal_stays w (in_async r) = signal_stays w r

  signals_stay : {B B' : List CoreTerm} {ts us : CoreTerms} → AreSignalTerms ts → StepOfArguments B ts B' us → ⊥
  signals_stay w (in_first r) = signal_stays w.0 r
  signals_stay w (in_rest x r) = signals_stay w.1 r

no_value_signal : (t : CoreTerm) → IsValue t → IsSignalTerm t → ⊥
no_value_signal term.Unit v s = s
no_value_signal (Int n) v s = s
no_value_signal (Var n) v s = s
no_value_signal (Lam p b) v s = s
no_value_signal (App f a) v s = s
no_value_signal (Bin o a b) v s = s
no_value_signal (If c a b) v s = s
no_value_signal (Let a b) v s = s
no_value_signal (Input n) v s = v
no_value_signal (Node n) v s = v
no_value_signal (Lift f ts) v s = v
no_value_signal (Foldp f b t) v s = v
no_value_signal (Async t) v s = v

-- a pair has at most one next pair
mutual
  pub one_next : {B C D : List CoreTerm} {e a b : CoreTerm} → Step B e C a → Step B e D b → (C ≡ D) × (a ≡ b)
  one_next op op = (refl, refl)
  one_next op (in_left r) = absurd (value_stays tt r)
  one_next op (in_right r) = absurd (value_stays tt r)
  one_next cond cond = (refl, refl)
  one_next cond (in_condition r) = absurd (value_stays tt r)
  one_next app app = (refl, refl)
  one_next app (in_function r) = absurd (value_stays tt r)
  one_next (letv w) (letv x) = (refl, refl)
  one_next (letv {v} w) (share x) = absurd (no_value_signal v w x)
  one_next (letv w) (in_bound r) = absurd (value_stays w r)
  one_next (share {s} x) (letv w) = absurd (no_value_signal s w x)
  one_next (share x) (share y) = (refl, refl)
  one_next (share x) (in_bound r) = absurd (signal_stays x r)
  one_next (in_function r) app = absurd (value_stays tt r)
  one_next (in_function {a = x} r) (in_function q) = let h = one_next r q in (h.0, ap (λ f. App f x) h.1)
  one_next (in_left r) op = absurd (value_stays tt r)
  one_next (in_left {o} {b = y} r) (in_left q) = let h = one_next r q in (h.0, ap (λ x. Bin o x y) h.1)
  one_next (in_left r) (in_right q) = absurd (value_stays tt r)
  one_next (in_right r) op = absurd (value_stays tt r)
  one_next (in_right r) (in_left q) = absurd (value_stays tt q)
  one_next (in_right {o} {n} r) (in_right q) = let h = one_next r q in (h.0, ap (λ x. Bin o (Int n) x) h.1)
  one_next (in_condition r) cond = absurd (value_stays tt r)
  one_next (in_condition {a = x} {b = y} r) (in_condition q) = let h = one_next r q in (h.0, ap (λ c. If c x y) h.1)
  one_next (in_bound r) (letv w) = absurd (value_stays w r)
  one_next (in_bound r) (share x) = absurd (signal_stays x r)
  one_next (in_bound {b = y} r) (in_bound q) = let h = one_next r q in (h.0, ap (λ x. Let x y) h.1)
  one_next (in_lift_function {ts} r) (in_lift_function q) = let h = one_next r q in (h.0, ap (λ f. Lift f ts) h.1)
  one_next (in_lift_function r) (in_arguments w q) = absurd (value_stays w r)
  one_next (in_arguments w r) (in_lift_function q) = absurd (value_stays w q)
  one_next (in_arguments {f} w r) (in_arguments x q) = let h = one_next_of r q in (h.0, ap (λ ts. Lift f ts) h.1)
  one_next (in_foldp_function {b} {s} r) (in_foldp_function q) = let h = one_next r q in (h.0, ap (λ f. Foldp f b s) h.1)
  one_next (in_foldp_function r) (in_base w q) = absurd (value_stays w r)
  one_next (in_foldp_function r) (in_signal w x q) = absurd (value_stays w r)
  one_next (in_base w r) (in_foldp_function q) = absurd (value_stays w q)
  one_next (in_base {f} {s} w r) (in_base x q) = let h = one_next r q in (h.0, ap (λ b. Foldp f b s) h.1)
  one_next (in_base w r) (in_signal x y q) = absurd (value_stays y r)
  one_next (in_signal w x r) (in_foldp_function q) = absurd (value_stays w q)
  one_next (in_signal w x r) (in_base y q) = absurd (value_stays x q)
  one_next (in_signal {f} {b} w x r) (in_signal y z q) = let h = one_next r q in (h.0, ap (λ s. Foldp f b s) h.1)
  one_next (in_async r) (in_async q) = let h = one_next r q in (h.0, ap Async h.1)

  one_next_of : {B C D : List CoreTerm} {ts us vs : CoreTerms} → StepOfArguments B ts C us → StepOfArguments B ts D vs → (C ≡ D) × (us ≡ vs)
  one_next_of (in_first {ts} r) (in_first q) = let h = one_next r q in (h.0, ap (λ t. More t ts) h.1)
  one_next_of (in_first r) (in_rest x q) = absurd (signal_stays x r)
  one_next_of (in_rest x r) (in_first q) = absurd (signal_stays x q)
  one_next_of (in_rest {t} x r) (in_rest y q) = let h = one_next_of r q in (h.0, ap (λ ts. More t ts) h.1)
