-- A typed pair is finished, has a value, or goes on.
use Rattle.std.proofs.Common.{◌≡◌, ◌++◌, List, [], ◌∷◌, length, IsTrue, ℤ, refl, sym, subst, if◌then◌else◌, ◌⊎◌, inl, inr}
use Rattle.felm_term.specs.CoreType.{CoreType, Arrow, Signal, is_simple, is_simple_signal}
use Rattle.felm_term.specs.CoreType as type
use Rattle.felm_term.specs.CoreTerm.{CoreTerm, CoreTerms, Int, Var, Lam, App, Bin, If, Let, Input, Node, Lift, Foldp, Async, End, More}
use Rattle.felm_term.specs.CoreTerm as term
use Rattle.felm_term.specs.Typing.{HasType, AreTakenBy, AreSignals}
use Rattle.felm_term.specs.Operators.{apply_op, is_zero}
use Rattle.felm_term.specs.Substitution.{substitute}
use Rattle.felm_term.specs.Reduction.{IsValue, IsSignalTerm, AreSignalTerms, Step, StepOfArguments, op, cond, app, letv, share, in_function, in_left, in_right, in_condition, in_bound, in_lift_function, in_arguments, in_foldp_function, in_base, in_signal, in_async, in_first, in_rest}
use Rattle.felm_laws.proofs.Layers.{no_signal}
use Rattle.felm_laws.proofs.Formed.{folded_simple}
use Rattle.felm_laws.proofs.StepTypes.{signal_type}
use Rattle.felm_term.specs.declared.op.Op.{Op}

-- the pair has a next one
abbrev pub Goes : List CoreTerm → CoreTerm → Type 0
Goes B e = (C : List CoreTerm) × (f : CoreTerm) × Step B e C f

abbrev pub ArgumentsGo : List CoreTerm → CoreTerms → Type 0
ArgumentsGo B ts = (C : List CoreTerm) × (us : CoreTerms) × StepOfArguments B ts C us

no_int : IsTrue (is_simple_signal type.Int) → ⊥
no_int h = cc

no_arrow : (p r : CoreType) → IsTrue (is_simple_signal (Arrow p r)) → ⊥
no_arrow p r h = cc

module _ (inputs shared : List CoreType) (wi : AreSignals inputs) (ws : AreSignals shared) (B : List CoreTerm) where
  -- values by their types
  pub int_value : (v : CoreTerm) → IsValue v → HasType inputs shared [] v type.Int → (n : ℤ) × (v ≡ Int n)
  int_value term.Unit w h = cc
  int_value (Int n) w h = (n, refl)
  int_value (Var n) w h = absurd w
  int_value (Lam p b) w h = let e = h.1 in cc
  int_value (App f a) w h = absurd w
  int_value (Bin o a b) w h = absurd w
  int_value (If c a b) w h = absurd w
  int_value (Let a b) w h = absurd w
  int_value (Input n) w h = absurd w
  int_value (Node n) w h = absurd w
  int_value (Lift f ts) w h = absurd w
  int_value (Foldp f b t) w h = absurd w
  int_value (Async t) w h = absurd w

  pub arrow_value : (v : CoreTerm) (p u : CoreType) → IsValue v → HasType inputs shared [] v (Arrow p u) → (q : CoreType) × (b : CoreTerm) × (v ≡ Lam q b)
  arrow_value term.Unit p u w h = cc
  arrow_value (Int n) p u w h = cc
  arrow_value (Var n) p u w h = absurd w
  arrow_value (Lam q b) p u w h = (q, b, refl)
  arrow_value (App f a) p u w h = absurd w
  arrow_value (Bin o a b) p u w h = absurd w
  arrow_value (If c a b) p u w h = absurd w
  arrow_value (Let a b) p u w h = absurd w
  arrow_value (Input n) p u w h = absurd w
  arrow_value (Node n) p u w h = absurd w
  arrow_value (Lift f ts) p u w h = absurd w
  arrow_value (Foldp f b t) p u w h = absurd w
  arrow_value (Async t) p u w h = absurd w

  pub signal_value : (v : CoreTerm) (q : CoreType) → IsValue v → HasType inputs shared [] v (Signal q) → ⊥
  signal_value term.Unit q w h = cc
  signal_value (Int n) q w h = cc
  signal_value (Var n) q w h = w
  signal_value (Lam p b) q w h = let e = h.1 in cc
  signal_value (App f a) q w h = w
  signal_value (Bin o a b) q w h = w
  signal_value (If c a b) q w h = w
  signal_value (Let a b) q w h = w
  signal_value (Input n) q w h = w
  signal_value (Node n) q w h = w
  signal_value (Lift f ts) q w h = w
  signal_value (Foldp f b t) q w h = w
  signal_value (Async t) q w h = w

  abbrev State : CoreTerm → Type 0
  State e = IsValue e ⊎ (IsSignalTerm e ⊎ Goes B e)

  at_app : (f a : CoreTerm) (p u : CoreType) → HasType inputs shared [] f (Arrow p u) → State f → Goes B (App f a)
  at_app f a p u h (inl w) = let k = arrow_value f p u w h in subst (λ x. Goes B (App x a)) (sym k.2) (B, Let a k.1, app)
  at_app f a p u h (inr (inl w)) = absurd (no_arrow p u (signal_type inputs shared wi ws [] f (Arrow p u) w h))
  at_app f a p u h (inr (inr g)) = (g.0, App g.1 a, in_function g.2)

  at_right : (o : Op) (n : ℤ) (b : CoreTerm) → HasType inputs shared [] b type.Int → State b → Goes B (Bin o (Int n) b)
  at_right o n b h (inl w) = let k = int_value b w h in subst (λ x. Goes B (Bin o (Int n) x)) (sym k.1) (B, Int (apply_op o n k.0), op)
  at_right o n b h (inr (inl w)) = absurd (no_int (signal_type inputs shared wi ws [] b type.Int w h))
  at_right o n b h (inr (inr g)) = (g.0, Bin o (Int n) g.1, in_right g.2)

  at_left : (o : Op) (a b : CoreTerm) → HasType inputs shared [] a type.Int → HasType inputs shared [] b type.Int → State a → State b → Goes B (Bin o a b)
  at_left o a b h k (inl w) q = let e = int_value a w h in subst (λ x. Goes B (Bin o x b)) (sym e.1) (at_right o e.0 b k q)
  at_left o a b h k (inr (inl w)) q = absurd (no_int (signal_type inputs shared wi ws [] a type.Int w h))
  at_left o a b h k (inr (inr g)) q = (g.0, Bin o g.1 b, in_left g.2)

  at_if : (c a b : CoreTerm) → HasType inputs shared [] c type.Int → State c → Goes B (If c a b)
  at_if c a b h (inl w) = let e = int_value c w h in subst (λ x. Goes B (If x a b)) (sym e.1) (B, (if is_zero e.0 then b else a), cond)
  at_if c a b h (inr (inl w)) = absurd (no_int (signal_type inputs shared wi ws [] c type.Int w h))
  at_if c a b h (inr (inr g)) = (g.0, If g.1 a b, in_condition g.2)

  at_let : (a b : CoreTerm) → State a → Goes B (Let a b)
  at_let a b (inl w) = (B, substitute a b, letv w)
  at_let a b (inr (inl w)) = (B ++ a ∷ [], substitute (Node (length B)) b, share w)
  at_let a b (inr (inr g)) = (g.0, Let g.1 b, in_bound g.2)

  at_lift : (f : CoreTerm) (ts : CoreTerms) (p : CoreType) → IsTrue (is_simple p) → HasType inputs shared [] f p → State f → AreSignalTerms ts ⊎ ArgumentsGo B ts → State (Lift f ts)
  at_lift f ts p w h (inl x) (inl y) = inr (inl (x, y))
  at_lift f ts p w h (inl x) (inr g) = inr (inr (g.0, Lift f g.1, in_arguments x g.2))
  at_lift f ts p w h (inr (inl x)) q = absurd (no_signal p w (signal_type inputs shared wi ws [] f p x h))
  at_lift f ts p w h (inr (inr g)) q = inr (inr (g.0, Lift g.1 ts, in_lift_function g.2))

  at_foldp : (f b t : CoreTerm) (p r : CoreType) → IsTrue (is_simple r) → HasType inputs shared [] f (Arrow p (Arrow r r)) → HasType inputs shared [] b r → HasType inputs shared [] t (Signal p) → State f → State b → State t → State (Foldp f b t)
  at_foldp f b t p r w hf hb ht (inl x) (inl y) (inl z) = absurd (signal_value t p z ht)
  at_foldp f b t p r w hf hb ht (inl x) (inl y) (inr (inl z)) = inr (inl (x, y, z))
  at_foldp f b t p r w hf hb ht (inl x) (inl y) (inr (inr g)) = inr (inr (g.0, Foldp f b g.1, in_signal x y g.2))
  at_foldp f b t p r w hf hb ht (inl x) (inr (inl y)) q = absurd (no_signal r w (signal_type inputs shared wi ws [] b r y hb))
  at_foldp f b t p r w hf hb ht (inl x) (inr (inr g)) q = inr (inr (g.0, Foldp f g.1 t, in_base x g.2))
  at_foldp f b t p r w hf hb ht (inr (inl x)) q o = absurd (no_arrow p (Arrow r r) (signal_type inputs shared wi ws [] f (Arrow p (Arrow r r)) x hf))
  at_foldp f b t p r w hf hb ht (inr (inr g)) q o = inr (inr (g.0, Foldp g.1 b t, in_foldp_function g.2))

  at_async : (t : CoreTerm) (p : CoreType) → HasType inputs shared [] t (Signal p) → State t → State (Async t)
  at_async t p h (inl x) = absurd (signal_value t p x h)
  at_async t p h (inr (inl x)) = inr (inl x)
  at_async t p h (inr (inr g)) = inr (inr (g.0, Async g.1, in_async g.2))

  at_more : (t : CoreTerm) (ts : CoreTerms) (q : CoreType) → HasType inputs shared [] t (Signal q) → State t → AreSignalTerms ts ⊎ ArgumentsGo B ts → AreSignalTerms (More t ts) ⊎ ArgumentsGo B (More t ts)
  at_more t ts q h (inl x) o = absurd (signal_value t q x h)
  at_more t ts q h (inr (inl x)) (inl y) = inl (x, y)
  at_more t ts q h (inr (inl x)) (inr g) = inr (g.0, More t g.1, in_rest x g.2)
  at_more t ts q h (inr (inr g)) o = inr (g.0, More g.1 ts, in_first g.2)

  mutual
    pub progress : (e : CoreTerm) (u : CoreType) → HasType inputs shared [] e u → State e
    progress term.Unit u h = inl tt
    progress (Int n) u h = inl tt
    progress (Var n) u h = cc
    progress (Lam p b) u h = inl tt
    progress (App f a) u h = inr (inr (at_app f a h.0 u h.1 (progress f (Arrow h.0 u) h.1)))
    progress (Bin o a b) u h = inr (inr (at_left o a b h.1 h.2 (progress a type.Int h.1) (progress b type.Int h.2)))
    progress (If c a b) u h = inr (inr (at_if c a b h.0 (progress c type.Int h.0)))
    progress (Let a b) u h = inr (inr (at_let a b (progress a h.0 h.1)))
    progress (Input n) u h = inr (inl tt)
    progress (Node n) u h = inr (inl tt)
    progress (Lift f ts) u h = at_lift f ts h.0 h.3 h.4 (progress f h.0 h.4) (progress_all h.0 ts h.1 h.5)
    progress (Foldp f b t) u h =
        at_foldp f b t h.0 h.1 (folded_simple h.0 h.1 h.3) h.4 h.5 h.6 (progress f (Arrow h.0 (Arrow h.1 h.1)) h.4) (progress b h.1 h.5) (progress t (Signal h.0) h.6)
    progress (Async t) u h = at_async t h.0 h.3 (progress t (Signal h.0) h.3)

    progress_all : (p : CoreType) (ts : CoreTerms) (r : CoreType) → AreTakenBy inputs shared [] p ts r → AreSignalTerms ts ⊎ ArgumentsGo B ts
    progress_all p End r h = inl tt
    progress_all p (More t ts) r h = at_more t ts h.0 h.3 (progress t (Signal h.0) h.3) (progress_all h.1 ts r h.4)
