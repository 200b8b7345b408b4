-- Many steps.
use Rattle.std.proofs.Common.{◌≡◌, ℕ, suc, ◌+◌, ◌<◌, ◌≤◌, List, [], ◌∷◌, ◌++◌, inl, inr, refl, sym, subst, arith}
use Rattle.std.proofs.lemmas.Bool.{cases_lt}
use Rattle.std.proofs.Math.Nat.{eq-or-lt_of_le}
use Rattle.felm_term.specs.CoreType.{CoreType}
use Rattle.felm_term.specs.CoreTerm.{CoreTerm}
use Rattle.felm_term.specs.Typing.{AreSignals, PairHasType}
use Rattle.felm_term.specs.Reduction.{IsValue, IsSignalTerm, AreSharedSignals, HasNoStep, IsFinished, Step, StepOfArguments, op, cond, app, letv, share, in_function, in_left, in_right, in_condition, in_bound, in_lift_function, in_arguments, in_foldp_function, in_base, in_signal, in_async, in_first, in_rest, Steps, none, more}
use Rattle.felm_laws.proofs.OneNext.{value_stays, signal_stays, one_next}
use Rattle.felm_laws.proofs.StepTypes.{pair_typed}

pub value_has_no_step : (B : List CoreTerm) (v : CoreTerm) → IsValue v → HasNoStep B v
value_has_no_step B v w = λ C f s. value_stays w s

pub signal_has_no_step : (B : List CoreTerm) (s : CoreTerm) → IsSignalTerm s → HasNoStep B s
signal_has_no_step B s w = λ C f r. signal_stays w r

pub signal_is_finished : (B : List CoreTerm) (s : CoreTerm) → AreSharedSignals B → IsSignalTerm s → IsFinished B s
signal_is_finished B s b w = (b, signal_has_no_step B s w, w)

-- ---- one after another

pub steps_then : {m n : ℕ} {B C D : List CoreTerm} {e f g : CoreTerm} → Steps m B e C f → Steps n C f D g → Steps (m + n) B e D g
steps_then {m} {B} {D} {e} {g} r none = let same : m ≡ m + 0 = omega arith in subst (λ k. Steps k B e D g) same r
steps_then {m} {B} {D} {e} {g} r (more {n} q s) =
    let same : suc (m + n) ≡ m + suc n = omega arith in
    subst (λ k. Steps k B e D g) same (more (steps_then r q) s)

-- at a place inside a term, where each step inside is one of the whole
pub steps_in : {n : ℕ} {B C : List CoreTerm} {e f : CoreTerm} (whole : CoreTerm → CoreTerm)
    → ((B C : List CoreTerm) (e f : CoreTerm) → Step B e C f → Step B (whole e) C (whole f)) → Steps n B e C f → Steps n B (whole e) C (whole f)
steps_in whole inside none = none
steps_in whole inside (more {B} {C} {D} {e} {f} {g} r s) = more (steps_in whole inside r) (inside C D f g s)

pub first_step : {n : ℕ} {B C D : List CoreTerm} {e f g : CoreTerm} → Step B e C f → Steps n C f D g → Steps (suc n) B e D g
first_step s none = more none s
first_step s (more q r) = more (first_step s q) r

-- ---- the same number of steps leads to the same pair

pub steps_same : {n : ℕ} {B C D : List CoreTerm} {e f g : CoreTerm} → Steps n B e C f → Steps n B e D g → (C ≡ D) × (f ≡ g)
steps_same none none = (refl, refl)
steps_same (more r s) (more q t) =
    let h = steps_same r q in
    one_next s (rw (h.0, h.1) t)

-- the step after k of more steps
step_after : {n : ℕ} {B D : List CoreTerm} {e g : CoreTerm} (k : ℕ) → Steps n B e D g → k < n
    → (C : List CoreTerm) × (f : CoreTerm) × Steps k B e C f × ((E : List CoreTerm) × (h : CoreTerm) × Step C f E h)
step_after k none l = absurd (omega arith)
step_after {B} {e} k (more {n} {C} {D} {f} {g} r s) l =
    let below : k ≤ n = omega arith in
    elim (eq-or-lt_of_le below) [
      | inl e' ↦ (C, f, subst (λ x. Steps x B e C f) (sym e') r, (D, g, s))
      | inr l' ↦ step_after k r l'
    ]

-- where no step follows, no more steps were possible
pub no_more : {m n : ℕ} {B C D : List CoreTerm} {e f g : CoreTerm} → Steps m B e C f → HasNoStep C f → Steps n B e D g → n ≤ m
no_more {m} {n} {f} r w q =
    elim (cases_lt m n) [
      | inl l ↦ (let k = step_after m q l in let h = steps_same r k.2 in absurd (w k.3.0 k.3.1 (rw (h.0, h.1) k.3.2)))
      | inr l ↦ l
    ]

-- a pair comes to one end at most, by one number of steps
pub one_end : {m n : ℕ} {B C D : List CoreTerm} {e f g : CoreTerm} → Steps m B e C f → HasNoStep C f → Steps n B e D g → HasNoStep D g
    → (m ≡ n) × (C ≡ D) × (f ≡ g)
one_end {m} {n} {B} {C} {e} {f} r w q x =
    let l = no_more r w q in
    let l' = no_more q x r in
    let same : m ≡ n = omega arith in
    let h = steps_same (subst (λ k. Steps k B e C f) same r) q in
    (same, h.0, h.1)

-- ---- types

pub steps_typed : {n : ℕ} {B C : List CoreTerm} {e f : CoreTerm} (inputs : List CoreType) (wi : AreSignals inputs) (u : CoreType) → Steps n B e C f
    → PairHasType inputs B e u → PairHasType inputs C f u
steps_typed inputs wi u none h = h
steps_typed inputs wi u (more r s) h = pair_typed inputs wi u s (steps_typed inputs wi u r h)

-- ---- the shared signals are signal terms

signals_push : (B : List CoreTerm) (s : CoreTerm) → AreSharedSignals B → IsSignalTerm s → AreSharedSignals (B ++ s ∷ [])
signals_push [] s h k = (k, tt)
signals_push (b ∷ B) s h k = (h.0, signals_push B s h.1 k)

mutual
  pub step_signals : {B C : List CoreTerm} {e f : CoreTerm} → Step B e C f → AreSharedSignals B → AreSharedSignals C
  step_signals op h = h
  step_signals cond h = h
  step_signals app h = h
  step_signals (letv w) h = h
  step_signals (share {B} {s} w) h = signals_push B s h w
  step_signals (in_function r) h = step_signals r h
  step_signals (in_left r) h = step_signals r h
  step_signals (in_right r) h = step_signals r h
  step_signals (in_condition r) h = step_signals r h
  step_signals (in_bound r) h = step_signals r h
  step_signals (in_lift_function r) h = step_signals r h
  step_signals (in_arguments w r) h = arguments_signals r h
  step_signals (in_foldp_function r) h = step_signals r h
  step_signals (in_base w r) h = step_signals r h
  step_signals (in_signal w x r) h = step_signals r h
  step_signals (in_async r) h = step_signals r h

  arguments_signals : {B C : List CoreTerm} {ts us : _} → StepOfArguments B ts C us → AreSharedSignals B → AreSharedSignals C
  arguments_signals (in_first r) h = step_signals r h
  arguments_signals (in_rest w r) h = arguments_signals r h

pub steps_signals : {n : ℕ} {B C : List CoreTerm} {e f : CoreTerm} → Steps n B e C f → AreSharedSignals B → AreSharedSignals C
steps_signals none h = h
steps_signals (more r s) h = step_signals s (steps_signals r h)
