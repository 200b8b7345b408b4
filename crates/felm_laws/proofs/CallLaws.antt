-- Calls as a function are calls by reduction.
use Rattle.std.proofs.Common.{◌≡◌, ℕ, suc, zero, ◌≤◌, Bool, true, false, ◌&&◌, List, [], ◌∷◌, length, Option, Some, None, refl, sym, ap, subst, arith, length-append, if◌then◌else◌, ◌⊎◌, inl, inr}
use Rattle.std.specs.Option.{option_map, option_and_then}
use Rattle.felm_term.specs.CoreType.{CoreType}
use Rattle.felm_term.specs.CoreTerm.{CoreTerm, CoreTerms, Int, Var, Lam, App, Bin, If, Let, Input, Node, Lift, Foldp, Async, End, More}
use Rattle.felm_term.specs.CoreTerm as term
use Rattle.felm_term.specs.Operators.{apply_op, is_zero}
use Rattle.felm_term.specs.Substitution.{substitute}
use Rattle.felm_term.specs.Reduction.{IsValue, IsSignalTerm, AreSignalTerms, Step, StepOfArguments, op, cond, app, letv, share, in_function, in_left, in_right, in_condition, in_bound, in_lift_function, in_arguments, in_foldp_function, in_base, in_signal, in_async, in_first, in_rest, Steps, none, more}
use Rattle.felm_term.specs.Call.{applied, ReachesValue, CallGives}
use Rattle.felm_term.specs.declared.op.Op.{Op}
use Rattle.felm_laws.specs.Calls.{is_number, number_in, is_function, body_of, is_value, is_signal_term, are_signal_terms, next_term, next_arguments, value_within, call}
use Rattle.felm_laws.proofs.Layers.{both, both_true}
use Rattle.felm_laws.proofs.OneNext.{value_stays, signal_stays}
use Rattle.felm_laws.proofs.StepLaws.{first_step, steps_same}

-- ---- the tests

value_test : (t : CoreTerm) → IsValue t → is_value t ≡ true
value_test term.Unit h = refl
value_test (Int n) h = refl
value_test (Lam p b) h = refl
value_test (Var n) h = absurd h
value_test (App f a) h = absurd h
value_test (Bin o a b) h = absurd h
value_test (If c a b) h = absurd h
value_test (Let a b) h = absurd h
value_test (Input n) h = absurd h
value_test (Node n) h = absurd h
value_test (Lift f ts) h = absurd h
value_test (Foldp f b s) h = absurd h
value_test (Async s) h = absurd h

test_value : (t : CoreTerm) → is_value t ≡ true → IsValue t
test_value term.Unit h = tt
test_value (Int n) h = tt
test_value (Lam p b) h = tt
test_value (Var n) h = cc
test_value (App f a) h = cc
test_value (Bin o a b) h = cc
test_value (If c a b) h = cc
test_value (Let a b) h = cc
test_value (Input n) h = cc
test_value (Node n) h = cc
test_value (Lift f ts) h = cc
test_value (Foldp f b s) h = cc
test_value (Async s) h = cc

mutual
  signal_test : (t : CoreTerm) → IsSignalTerm t → is_signal_term t ≡ true
  signal_test (Input n) h = refl
  signal_test (Node n) h = refl
  signal_test (Lift f ts) h = both_true (is_value f) (are_signal_terms ts) (value_test f h.0) (signals_test ts h.1)
  signal_test (Foldp f b s) h =
      both_true (is_value f) (is_value b && is_signal_term s) (value_test f h.0) (both_true (is_value b) (is_signal_term s) (value_test b h.1) (signal_test s h.2))
  signal_test (Async s) h = signal_test s h
  signal_test term.Unit h = absurd h
  signal_test (Int n) h = absurd h
  signal_test (Var n) h = absurd h
  signal_test (Lam p b) h = absurd h
  signal_test (App f a) h = absurd h
  signal_test (Bin o a b) h = absurd h
  signal_test (If c a b) h = absurd h
  signal_test (Let a b) h = absurd h

  signals_test : (ts : CoreTerms) → AreSignalTerms ts → are_signal_terms ts ≡ true
  signals_test End h = refl
  signals_test (More t ts) h = both_true (is_signal_term t) (are_signal_terms ts) (signal_test t h.0) (signals_test ts h.1)

mutual
  test_signal : (t : CoreTerm) → is_signal_term t ≡ true → IsSignalTerm t
  test_signal (Input n) h = tt
  test_signal (Node n) h = tt
  test_signal (Lift f ts) h = let k = both (is_value f) (are_signal_terms ts) h in (test_value f k.0, test_signals ts k.1)
  test_signal (Foldp f b s) h =
      let k = both (is_value f) (is_value b && is_signal_term s) h in
      let l = both (is_value b) (is_signal_term s) k.1 in
      (test_value f k.0, test_value b l.0, test_signal s l.1)
  test_signal (Async s) h = test_signal s h
  test_signal term.Unit h = cc
  test_signal (Int n) h = cc
  test_signal (Var n) h = cc
  test_signal (Lam p b) h = cc
  test_signal (App f a) h = cc
  test_signal (Bin o a b) h = cc
  test_signal (If c a b) h = cc
  test_signal (Let a b) h = cc

  test_signals : (ts : CoreTerms) → are_signal_terms ts ≡ true → AreSignalTerms ts
  test_signals End h = tt
  test_signals (More t ts) h = let k = both (is_signal_term t) (are_signal_terms ts) h in (test_signal t k.0, test_signals ts k.1)

number_is : (t : CoreTerm) → is_number t ≡ true → t ≡ Int (number_in t)
number_is (Int n) h = refl
number_is term.Unit h = cc
number_is (Var n) h = cc
number_is (Lam p b) h = cc
number_is (App f a) h = cc
number_is (Bin o a b) h = cc
number_is (If c a b) h = cc
number_is (Let a b) h = cc
number_is (Input n) h = cc
number_is (Node n) h = cc
number_is (Lift f ts) h = cc
number_is (Foldp f b s) h = cc
number_is (Async s) h = cc

function_is : (t : CoreTerm) → is_function t ≡ true → (p : CoreType) × (t ≡ Lam p (body_of t))
function_is (Lam p b) h = (p, refl)
function_is term.Unit h = cc
function_is (Int n) h = cc
function_is (Var n) h = cc
function_is (App f a) h = cc
function_is (Bin o a b) h = cc
function_is (If c a b) h = cc
function_is (Let a b) h = cc
function_is (Input n) h = cc
function_is (Node n) h = cc
function_is (Lift f ts) h = cc
function_is (Foldp f b s) h = cc
function_is (Async s) h = cc

fails : (b : Bool) → (b ≡ true → ⊥) → b ≡ false
fails true h = absurd (h refl)
fails false h = refl

-- ---- what steps is no value, number, function or signal term

module _ {t u : CoreTerm} (s : Step [] t [] u) where
  no_value : is_value t ≡ false
  no_value = fails (is_value t) (λ h. value_stays (test_value t h) s)

  no_number : is_number t ≡ false
  no_number = fails (is_number t) (λ h. value_stays (subst IsValue (sym (number_is t h)) tt) s)

  no_function : is_function t ≡ false
  no_function = fails (is_function t) (λ h. value_stays (subst IsValue (sym (function_is t h).1) tt) s)

  no_signal_term : is_signal_term t ≡ false
  no_signal_term = fails (is_signal_term t) (λ h. signal_stays (test_signal t h) s)

-- ---- the next term is the one of the step

mutual
  step_next : {e f : CoreTerm} → Step [] e [] f → next_term e ≡ Some f
  step_next op = refl
  step_next cond = refl
  step_next app = refl
  step_next (letv {v} w) = rw (value_test v w) refl
  step_next (in_function {a} r) = rw (no_function r) (ap (option_map (λ g. App g a)) (step_next r))
  step_next (in_left {o} {b} r) = rw (no_number r) (ap (option_map (λ c. Bin o c b)) (step_next r))
  step_next (in_right {o} {n} r) = rw (no_number r) (ap (option_map (Bin o (Int n))) (step_next r))
  step_next (in_condition {a} {b} r) = rw (no_number r) (ap (option_map (λ d. If d a b)) (step_next r))
  step_next (in_bound {b} r) = rw (no_value r) (ap (option_map (λ c. Let c b)) (step_next r))
  step_next (in_lift_function {ts} r) = rw (no_value r) (ap (option_map (λ g. Lift g ts)) (step_next r))
  step_next (in_arguments {f} w r) = rw (value_test f w) (ap (option_map (Lift f)) (arguments_next r))
  step_next (in_foldp_function {b} {s} r) = rw (no_value r) (ap (option_map (λ g. Foldp g b s)) (step_next r))
  step_next (in_base {f} {s} w r) = rw (value_test f w, no_value r) (ap (option_map (λ c. Foldp f c s)) (step_next r))
  step_next (in_signal {f} {b} w x r) = rw (value_test f w, value_test b x) (ap (option_map (Foldp f b)) (step_next r))
  step_next (in_async r) = ap (option_map Async) (step_next r)

  arguments_next : {ts us : CoreTerms} → StepOfArguments [] ts [] us → next_arguments ts ≡ Some us
  arguments_next (in_first {ts} r) = rw (no_signal_term r) (ap (option_map (λ u. More u ts)) (step_next r))
  arguments_next (in_rest {t} w r) = rw (signal_test t w) (ap (option_map (More t)) (arguments_next r))

-- ---- a step leads to the next term

mapped : {A B : Type 0} (k : A → B) (x : Option A) (u : B) → option_map k x ≡ Some u → (y : A) × (x ≡ Some y) × (k y ≡ u)
mapped k None u h = cc
mapped k (Some y) u h = (y, refl, cc)

chosen : {A : Type 0} (b : Bool) (x y : A) (P : A → Type 0) → (b ≡ true → P x) → (b ≡ false → P y) → P (if b then x else y)
chosen true x y P h k = h refl
chosen false x y P h k = k refl

abbrev LeadsTo : CoreTerm → Option CoreTerm → Type 0
LeadsTo e next = (f : CoreTerm) → next ≡ Some f → Step [] e [] f

abbrev ArgumentsLeadTo : CoreTerms → Option CoreTerms → Type 0
ArgumentsLeadTo ts next = (us : CoreTerms) → next ≡ Some us → StepOfArguments [] ts [] us

some_is : {A : Type 0} {x y : A} → Some x ≡ Some y → x ≡ y
some_is h = cc

only : (e f : CoreTerm) → Step [] e [] f → LeadsTo e (Some f)
only e f s g h = subst (λ x. Step [] e [] x) (some_is h) s

inside : (whole : CoreTerm → CoreTerm) (e : CoreTerm) → ((f : CoreTerm) → Step [] e [] f → Step [] (whole e) [] (whole f)) → LeadsTo e (next_term e)
    → LeadsTo (whole e) (option_map whole (next_term e))
inside whole e step leads g h =
    let k = mapped whole (next_term e) g h in
    subst (λ x. Step [] (whole e) [] x) k.2 (step k.0 (leads k.0 k.1))

op_leads : (o : Op) (a b : CoreTerm) → is_number a ≡ true → is_number b ≡ true → LeadsTo (Bin o a b) (Some (Int (apply_op o (number_in a) (number_in b))))
op_leads o a b h k =
    let s : Step [] (Bin o (Int (number_in a)) (Int (number_in b))) [] (Int (apply_op o (number_in a) (number_in b))) = op in
    let left = subst (λ x. Step [] (Bin o x (Int (number_in b))) [] (Int (apply_op o (number_in a) (number_in b)))) (sym (number_is a h)) s in
    only (Bin o a b) (Int (apply_op o (number_in a) (number_in b)))
    (subst (λ x. Step [] (Bin o a x) [] (Int (apply_op o (number_in a) (number_in b)))) (sym (number_is b k)) left)

right_leads : (o : Op) (a b : CoreTerm) → is_number a ≡ true → LeadsTo b (next_term b) → LeadsTo (Bin o a b) (option_map (Bin o a) (next_term b))
right_leads o a b h leads =
    inside (Bin o a) b (λ f s. subst (λ x. Step [] (Bin o x b) [] (Bin o x f)) (sym (number_is a h)) (in_right s)) leads

cond_leads : (c a b : CoreTerm) → is_number c ≡ true → LeadsTo (If c a b) (Some (if is_zero (number_in c) then b else a))
cond_leads c a b h =
    let s : Step [] (If (Int (number_in c)) a b) [] (if is_zero (number_in c) then b else a) = cond in
    only (If c a b) (if is_zero (number_in c) then b else a)
    (subst (λ x. Step [] (If x a b) [] (if is_zero (number_in c) then b else a)) (sym (number_is c h)) s)

app_leads : (f a : CoreTerm) → is_function f ≡ true → LeadsTo (App f a) (Some (Let a (body_of f)))
app_leads f a h =
    let k = function_is f h in
    let s : Step [] (App (Lam k.0 (body_of f)) a) [] (Let a (body_of f)) = app in
    only (App f a) (Let a (body_of f)) (subst (λ x. Step [] (App x a) [] (Let a (body_of f))) (sym k.1) s)

arguments_lead : (f : CoreTerm) (ts : CoreTerms) → IsValue f → ArgumentsLeadTo ts (next_arguments ts) → LeadsTo (Lift f ts) (option_map (Lift f) (next_arguments ts))
arguments_lead f ts w leads g h =
    let k = mapped (Lift f) (next_arguments ts) g h in
    subst (λ x. Step [] (Lift f ts) [] x) k.2 (in_arguments w (leads k.0 k.1))

rest_leads : (t : CoreTerm) (ts : CoreTerms) → IsSignalTerm t → ArgumentsLeadTo ts (next_arguments ts) → ArgumentsLeadTo (More t ts) (option_map (More t) (next_arguments ts))
rest_leads t ts w leads us h =
    let k = mapped (More t) (next_arguments ts) us h in
    subst (λ x. StepOfArguments [] (More t ts) [] x) k.2 (in_rest w (leads k.0 k.1))

first_leads : (t : CoreTerm) (ts : CoreTerms) → LeadsTo t (next_term t) → ArgumentsLeadTo (More t ts) (option_map (λ u. More u ts) (next_term t))
first_leads t ts leads us h =
    let k = mapped (λ u. More u ts) (next_term t) us h in
    subst (λ x. StepOfArguments [] (More t ts) [] x) k.2 (in_first (leads k.0 k.1))

none_leads : (e : CoreTerm) → LeadsTo e None
none_leads e f h = cc

mutual
  next_step : (e : CoreTerm) → LeadsTo e (next_term e)
  next_step (App f a) =
      chosen (is_function f) (Some (Let a (body_of f))) (option_map (λ g. App g a) (next_term f)) (LeadsTo (App f a))
      (app_leads f a) (λ h. inside (λ g. App g a) f (λ g s. in_function s) (next_step f))
  next_step (Bin o a b) =
      chosen (is_number a) (if is_number b then Some (Int (apply_op o (number_in a) (number_in b))) else option_map (Bin o a) (next_term b)) (option_map (λ c. Bin o c b) (next_term a)) (LeadsTo (Bin o a b))
      (λ h. chosen (is_number b) (Some (Int (apply_op o (number_in a) (number_in b)))) (option_map (Bin o a) (next_term b)) (LeadsTo (Bin o a b))
      (op_leads o a b h) (λ k. right_leads o a b h (next_step b)))
      (λ h. inside (λ c. Bin o c b) a (λ c s. in_left s) (next_step a))
  next_step (If c a b) =
      chosen (is_number c) (Some (if is_zero (number_in c) then b else a)) (option_map (λ d. If d a b) (next_term c)) (LeadsTo (If c a b))
      (cond_leads c a b) (λ h. inside (λ d. If d a b) c (λ d s. in_condition s) (next_step c))
  next_step (Let a b) =
      chosen (is_value a) (Some (substitute a b)) (option_map (λ c. Let c b) (next_term a)) (LeadsTo (Let a b))
      (λ h. only (Let a b) (substitute a b) (letv (test_value a h))) (λ h. inside (λ c. Let c b) a (λ c s. in_bound s) (next_step a))
  next_step (Lift f ts) =
      chosen (is_value f) (option_map (Lift f) (next_arguments ts)) (option_map (λ g. Lift g ts) (next_term f)) (LeadsTo (Lift f ts))
      (λ h. arguments_lead f ts (test_value f h) (next_arguments_step ts)) (λ h. inside (λ g. Lift g ts) f (λ g s. in_lift_function s) (next_step f))
  next_step (Foldp f b s) =
      chosen (is_value f) (if is_value b then option_map (Foldp f b) (next_term s) else option_map (λ c. Foldp f c s) (next_term b)) (option_map (λ g. Foldp g b s) (next_term f)) (LeadsTo (Foldp f b s))
      (λ h. chosen (is_value b) (option_map (Foldp f b) (next_term s)) (option_map (λ c. Foldp f c s) (next_term b)) (LeadsTo (Foldp f b s))
      (λ k. inside (Foldp f b) s (λ t r. in_signal (test_value f h) (test_value b k) r) (next_step s))
      (λ k. inside (λ c. Foldp f c s) b (λ c r. in_base (test_value f h) r) (next_step b)))
      (λ h. inside (λ g. Foldp g b s) f (λ g r. in_foldp_function r) (next_step f))
  next_step (Async s) = inside Async s (λ t r. in_async r) (next_step s)
  next_step term.Unit = none_leads term.Unit
  next_step (Int n) = none_leads (Int n)
  next_step (Var n) = none_leads (Var n)
  next_step (Lam p b) = none_leads (Lam p b)
  next_step (Input n) = none_leads (Input n)
  next_step (Node n) = none_leads (Node n)

  next_arguments_step : (ts : CoreTerms) → ArgumentsLeadTo ts (next_arguments ts)
  next_arguments_step End = λ us h. cc
  next_arguments_step (More t ts) =
      chosen (is_signal_term t) (option_map (More t) (next_arguments ts)) (option_map (λ u. More u ts) (next_term t)) (ArgumentsLeadTo (More t ts))
      (λ h. rest_leads t ts (test_signal t h) (next_arguments_step ts)) (λ h. first_leads t ts (next_step t))

-- ---- no shared signal goes away

mutual
  shared_stay : {B C : List CoreTerm} {e f : CoreTerm} → Step B e C f → length B ≤ length C
  shared_stay op = omega arith
  shared_stay cond = omega arith
  shared_stay app = omega arith
  shared_stay (letv w) = omega arith
  shared_stay (share {B} {s} w) = omega (arith, length-append B (s ∷ []))
  shared_stay (in_function r) = shared_stay r
  shared_stay (in_left r) = shared_stay r
  shared_stay (in_right r) = shared_stay r
  shared_stay (in_condition r) = shared_stay r
  shared_stay (in_bound r) = shared_stay r
  shared_stay (in_lift_function r) = shared_stay r
  shared_stay (in_arguments w r) = shared_stay_there r
  shared_stay (in_foldp_function r) = shared_stay r
  shared_stay (in_base w r) = shared_stay r
  shared_stay (in_signal w x r) = shared_stay r
  shared_stay (in_async r) = shared_stay r

  shared_stay_there : {B C : List CoreTerm} {ts us : CoreTerms} → StepOfArguments B ts C us → length B ≤ length C
  shared_stay_there (in_first r) = shared_stay r
  shared_stay_there (in_rest w r) = shared_stay_there r

all_shared_stay : {n : ℕ} {B C : List CoreTerm} {e f : CoreTerm} → Steps n B e C f → length B ≤ length C
all_shared_stay none = omega arith
all_shared_stay (more r s) = omega (arith, all_shared_stay r, shared_stay s)

empty : (B : List CoreTerm) → length B ≤ 0 → B ≡ []
empty [] h = refl
empty (b ∷ B) h = absurd (omega arith)

-- the first of some steps
front : {n : ℕ} {B C : List CoreTerm} {e f : CoreTerm} → Steps (suc n) B e C f
    → (D : List CoreTerm) × (g : CoreTerm) × Step B e D g × Steps n D g C f
front (more {C} {f} none s) = (_, _, s, none)
front (more (more r q) s) = let k = front (more r q) in (k.0, k.1, k.2, more k.3 s)

-- ---- what is computed is reached, and the other way round

either : (b : Bool) (e v : CoreTerm) (x : Option CoreTerm) → (if b then Some e else x) ≡ Some v → ((b ≡ true) × (e ≡ v)) ⊎ (x ≡ Some v)
either true e v x h = inl (refl, cc)
either false e v x h = inr h

then_some : (k : CoreTerm → Option CoreTerm) (x : Option CoreTerm) (v : CoreTerm) → option_and_then k x ≡ Some v
    → (f : CoreTerm) × (x ≡ Some f) × (k f ≡ Some v)
then_some k None v h = cc
then_some k (Some f) v h = (f, refl, h)

abbrev Within : ℕ → CoreTerm → CoreTerm → Type 0
Within budget e v = (steps : ℕ) × (steps ≤ budget) × ReachesValue e steps v

at_once : (budget : ℕ) (e v : CoreTerm) → (is_value e ≡ true) × (e ≡ v) → Within budget e v
at_once budget e v h = (zero, omega arith, (subst IsValue h.1 (test_value e h.0), subst (λ x. Steps zero [] e [] x) h.1 none))

one_more : (budget : ℕ) (e f v : CoreTerm) → Step [] e [] f → Within budget f v → Within (suc budget) e v
one_more budget e f v s h = (suc h.0, omega (arith, h.1), (h.2.0, first_step s h.2.1))

within_gives : (budget : ℕ) (e v : CoreTerm) → value_within budget e ≡ Some v → Within budget e v
within_gives zero e v h = elim (either (is_value e) e v None h) [ inl now ↦ at_once zero e v now | inr never ↦ cc ]
within_gives (suc budget) e v h =
    elim (either (is_value e) e v (option_and_then (value_within budget) (next_term e)) h) [
      | inl now ↦ at_once (suc budget) e v now
      | inr later ↦ (let k = then_some (value_within budget) (next_term e) v later in
          one_more budget e k.0 v (next_step e k.0 k.1) (within_gives budget k.0 v k.2))
    ]

value_at_once : (budget : ℕ) (v : CoreTerm) → IsValue v → value_within budget v ≡ Some v
value_at_once zero v w = rw (value_test v w) refl
value_at_once (suc budget) v w = rw (value_test v w) refl

first_within : (budget n : ℕ) (e v : CoreTerm) → Steps (suc n) [] e [] v
    → (f : CoreTerm) × Step [] e [] f × Steps n [] f [] v
first_within budget n e v s =
    let k = front s in
    let none_shared = empty k.0 (all_shared_stay k.3) in
    (k.1, subst (λ D. Step [] e D k.1) none_shared k.2, subst (λ D. Steps n D k.1 [] v) none_shared k.3)

reached_within : (budget n : ℕ) (e v : CoreTerm) → n ≤ budget → IsValue v → Steps n [] e [] v → value_within budget e ≡ Some v
reached_within budget zero e v l w s = let same = steps_same none s in subst (λ x. value_within budget x ≡ Some v) (sym same.1) (value_at_once budget v w)
reached_within zero (suc n) e v l w s = absurd (omega arith)
reached_within (suc budget) (suc n) e v l w s =
    let k = first_within budget n e v s in
    rw (no_value k.1, step_next k.1) (reached_within budget n k.0 v (omega arith) w k.2)

-- ---- calls

pub call_gives : (f : CoreTerm) (arguments : List CoreTerm) (budget : ℕ) → CallGives f arguments budget (call f arguments budget)
call_gives f arguments budget = go (call f arguments budget) refl
  where
    go : (v : Option CoreTerm) → call f arguments budget ≡ v → CallGives f arguments budget v
    go (Some v) h = within_gives budget (applied f arguments) v h
    go None h = λ v n l r. let k = reached_within budget n (applied f arguments) v l r.0 r.1 in cc

pub one_call : (f : CoreTerm) (arguments : List CoreTerm) (budget : ℕ) (v : Option CoreTerm) → CallGives f arguments budget v → v ≡ call f arguments budget
one_call f arguments budget (Some v) h = sym (reached_within budget h.0 (applied f arguments) v h.1 h.2.0 h.2.1)
one_call f arguments budget None h = go (call f arguments budget) refl
  where
    go : (v : Option CoreTerm) → call f arguments budget ≡ v → None ≡ call f arguments budget
    go None e = sym e
    go (Some v) e = let k = within_gives budget (applied f arguments) v e in absurd (h v k.0 k.1 k.2)
