-- What the code knows of a call that it reduces.
use Rattle.std.proofs.Common.{◌≡◌, ℕ, suc, ◌+◌, ◌≤◌, Bool, true, false, ◌||◌, Option, Some, None, List, [], ◌∷◌, ◌++◌, length, map, take, get_or, refl, sym, ap, ◌∙◌, subst, arith}
use Rattle.std.specs.List.{slice_get, list_any}
use Rattle.std.specs.Option.{option_map}
use Rattle.std.proofs.lemmas.List.{map-append}
use Rattle.std.proofs.lemmas.List.Folds.{list_any_at, list_any_more}
use Rattle.std.proofs.lemmas.Option.{get_or_from_slice_get, same_Some, slice_get_within}
use Rattle.felm_term.specs.CoreTerm.{CoreTerm, CoreTerms, Int, Var, Lam, App, Bin, If, Let, Input, Node, Lift, Foldp, Async}
use Rattle.felm_term.specs.CoreTerm as term
use Rattle.felm_term.specs.Typing.{HasSimpleType, IsFunction}
use Rattle.felm_term.specs.Call.{applied, ReachesValue}
use Rattle.felm_term.specs.Values.{term_of}
use Rattle.felm_term.specs.declared.value.Value.{Value}
use Rattle.felm_term.specs.declared.value.Value.TheVariants as value
use Rattle.felm_term.specs.declared.message.Message.{Message}
use Rattle.felm_laws.specs.Calls.{value_within}
use Rattle.felm_laws.specs.OutcomeLaws.{HasValueWithin}
use Rattle.felm_laws.proofs.CallLaws.{one_call}
use Rattle.felm_reduce.specs.Search.{HoldsFunction}
use Rattle.felm_graph.specs.Layout.{value_in}
use Rattle.felm_meaning.specs.declared.job.Job.{Job}
use Rattle.felm_meaning.specs.declared.job.Job.TheVariants as job
use Rattle.felm_meaning.specs.Step.{call_value, lift_step, foldp_step, step}
use Rattle.felm_meaning.specs.Types.{IsCallable, TurnFits}
use Rattle.felm_meaning.specs.Turns.{TurnValue}
use Rattle.felm_meaning.proofs.Rows.{take_all}
use Rattle.felm_meaning.proofs.Plain.{take-more}
use Rattle.felm_meaning.proofs.Types.{call_has_type}

-- ---- values of reductions

function_back : (f : CoreTerm) → IsFunction f → value_in f ≡ value.Fun f
function_back (Lam p b) h = refl
function_back term.Unit h = absurd h
function_back (Int n) h = absurd h
function_back (Var n) h = absurd h
function_back (App f a) h = absurd h
function_back (Bin o a b) h = absurd h
function_back (If c a b) h = absurd h
function_back (Let a b) h = absurd h
function_back (Input n) h = absurd h
function_back (Node n) h = absurd h
function_back (Lift f ts) h = absurd h
function_back (Foldp f b s) h = absurd h
function_back (Async s) h = absurd h

value_back : (v : Value) → HoldsFunction v → value_in (term_of v) ≡ v
value_back value.Unit h = refl
value_back (value.Int n) h = refl
value_back (value.Fun f) h = function_back f h

pub value_is : (budget : ℕ) (e : CoreTerm) (v : Value) (steps : ℕ) → steps ≤ budget → ReachesValue e steps (term_of v) → HoldsFunction v
    → Some v ≡ option_map value_in (value_within budget e)
value_is budget e v steps l h f =
    ap (λ (x : Value). Some x) (sym (value_back v f)) ∙ ap (λ (o : Option CoreTerm). option_map value_in o) (one_call e [] budget (Some (term_of v)) (steps, l, h))

pub over_is : (budget : ℕ) (e : CoreTerm) → ¬ HasValueWithin budget e → None ≡ option_map value_in (value_within budget e)
over_is budget e h = ap (λ (o : Option CoreTerm). option_map value_in o) (one_call e [] budget None (λ v steps l r. h (v, steps, l, r)))

-- ---- applications

applied-push : (f : CoreTerm) (xs : List CoreTerm) (x : CoreTerm) → applied f (xs ++ x ∷ []) ≡ App (applied f xs) x
applied-push f [] x = refl
applied-push f (y ∷ ys) x = applied-push (App f y) ys x

module _ {X : Type 0} (f : Value) (value : X → Value) (xs : List X) where
  -- on one more argument
  pub argument_more : (i : ℕ) (x : X) (before after : CoreTerm) → slice_get xs i ≡ Some x
      → before ≡ applied (term_of f) (map term_of (map value (take i xs))) → after ≡ App before (term_of (value x))
      → after ≡ applied (term_of f) (map term_of (map value (take (i + 1) xs)))
  argument_more i x before after at b a =
      let e : i + 1 ≡ suc i = omega arith in
      let t : take (i + 1) xs ≡ take i xs ++ x ∷ [] = ap (λ (n : ℕ). take n xs) e ∙ take-more xs i x at in
      let m : map term_of (map value (take (i + 1) xs)) ≡ map term_of (map value (take i xs)) ++ term_of (value x) ∷ [] =
      ap (λ (ys : List X). map term_of (map value ys)) t ∙
      (ap (map term_of) (map-append value (take i xs) (x ∷ [])) ∙ map-append term_of (map value (take i xs)) (value x ∷ [])) in
      a ∙ (ap (λ (z : CoreTerm). App z (term_of (value x))) b ∙
      (sym (applied-push (term_of f) (map term_of (map value (take i xs))) (term_of (value x))) ∙ ap (applied (term_of f)) (sym m)))

  -- on all of them
  pub arguments_all : (i : ℕ) (e : CoreTerm) → length xs ≤ i → e ≡ applied (term_of f) (map term_of (map value (take i xs)))
      → e ≡ applied (term_of f) (map term_of (map value xs))
  arguments_all i e l h = h ∙ ap (λ (ys : List X). applied (term_of f) (map term_of (map value ys))) (take_all xs i l)

pub application_typed : (f : Value) (values : List Value) (e : CoreTerm) → IsCallable f values → e ≡ applied (term_of f) (map term_of values) → HasSimpleType e
application_typed f values e h q = subst HasSimpleType (sym q) (h.0, h.1, call_has_type f values h.0 h.2)

pub call_is : (f : Value) (values : List Value) (b : ℕ) (e : CoreTerm) → e ≡ applied (term_of f) (map term_of values)
    → option_map value_in (value_within b e) ≡ call_value f values b
unfolding call_value
call_is f values b e q = ap (λ (t : CoreTerm). option_map value_in (value_within b t)) q

-- ---- arguments

module _ {X : Type 0} (p : X → Bool) (xs : List X) (i : ℕ) where
  -- one that passes a test
  pub any_here : (x : X) → slice_get xs i ≡ Some x → p x ≡ true → list_any p xs ≡ true
  any_here x here h = list_any_at p xs i x (slice_get_within xs i x here) (ap p (get_or_from_slice_get xs i x x here) ∙ h)

  -- one more that fails it
  pub none_more : (x : X) → slice_get xs i ≡ Some x → list_any p (take i xs) ≡ false → p x ≡ false → list_any p (take (i + 1) xs) ≡ false
  none_more x here b h =
      list_any_more p xs i x (slice_get_within xs i x here) ∙
      (ap (λ (t : Bool). t || p (get_or xs i x)) b ∙ (ap p (get_or_from_slice_get xs i x x here) ∙ h))

-- ---- jobs

pub lift_steps : (t : TurnValue) (w : Job) (f old : Value) (inputs : List Message) (b : ℕ) → w ≡ t.job → w ≡ job.Lift f → old ≡ t.previous
    → inputs ≡ t.inputs → b ≡ t.budget → lift_step f old inputs b ≡ step t.job t.previous t.inputs t.budget
unfolding step
lift_steps t w f old inputs b j l o i u = let e : t.job ≡ job.Lift f = sym j ∙ l in rw (e, ← o, ← i, ← u) refl

pub foldp_steps : (t : TurnValue) (w : Job) (f old : Value) (inputs : List Message) (b : ℕ) → w ≡ t.job → w ≡ job.Foldp f → old ≡ t.previous
    → inputs ≡ t.inputs → b ≡ t.budget → foldp_step f old inputs b ≡ step t.job t.previous t.inputs t.budget
unfolding step
foldp_steps t w f old inputs b j l o i u = let e : t.job ≡ job.Foldp f = sym j ∙ l in rw (e, ← o, ← i, ← u) refl

-- a foldp's turn has one message
pub one_input : (w : Job) (f old : Value) (ms : List Message) (m : Message) → TurnFits w old ms → w ≡ job.Foldp f → slice_get ms 0 ≡ Some m → m ∷ [] ≡ ms
one_input w f old ms m h q e =
    let t : TurnFits (job.Foldp f) old ms = subst (λ (x : Job). TurnFits x old ms) q h in
    let s : m ≡ t.called.0 = same_Some m t.called.0 (sym e ∙ ap (λ (xs : List Message). slice_get xs 0) t.called.1) in
    ap (λ (x : Message). x ∷ []) s ∙ sym t.called.1
