-- What frames keep.
use Rattle.std.proofs.Common.{◌≡◌, ℕ, suc, ◌+◌, ◌≤◌, List, [], ◌∷◌, ◌++◌, refl, sym, ap, ◌∙◌, subst, arith, ℤ, Box, Global}
use Rattle.felm_term.specs.TermView.{term_of_form}
use Rattle.felm_term.specs.declared.op.Op.{Op}
use Rattle.felm_term.specs.declared.term.TermForm.{TermForm}
use Rattle.felm_term.specs.declared.term.TermForm.TheVariants as form
use Rattle.felm_term.specs.CoreType.{CoreType}
use Rattle.felm_term.specs.CoreTerm.{CoreTerm, Int, Bin}
use Rattle.felm_term.specs.Typing.{HasSimpleType}
use Rattle.felm_term.specs.Reduction.{IsValue, Steps, more, Step, op, cond, app, letv, in_function, in_left, in_right, in_condition, in_bound}
use Rattle.felm_laws.proofs.SimpleParts.{no_variable, no_input, no_node, no_lift, no_foldp, no_async, simple_function, simple_left, simple_right, simple_condition, simple_bound, simple_next}
use Rattle.felm_reduce.specs.declared.frame.Frame.{Frame}
use Rattle.felm_reduce.specs.declared.frame.Frame.TheVariants as frame
use Rattle.felm_reduce.specs.declared.search.Head.{Head}
use Rattle.felm_reduce.specs.declared.search.Head.TheVariants as head
use Rattle.felm_reduce.specs.declared.contract.Redex.{Redex}
use Rattle.felm_reduce.specs.declared.contract.Redex.TheVariants as redex
use Rattle.felm_reduce.specs.Frames.{around, plug, work, work_in, weight}
use Rattle.felm_reduce.specs.Redex.{redex_term, contractum, IsReady}
use Rattle.felm_reduce.specs.Search.{head_term}

pub plug-push : (fs : List Frame) (f : Frame) (t : CoreTerm) → plug (fs ++ f ∷ []) t ≡ plug fs (around f t)
plug-push [] f t = refl
plug-push (g ∷ fs) f t = ap (around g) (plug-push fs f t)

pub weight-push : (fs : List Frame) (f : Frame) → weight (fs ++ f ∷ []) ≡ weight fs + work_in f
weight-push [] f = omega arith
weight-push (g ∷ fs) f = omega (arith, weight-push fs f)

pub ruleset frames = (plug-push, weight-push)

-- ---- steps

step_around : {B C : List CoreTerm} (f : Frame) {e e' : CoreTerm} → Step B e C e' → Step B (around f e) C (around f e')
step_around (frame.Argument a) s = in_function s
step_around (frame.RightOperand o b) s = in_left s
step_around (frame.LeftOperand o n) s = in_right s
step_around (frame.Branches a b) s = in_condition s
step_around (frame.Body b) s = in_bound s

pub step_plug : {B C : List CoreTerm} (fs : List Frame) {e e' : CoreTerm} → Step B e C e' → Step B (plug fs e) C (plug fs e')
step_plug [] s = s
step_plug (f ∷ fs) s = step_around f (step_plug fs s)

pub redex_steps : (B : List CoreTerm) (r : Redex) → IsReady r → Step B (redex_term r) B (contractum r)
redex_steps B (redex.Operation o a b) h = op
redex_steps B (redex.Conditional n a b) h = cond
redex_steps B (redex.Application p b a) h = app
redex_steps B (redex.Let v b) h = letv h

pub one_more : (n : ℕ) (t whole : CoreTerm) (new : List Frame) (r : Redex) → Steps n [] t [] whole → plug new (redex_term r) ≡ whole → IsReady r
    → Steps (suc n) [] t [] (plug new (contractum r))
one_more n t whole new r s e h = more (subst (λ w. Steps n [] t [] w) (sym e) s) (step_plug new (redex_steps [] r h))

-- ---- types

pub around_typed : (f : Frame) (t : CoreTerm) → HasSimpleType (around f t) → HasSimpleType t
around_typed (frame.Argument a) t h = simple_function t a h
around_typed (frame.RightOperand o b) t h = simple_left o t b h
around_typed (frame.LeftOperand o n) t h = simple_right o (Int n) t h
around_typed (frame.Branches a b) t h = simple_condition t a b h
around_typed (frame.Body b) t h = simple_bound t b h

pub plug_typed : (fs : List Frame) (t : CoreTerm) → HasSimpleType (plug fs t) → HasSimpleType t
plug_typed [] t h = h
plug_typed (f ∷ fs) t h = plug_typed fs t (around_typed f (plug fs t) h)

pub typed_more : (whole : CoreTerm) (new : List Frame) (r : Redex) → HasSimpleType whole → plug new (redex_term r) ≡ whole → IsReady r
    → HasSimpleType (plug new (contractum r))
typed_more whole new r t e h = simple_next (step_plug new (redex_steps [] r h)) (subst HasSimpleType (sym e) t)

-- a closed term of a simple type has one of seven forms
pub stuck : (f : TermForm) → HasSimpleType (term_of_form f) → (f ≡ form.Unit → ⊥) → ((n : ℤ) → f ≡ form.Int n → ⊥)
    → ((p : CoreType) (b : Box CoreTerm Global) → f ≡ form.Lam p b → ⊥) → ((a b : Box CoreTerm Global) → f ≡ form.App a b → ⊥)
    → ((o : Op) (a b : Box CoreTerm Global) → f ≡ form.Bin o a b → ⊥) → ((a b c : Box CoreTerm Global) → f ≡ form.If a b c → ⊥)
    → ((a b : Box CoreTerm Global) → f ≡ form.Let a b → ⊥) → ⊥
stuck form.Unit h nu ni nl na nb nc nt = nu refl
stuck (form.Int n) h nu ni nl na nb nc nt = ni n refl
stuck (form.Var n) h nu ni nl na nb nc nt = no_variable n h
stuck (form.Lam p b) h nu ni nl na nb nc nt = nl p b refl
stuck (form.App a b) h nu ni nl na nb nc nt = na a b refl
stuck (form.Bin o a b) h nu ni nl na nb nc nt = nb o a b refl
stuck (form.If a b c) h nu ni nl na nb nc nt = nc a b c refl
stuck (form.Let a b) h nu ni nl na nb nc nt = nt a b refl
stuck (form.Input n) h nu ni nl na nb nc nt = no_input n h
stuck (form.Node n) h nu ni nl na nb nc nt = no_node n h
stuck (form.Lift f ts) h nu ni nl na nb nc nt = no_lift f.value ts.value h
stuck (form.Foldp f b s) h nu ni nl na nb nc nt = no_foldp f.value b.value s.value h
stuck (form.Async s) h nu ni nl na nb nc nt = no_async s.value h

-- ---- up from a value

pub popped : (old new : List Frame) (f : Frame) (t : CoreTerm) → old ≡ new ++ f ∷ [] → plug old t ≡ plug new (around f t)
popped old new f t e = ap (λ fs. plug fs t) e ∙ plug-push new f t

pub inner_typed : (old new : List Frame) (f : Frame) (t : CoreTerm) → old ≡ new ++ f ∷ [] → HasSimpleType (plug old t) → HasSimpleType (around f t)
inner_typed old new f t e h = plug_typed new (around f t) (subst HasSimpleType (popped old new f t e) h)

lighter : (old new : List Frame) (f : Frame) → old ≡ new ++ f ∷ [] → weight old ≡ weight new + work_in f
lighter old new f e = ap weight e ∙ weight-push new f

-- the left operand is a number: on to the right one
pub to_right : (old mid new : List Frame) (o : Op) (b t : CoreTerm) (n : ℤ) → old ≡ mid ++ frame.RightOperand o b ∷ [] → t ≡ Int n
    → new ≡ mid ++ frame.LeftOperand o n ∷ [] → (plug new b ≡ plug old t) × (weight new + work b ≤ weight old)
to_right old mid new o b t n e h k = (
  popped new mid (frame.LeftOperand o n) b k ∙ sym (popped old mid (frame.RightOperand o b) t e ∙ ap (λ x. plug mid (Bin o x b)) h),
  omega (arith, lighter old mid (frame.RightOperand o b) e, lighter new mid (frame.LeftOperand o n) k),
)

pub head_value : (h : Head) → IsValue (head_term h)
head_value head.Unit = tt
head_value (head.Int n) = tt
head_value (head.Lam p b) = tt
