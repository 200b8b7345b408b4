-- What frames keep.
use Rattle.std.proofs.Common.{◌≡◌, ◌+◌, List, [], ◌∷◌, ◌++◌, refl, ap, ◌∙◌, subst, arith}
use Rattle.felm_term.specs.CoreType.{CoreType, Arrow, Signal}
use Rattle.felm_term.specs.CoreTerm.{CoreTerm, CoreTerms, More}
use Rattle.felm_term.specs.Typing.{HasType, AreTakenBy}
use Rattle.felm_term.specs.Inputs.{signal_types}
use Rattle.felm_term.specs.Reduction.{AreSharedSignals, Step, StepOfArguments, in_function, in_bound, in_arguments, in_signal, in_async, in_first, in_rest}
use Rattle.felm_laws.proofs.Formed.{shared_signals, declared_signals}
use Rattle.felm_stage.specs.declared.frame.Frame.{Frame}
use Rattle.felm_stage.specs.declared.frame.Frame.TheVariants as frame
use Rattle.felm_stage.specs.Frames.{behind, around, plug, IsGood, AreGood, work_in, weight}
use Rattle.felm_stage.specs.Moves.{IsTypedPart, IsTypedWhole}

pub plug-push : (fs : List Frame) (f : Frame) (t : CoreTerm) → plug (fs ++ f ∷ []) t ≡ plug fs (around f t)
plug-push [] f t = refl
plug-push (g ∷ fs) f t = ap (around g) (plug-push fs f t)

pub weight-push : (fs : List Frame) (f : Frame) → weight (fs ++ f ∷ []) ≡ weight fs + work_in f
weight-push [] f = omega arith
weight-push (g ∷ fs) f = omega (arith, weight-push fs f)

pub good-push : (fs : List Frame) (f : Frame) → AreGood fs → IsGood f → AreGood (fs ++ f ∷ [])
good-push [] f h k = (k, tt)
good-push (g ∷ fs) f h k = (h.0, good-push fs f h.1 k)

good-pop : (fs : List Frame) (f : Frame) → AreGood (fs ++ f ∷ []) → AreGood fs × IsGood f
good-pop [] f h = (tt, h.0)
good-pop (g ∷ fs) f h = let k = good-pop fs f h.1 in ((h.0, k.0), k.1)

-- ---- the innermost frame taken off

module _ (old new : List Frame) (f : Frame) (e : old ≡ new ++ f ∷ []) where
  pub popped : (t : CoreTerm) → plug old t ≡ plug new (around f t)
  popped t = ap (λ fs. plug fs t) e ∙ plug-push new f t

  pub lighter : weight old ≡ weight new + work_in f
  lighter = ap weight e ∙ weight-push new f

  pub good_parts : AreGood old → AreGood new × IsGood f
  good_parts h = good-pop new f (subst AreGood e h)

-- ---- steps

step_argument : (done : List CoreTerm) (rest : CoreTerms) {B C : List CoreTerm} {e f : CoreTerm} → AreSharedSignals done → Step B e C f
    → StepOfArguments B (behind done (More e rest)) C (behind done (More f rest))
step_argument [] rest h s = in_first s
step_argument (t ∷ done) rest h s = in_rest h.0 (step_argument done rest h.1 s)

step_around : (f : Frame) {B C : List CoreTerm} {e g : CoreTerm} → IsGood f → Step B e C g → Step B (around f e) C (around f g)
step_around (frame.Argument a) h s = in_function s
step_around (frame.Body b) h s = in_bound s
step_around (frame.Arguments f done rest) h s = in_arguments h.0 (step_argument done.items rest h.1 s)
step_around (frame.Foldp f b) h s = in_signal h.0 h.1 s
step_around frame.Async h s = in_async s

-- a step at the place is a step of the whole
pub step_plug : (fs : List Frame) {B C : List CoreTerm} {e f : CoreTerm} → AreGood fs → Step B e C f → Step B (plug fs e) C (plug fs f)
step_plug [] h s = s
step_plug (f ∷ fs) h s = step_around f h.0 (step_plug fs h.1 s)

-- ---- types

module _ (inputs shared : List CoreType) where
  pub argument_typed : (done : List CoreTerm) (t : CoreTerm) (rest : CoreTerms) (p r : CoreType)
      → AreTakenBy inputs shared [] p (behind done (More t rest)) r → (q : CoreType) × HasType inputs shared [] t (Signal q)
  argument_typed [] t rest p r h = (h.0, h.3)
  argument_typed (d ∷ done) t rest p r h = argument_typed done t rest h.1 r h.4

  around_typed : (f : Frame) (t : CoreTerm) (u : CoreType) → HasType inputs shared [] (around f t) u → (v : CoreType) × HasType inputs shared [] t v
  around_typed (frame.Argument a) t u h = (Arrow h.0 u, h.1)
  around_typed (frame.Body b) t u h = (h.0, h.1)
  around_typed (frame.Arguments f done rest) t u h = let k = argument_typed done.items t rest h.0 h.1 h.5 in (Signal k.0, k.1)
  around_typed (frame.Foldp f b) t u h = (Signal h.0, h.6)
  around_typed frame.Async t u h = (Signal h.0, h.3)

  plug_typed : (fs : List Frame) (t : CoreTerm) (u : CoreType) → HasType inputs shared [] (plug fs t) u → (v : CoreType) × HasType inputs shared [] t v
  plug_typed [] t u h = (u, h)
  plug_typed (f ∷ fs) t u h = let k = around_typed f (plug fs t) u h in plug_typed fs t k.0 k.1

-- what is at the place has a type
pub part_typed : (fs : List Frame) (t : CoreTerm) → IsTypedWhole (plug fs t) → IsTypedPart t
part_typed fs t h =
    let inputs = signal_types h.0 in
    let shared = h.3.0 in
    let k = plug_typed inputs shared fs t (Signal h.2) h.3.2 in
    (h.0, shared, k.0, shared_signals inputs [] h.1 shared (declared_signals h.0) tt h.3.1, k.1)

-- so has the term around it
pub around_part_typed : (old new : List Frame) (f : Frame) (t : CoreTerm) → old ≡ new ++ f ∷ [] → IsTypedWhole (plug old t) → IsTypedPart (around f t)
around_part_typed old new f t e h = part_typed new (around f t) (subst IsTypedWhole (popped old new f e t) h)
