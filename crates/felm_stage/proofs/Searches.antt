-- What a search keeps.
use Rattle.std.proofs.Common.{◌≡◌, ℕ, ◌+◌, ◌≤◌, List, [], sym, subst, arith}
use Rattle.std.specs.Prelude.{Result, IfOk}
use Rattle.std.proofs.lemmas.Result.{IfOk-weaker}
use Rattle.felm_term.specs.CoreType.{Signal}
use Rattle.felm_term.specs.CoreTerm.{CoreTerm}
use Rattle.felm_term.specs.Inputs.{signal_types}
use Rattle.felm_term.specs.Reduction.{IsValue}
use Rattle.felm_laws.proofs.Formed.{shared_signals, declared_signals}
use Rattle.felm_laws.proofs.StepLaws.{steps_typed}
use Rattle.felm_laws.proofs.Progress.{signal_value}
use Rattle.felm_stage.specs.declared.frame.Frame.{Frame}
use Rattle.felm_stage.specs.declared.frame.Focus.{Focus}
use Rattle.felm_stage.specs.declared.frame.Move.{Move}
use Rattle.felm_stage.specs.declared.frame.Move.TheVariants as move
use Rattle.felm_stage.specs.declared.search.Moved.{Moved}
use Rattle.felm_stage.specs.declared.search.Moved.TheVariants as moved
use Rattle.felm_stage.specs.declared.contract.Redex.{Redex}
use Rattle.felm_stage.specs.declared.search.Found.TheVariants as found
use Rattle.felm_stage.specs.Frames.{around, plug, AreGood, weight}
use Rattle.felm_stage.specs.Redex.{redex_term}
use Rattle.felm_stage.specs.Moves.{IsTypedWhole, Takes, TakesMore, focus_term, work_of, IsMove, Follows, Leads, Finds, IsOnTheWay}
use Rattle.felm_stage.proofs.Plugs.{plug-push, weight-push, good-push, step_plug}
use Rattle.felm_stage.proofs.Runs.{takes_then, takes_more_then, takes_in, takes_more_in}

-- ---- a move at a place is one of the whole

module _ (old mid : List Frame) (from : Focus) (t : CoreTerm) (most left after : ℕ) (good : AreGood mid)
    (same : plug old (focus_term from) ≡ plug mid t) (work : weight mid + most ≤ weight old + work_of from) where
  at_place : (e : CoreTerm) → Takes left after t e → Takes left after (plug old (focus_term from)) (plug mid e)
  at_place e h = subst (λ x. Takes left after x (plug mid e)) (sym same) (takes_in (plug mid) (λ B C e f s. step_plug mid good s) left after t e h)

  pub leads : (m : Move) (new : List Frame) (n : Moved) → IsMove t most left after m → Follows mid m new n → Leads old from left new after n
  leads (move.Into f part) new n h k =
      rw (k.0, k.1) (
        subst (λ x. Takes left after (plug old (focus_term from)) x) (sym (plug-push mid f part)) (at_place (around f part) h.0),
        good-push mid f good h.1,
        tt,
        omega (arith, work, h.2, weight-push mid f),
      )
  leads (move.Value v) new n h k = rw (k.0, k.1) (at_place v h.0, good, h.1, omega (arith, work, h.2))
  leads (move.Signal s) new n h k = rw (k.0, k.1) (at_place s h.0, good, h.1, omega (arith, work, h.2))
  leads (move.Ready r) new n h k = rw (k.0, k.1) (at_place (redex_term r) h.0, good, h.1)
  leads move.Over new n h k =
      rw k (subst (TakesMore left) (sym same) (takes_more_in (plug mid) (λ B C e f s. step_plug mid good s) left t h))

  -- what is followed, if there was memory
  pub all_lead : {E : Type 0} (m : Move) (new : List Frame) (r : Result Moved E) → IsMove t most left after m → IfOk r (Follows mid m new)
      → IfOk r (Leads old from left new after)
  all_lead m new r h = IfOk-weaker r (Follows mid m new) (Leads old from left new after) (λ n k. leads m new n h k)

-- a whole that is a value has no signal's type
pub no_value_whole : (old : List Frame) (v : CoreTerm) → old ≡ [] → IsTypedWhole (plug old v) → ¬ IsValue v
no_value_whole old v e h w =
    let k = subst (λ fs. IsTypedWhole (plug fs v)) e h in
    let inputs = signal_types k.0 in
    let wi = declared_signals k.0 in
    signal_value inputs k.3.0 wi (shared_signals inputs [] k.1 k.3.0 wi tt k.3.1) [] v k.2 w k.3.2

-- ---- move after move

still_typed : (left after : ℕ) (e f : CoreTerm) → Takes left after e f → IsTypedWhole e → IsTypedWhole f
still_typed left after e f r h = (h.0, h.1, h.2, steps_typed (signal_types h.0) (declared_signals h.0) (Signal h.2) (r.2 h.1) h.3)

module _ (e : CoreTerm) (left : ℕ) (frames : List Frame) (f : Focus) (middle : ℕ) (w : IsOnTheWay e left frames f middle) (new : List Frame) (after : ℕ) where
  onward : (g : CoreTerm) → Takes middle after (plug frames (focus_term f)) g → Takes left after e g
  onward g r = takes_then left middle after e (plug frames (focus_term f)) g w.taken r

  pub goes_on : (g : Focus) → Leads frames f middle new after (moved.On g) → IsOnTheWay e left new g after
  goes_on g h = record {
    taken = onward (plug new (focus_term g)) h.0;
    typed = still_typed middle after (plug frames (focus_term f)) (plug new (focus_term g)) h.0 w.typed;
    good = h.1;
    focus = h.2;
  }

  pub is_ready : (r : Redex) → Leads frames f middle new after (moved.Ready r) → Finds e left new after (found.Ready r)
  is_ready r h = (onward (plug new (redex_term r)) h.0, h.1, h.2)

  pub is_done : (s : CoreTerm) → Leads frames f middle new after (moved.Done s) → Finds e left new after (found.Done s)
  is_done s h = (onward s h.0, h.1, h.2)

  pub is_over : Leads frames f middle new after moved.Over → Finds e left new after found.Over
  is_over h = takes_more_then left middle e (plug frames (focus_term f)) w.taken h
