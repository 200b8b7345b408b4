-- What the steps of stage one keep, and its ends.
use Rattle.std.proofs.Common.{◌≡◌, ℕ, suc, ◌+◌, ◌-◌, ◌≤◌, List, [], ◌∷◌, length, Some, refl, subst, arith, length-append}
use Rattle.felm_term.specs.CoreType.{Signal}
use Rattle.felm_term.specs.CoreTerm.{CoreTerm}
use Rattle.felm_term.specs.Inputs.{signal_types}
use Rattle.felm_term.specs.Reduction.{Step, cond, app, letv, share, Steps, more}
use Rattle.felm_term.specs.declared.input.InputDecl.{InputDecl}
use Rattle.felm_laws.proofs.Formed.{declared_signals}
use Rattle.felm_laws.proofs.StepLaws.{steps_then, steps_typed, steps_signals, signal_is_finished, no_more}
use Rattle.felm_graph.specs.FinishedPair.{FinishedPair, ReachesFinished, IsTyped}
use Rattle.felm_graph.proofs.Finishes.{finish_once}
use Rattle.felm_stage.specs.declared.frame.Frame.{Frame}
use Rattle.felm_stage.specs.declared.contract.Redex.{Redex}
use Rattle.felm_stage.specs.declared.contract.Redex.TheVariants as redex
use Rattle.felm_stage.specs.declared.search.Found.TheVariants as found
use Rattle.felm_stage.specs.declared.stage.Staged.{Staged}
use Rattle.felm_stage.specs.declared.stage.Staged.TheVariants as staged
use Rattle.felm_stage.specs.Frames.{plug}
use Rattle.felm_stage.specs.Redex.{redex_term, IsReady, contractum, shared_after}
use Rattle.felm_stage.specs.Moves.{IsTypedWhole, Takes, Finds}
use Rattle.felm_stage.specs.Outcome.{IsProgram, IsStart, TakesMoreThan, IsGraphOf, IsLarge, IsStaged, IsOnlyStaged, IsUnderWay}
use Rattle.felm_stage.proofs.Plugs.{step_plug}

redex_steps : (B : List CoreTerm) (r : Redex) → IsReady r → Step B (redex_term r) (shared_after B r) (contractum B r)
redex_steps B (redex.Conditional n a b) h = cond
redex_steps B (redex.Application p a b) h = app
redex_steps B (redex.Let v a) h = letv h
redex_steps B (redex.Share s a) h = share h

-- a step shares one signal at most, so node numbers stay small
few_shared : (B : List CoreTerm) (r : Redex) → length (shared_after B r) ≤ length B + 1
few_shared B (redex.Conditional n a b) = omega arith
few_shared B (redex.Application p a b) = omega arith
few_shared B (redex.Let v a) = omega arith
few_shared B (redex.Share s a) = omega (arith, length-append B (s ∷ []))

-- ---- between two steps

module _ (budget : ℕ) (e : CoreTerm) (B : List CoreTerm) (frames : List Frame) (t : CoreTerm) (left : ℕ) (w : IsUnderWay budget e B frames t left) where
  pub still_typed : IsStart e → IsTypedWhole (plug frames t)
  still_typed h = (h.0, B, h.1.0, steps_typed (signal_types h.0) (declared_signals h.0) (Signal h.1.0) w.taken ([], refl, h.1.1))

  module _ (new : List Frame) (after : ℕ) where
    -- all steps up to a place that a search finds
    so_far : (f : CoreTerm) → Takes left after (plug frames t) f → (n : ℕ) × (budget ≡ after + n) × (w.steps ≤ n) × Steps n [] e B f
    so_far f h = (w.steps + h.0, omega (arith, w.count, h.1), omega arith, steps_then w.taken (h.2 B))

    one_more : (r : Redex) → Finds (plug frames t) left new after (found.Ready r)
        → (n : ℕ) × (budget ≡ after + n) × (w.steps ≤ n) × Steps (suc n) [] e (shared_after B r) (plug new (contractum B r))
    one_more r h =
        let s = so_far (plug new (redex_term r)) h.0 in
        (s.0, s.1, s.2, more s.3 (step_plug new h.1 (redex_steps B r h.2)))

    pub next : (r : Redex) (C : List CoreTerm) (u : CoreTerm) (rest : ℕ) → Finds (plug frames t) left new after (found.Ready r)
        → after ≡ rest + 1 → C ≡ shared_after B r → u ≡ contractum B r → IsUnderWay budget e C new u rest
    next r C u rest h l c d =
        let s = one_more r h in
        rw (c, d) (record {
          steps = suc s.0;
          count = omega (arith, s.1, l);
          taken = s.3;
          few = omega (arith, few_shared B r, w.few, s.2);
          good = h.1;
        })

    pub no_step_left : (r : Redex) → Finds (plug frames t) left new after (found.Ready r) → after ≡ 0 → TakesMoreThan budget e
    no_step_left r h z =
        let s = one_more r h in
        let same : s.0 ≡ budget = omega (arith, s.1, z) in
        (shared_after B r, plug new (contractum B r), subst (λ n. Steps (suc n) [] e (shared_after B r) (plug new (contractum B r))) same s.3)

    pub part_over : Finds (plug frames t) left new after found.Over → TakesMoreThan budget e
    part_over h =
        let same : w.steps + suc left ≡ suc budget = omega (arith, w.count) in
        (B, h.0, subst (λ n. Steps n [] e B h.0) same (steps_then w.taken (h.1 B)))

    pub finished : (s : CoreTerm) → Finds (plug frames t) left new after (found.Done s)
        → (budget - after ≤ budget) × ReachesFinished e (record { shared = B; last = s; steps = budget - after })
    finished s h =
        let k = so_far s h.0 in
        let same : k.0 ≡ budget - after = omega (arith, k.1) in
        let taken = subst (λ n. Steps n [] e B s) same k.3 in
        (omega arith, (signal_is_finished B s (steps_signals taken tt) h.1, taken))

-- ---- the end

pub pair_typed : (inputs : List InputDecl) (e : CoreTerm) (pair : FinishedPair) → IsProgram inputs e → ReachesFinished e pair
    → IsTyped inputs pair.shared pair.last
pair_typed inputs e pair h r =
    (Signal h.0, steps_typed (signal_types inputs) (declared_signals inputs) (Signal h.0) r.1 ([], refl, h.1))

one_pair : (e : CoreTerm) (p q : FinishedPair) → ReachesFinished e p → ReachesFinished e q → p ≡ q
one_pair e p q h k =
    let same : Some p ≡ Some q = finish_once e (p.steps + q.steps) (Some p) (Some q) (omega arith, h) (omega arith, k) in cc

pub only_staged : (inputs : List InputDecl) (budget : ℕ) (e : CoreTerm) (r : Staged) → IsStaged inputs budget e r → IsOnlyStaged inputs budget e r
only_staged inputs budget e (staged.Graph g steps) h =
    λ q k. subst (λ p. IsGraphOf inputs p g × (steps ≡ p.steps)) (one_pair e h.0 q h.1.1 k) (h.2, h.3)
only_staged inputs budget e staged.Large h =
    λ q k. subst (λ p. (p.steps ≤ budget) × IsLarge inputs p) (one_pair e h.0 q h.1.1 k) (h.1.0, h.2)
only_staged inputs budget e staged.Over h =
    λ q l k. (let longest = no_more k.1 k.0.1 h.2 in omega (arith, l, longest))
