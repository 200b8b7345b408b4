use Rattle.std.proofs.Common.{◌≡◌, ◌*◌, ◌-◌, length, sym, ap, ◌∙◌, arith, eq-eqb, eqb-true}
use Rattle.felm_meaning.specs.Plans.{plan_of}
use Rattle.felm_core.specs.Contents.{turning}
use Rattle.felm_engine.specs.Inside.{position_of}
use Rattle.felm_engine.proofs.Counting.{turning_is, counted_settled, settled_counted}
use Rattle.felm_engine.proofs.Flags.{none-counted, counted-none}
use Rattle.felm_engine.proofs.engine.Engine.is_settled.Goals as goal

pub overflow_sub-turning : goal.overflow_sub-turning
overflow_sub-turning c =
    let s = c.self.invariant in
    (turning_is (plan_of c.self.inside.plan) s.made.graph c.len.result c.len-2.result (omega (arith, c.len.ensures, s.sound.counts))
    (c.len-2.ensures ∙ ap length s.made.sources_are)).0

pub returns-then-self-eq0 : goal.returns-then-self-eq0
returns-then-self-eq0 c =
    let s = c.self.invariant in
    let plan = plan_of c.self.inside.plan in
    let here = position_of c.self.inside in
    let turns : c.len.result - c.len-2.result ≡ turning plan.graph.nodes (length plan.graph.nodes) =
    (turning_is plan s.made.graph c.len.result c.len-2.result (omega (arith, c.len.ensures, s.sound.counts)) (c.len-2.ensures ∙ ap length s.made.sources_are)).1 in
    let events : c.len-then-self-eq0.result ≡ length here.journal = c.len-then-self-eq0.ensures in
    let all : c.len-then-self-eq0.result * (c.len.result - c.len-2.result) ≡ length here.journal * turning plan.graph.nodes (length plan.graph.nodes) =
    ap (λ n. n * (c.len.result - c.len-2.result)) events ∙ ap (λ n. length here.journal * n) turns in
    rw (← c.self.view_is) (
      (λ h. (
        none-counted here.out (sym s.counted ∙ c.if-self-eq0.true),
        counted_settled plan here s.made.graph s.sound (sym s.holds.settled_is ∙ (eqb-true _ _ h ∙ all)),
      )),
      (λ p. eq-eqb _ _ (s.holds.settled_is ∙ (settled_counted plan here s.made.graph s.sound p.1 ∙ sym all))),
    )

pub returns-else-self-eq0 : goal.returns-else-self-eq0
returns-else-self-eq0 c =
    let s = c.self.invariant in
    rw (← c.self.view_is) (
      (λ h. absurd (c.if-self-eq0.false (eqb-true _ _ h))),
      (λ p. absurd (c.if-self-eq0.false (s.counted ∙ counted-none (position_of c.self.inside).out p.0))),
    )
