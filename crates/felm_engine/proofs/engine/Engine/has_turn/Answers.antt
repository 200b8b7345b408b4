use Rattle.std.proofs.Common.{◌≡◌, ◌<◌, ℕ, Some, length, sym, ap, subst, ◌∙◌, arith}
use Rattle.std.proofs.lemmas.Bool.{false≢true}
use Rattle.std.proofs.lemmas.Option.{same_Some}
use Rattle.std.proofs.lemmas.List.{get_or_read}
use Rattle.felm_meaning.specs.Plans.{plan_of}
use Rattle.felm_meaning.specs.Nodes.{job_of}
use Rattle.felm_core.specs.Positions.{HasTurn}
use Rattle.felm_core.specs.Contents.{kept_at}
use Rattle.felm_core.specs.Laws.{heads_at}
use Rattle.felm_engine.specs.Answers.{IsTurnAt}
use Rattle.felm_engine.specs.Heads.{AreHeads}
use Rattle.felm_engine.specs.Inside.{position_of}
use Rattle.felm_engine.proofs.Standing.{ports_are, in_fed, heads_in, in_heads, kept_in, next_in, job_read}
use Rattle.felm_engine.proofs.engine.Engine.has_turn.Goals as goal

pub overflow_add-index : goal.overflow_add-index
overflow_add-index c =
    let s = c.self.invariant in
    let node = c.node-node.result in
    let turn : HasTurn (plan_of c.self.inside.plan) c.self.inside.done.items node =
    subst (HasTurn (plan_of c.self.inside.plan) c.self.inside.done.items) (sym c.node-node.ensures) (rw (← c.self.view_is) at c.requires) in
    let l : node < length c.self.inside.done.items = omega (arith, turn.node, s.sound.counts) in
    let p = next_in c.self.inside s node c.index.result.now turn.node (get_or_read c.self.inside.done.items node c.index.result.now l c.index.ensures 0) in
    omega (arith, p.1)

pub returns-then-not-is_job_of : goal.returns-then-not-is_job_of
returns-then-not-is_job_of c =
    let s = c.self.invariant in
    let node = c.node-node.result in
    let turn : HasTurn (plan_of c.self.inside.plan) c.self.inside.done.items node =
    subst (HasTurn (plan_of c.self.inside.plan) c.self.inside.done.items) (sym c.node-node.ensures) (rw (← c.self.view_is) at c.requires) in
    let job = job_read c.self.inside.plan.graph c.nodes.result.now node c.index-nodes-node.result c.nodes.ensures.nodes turn.node in
    rw (← c.self.view_is) (
      (λ h. absurd (false≢true h)),
      (λ has.
          let mine : job_of c.self.inside.plan.graph.nodes node ≡ Some c.job.result.now =
          ap (job_of c.self.inside.plan.graph.nodes) c.node-node.ensures ∙ (has.job ∙ ap (λ j. Some j) (sym c.job.ensures.job)) in
          absurd (false≢true (sym c.if-not-is_job_of.true ∙ c.is_job_of.ensures.1 (sym job ∙ mine)))),
    )

pub returns-then-not-equal_values : goal.returns-then-not-equal_values
returns-then-not-equal_values c =
    let s = c.self.invariant in
    let node = c.node-node.result in
    let plan = plan_of c.self.inside.plan in
    let here = position_of c.self.inside in
    let turn : HasTurn plan here.done node = subst (HasTurn plan here.done) (sym c.node-node.ensures) (rw (← c.self.view_is) at c.requires) in
    let kept : kept_at plan here node ≡ Some c.index-2.result.now =
    kept_in c.self.inside s node c.index-2.result.now turn.node ∙ ap (λ v. Some v) (sym c.index-2.ensures) in
    rw (← c.self.view_is) (
      (λ h. absurd (false≢true h)),
      (λ has.
          let same : c.args.turn.now.previous ≡ c.index-2.result.now = same_Some _ _ (sym has.previous ∙ (ap (kept_at plan here) (sym c.node-node.ensures) ∙ kept)) in
          absurd (false≢true (sym c.if-not-equal_values.true ∙ c.equal_values.ensures.1 (c.previous.ensures ∙ same)))),
    )

pub are_heads-requires-clause-ports : goal.are_heads-requires-clause-ports
are_heads-requires-clause-ports c =
    c.len-ports.ensures.count ∙ ap length (c.arguments_of.ensures.arguments ∙ sym (ports_are c.self.inside c.self.invariant c.node-node.result))

pub are_heads-requires-clause-fed : goal.are_heads-requires-clause-fed
are_heads-requires-clause-fed c =
    let turn : HasTurn (plan_of c.self.inside.plan) c.self.inside.done.items c.node-node.result =
    subst (HasTurn (plan_of c.self.inside.plan) c.self.inside.done.items) (sym c.node-node.ensures) (rw (← c.self.view_is) at c.requires) in
    in_fed c.self.inside c.self.invariant c.node-node.result turn.fed

pub returns : goal.returns
returns c =
    let s = c.self.invariant in
    let node = c.node-node.result in
    let plan = plan_of c.self.inside.plan in
    let here = position_of c.self.inside in
    let this = c.args.turn.now in
    let turn : HasTurn plan here.done node = subst (HasTurn plan here.done) (sym c.node-node.ensures) (rw (← c.self.view_is) at c.requires) in
    let l : node < length here.done = omega (arith, turn.node, s.sound.counts) in
    let p = next_in c.self.inside s node c.index.result.now turn.node (get_or_read here.done node c.index.result.now l c.index.ensures 0) in
    let kept : kept_at plan here node ≡ Some c.index-2.result.now =
    kept_in c.self.inside s node c.index-2.result.now turn.node ∙ ap (λ v. Some v) (sym c.index-2.ensures) in
    let job = job_read c.self.inside.plan.graph c.nodes.result.now node c.index-nodes-node.result c.nodes.ensures.nodes turn.node in
    let inputs : c.as_slice.result.now ≡ this.inputs = c.as_slice.ensures ∙ c.inputs.ensures in
    rw (← c.self.view_is) (
      (λ h. subst (λ (k : ℕ). IsTurnAt plan here k this) c.node-node.ensures (record {
        node = sym c.node-node.ensures;
        position_is = sym c.position.ensures ∙ (c.if-position-index.false ∙ p.0);
        job = job ∙ (c.is_job_of.ensures.0 c.if-not-is_job_of.false ∙ ap (λ j. Some j) c.job.ensures.job);
        previous = kept ∙ ap (λ v. Some v) (sym (sym c.previous.ensures ∙ c.equal_values.ensures.0 c.if-not-equal_values.false));
        inputs = heads_in c.self.inside s node this.inputs (subst (AreHeads c.self.inside.edges node) inputs (c.are_heads.ensures.0 h));
        budget = sym c.budget.ensures ∙ c.if-budget-self.false;
      })),
      (λ has. c.are_heads.ensures.1 (subst (AreHeads c.self.inside.edges node) (sym inputs)
          (in_heads c.self.inside s node this.inputs (ap (heads_at plan here) c.node-node.ensures ∙ has.inputs)))),
    )
