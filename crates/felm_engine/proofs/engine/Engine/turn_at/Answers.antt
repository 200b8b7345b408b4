use Rattle.std.proofs.Common.{◌≡◌, ◌<◌, Some, length, sym, ap, subst, ◌∙◌, arith, refl}
use Rattle.std.proofs.lemmas.List.{get_or_read}
use Rattle.felm_meaning.specs.Plans.{plan_of}
use Rattle.felm_core.specs.Positions.{HasTurn}
use Rattle.felm_core.specs.Contents.{kept_at}
use Rattle.felm_core.proofs.Heads.{turn_typed}
use Rattle.felm_engine.specs.Answers.{IsTurnAt}
use Rattle.felm_engine.specs.Inside.{position_of}
use Rattle.felm_engine.proofs.Standing.{ports_are, in_fed, heads_in, kept_in, next_in}
use Rattle.felm_engine.proofs.engine.Engine.turn_at.Goals as goal

pub overflow_add-position : goal.overflow_add-position
overflow_add-position c =
    let s = c.self.invariant in
    let node = c.args.node in
    let turn : HasTurn (plan_of c.self.inside.plan) c.self.inside.done.items node = rw (← c.self.view_is) at c.requires in
    let l : node < length c.self.inside.done.items = omega (arith, turn.node, s.sound.counts) in
    let p = next_in c.self.inside s node c.index.result.now turn.node (get_or_read c.self.inside.done.items node c.index.result.now l c.index.ensures 0) in
    omega (arith, p.1)

pub heads-requires-clause-ports : goal.heads-requires-clause-ports
heads-requires-clause-ports c =
    c.len-ports.ensures.count ∙ ap length (c.arguments_of.ensures.arguments ∙ sym (ports_are c.self.inside c.self.invariant c.args.node))

pub heads-requires-clause-fed : goal.heads-requires-clause-fed
heads-requires-clause-fed c =
    let turn : HasTurn (plan_of c.self.inside.plan) c.self.inside.done.items c.args.node = rw (← c.self.view_is) at c.requires in
    in_fed c.self.inside c.self.invariant c.args.node turn.fed

pub make-requires : goal.make-requires
make-requires c =
    let s = c.self.invariant in
    let node = c.args.node in
    let plan = plan_of c.self.inside.plan in
    let here = position_of c.self.inside in
    let turn : HasTurn plan here.done node = rw (← c.self.view_is) at c.requires in
    let kept : kept_at plan here node ≡ Some c.in_ok-previous.previous =
    kept_in c.self.inside s node c.index-2.result.now turn.node ∙ ap (λ v. Some v) (sym (c.in_ok-previous.ensures.value ∙ c.index-2.ensures)) in
    turn_typed plan here s.made.graph s.sound node c.in_ok-job.job c.in_ok-previous.previous c.in_ok-inputs.inputs s.typed turn c.in_ok-job.ensures kept
    (heads_in c.self.inside s node c.in_ok-inputs.inputs c.in_ok-inputs.ensures)

pub returns : goal.returns
returns c =
    let s = c.self.invariant in
    let node = c.args.node in
    let plan = plan_of c.self.inside.plan in
    let here = position_of c.self.inside in
    let turn : HasTurn plan here.done node = rw (← c.self.view_is) at c.requires in
    let l : node < length here.done = omega (arith, turn.node, s.sound.counts) in
    let p = next_in c.self.inside s node c.index.result.now turn.node (get_or_read here.done node c.index.result.now l c.index.ensures 0) in
    let kept : kept_at plan here node ≡ Some c.in_ok-previous.previous =
    kept_in c.self.inside s node c.index-2.result.now turn.node ∙ ap (λ v. Some v) (sym (c.in_ok-previous.ensures.value ∙ c.index-2.ensures)) in
    rw (← c.self.view_is) (subst (IsTurnAt plan here node) (sym c.make.ensures) (record {
      node = refl;
      position_is = p.0;
      job = c.in_ok-job.ensures;
      previous = kept;
      inputs = heads_in c.self.inside s node c.in_ok-inputs.inputs c.in_ok-inputs.ensures;
      budget = refl;
    }))
