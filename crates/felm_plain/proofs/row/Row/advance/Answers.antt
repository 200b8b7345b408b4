use Rattle.std.proofs.Common.{◌<◌, ◌≤◌, ◌∙◌, refl, ap, subst, arith, length, drop, Bool}
use Rattle.felm_meaning.specs.Meaning.{message_of, row_to}
use Rattle.felm_plain.specs.Rows.{row_of, Sends}
use Rattle.felm_plain.proofs.Rows.{part_here, part_length, part_may, part_more, part_rest, part_ends, part_whole}
use Rattle.felm_plain.proofs.row.Row.advance.Goals as goal

pub loop-node-init : goal.loop-node-init
unfolding row_to
loop-node-init c = refl

pub step-requires-clause-nodes : goal.step-requires-clause-nodes
step-requires-clause-nodes c =
    let l : c.loop-node.node ≤ length c.args.graph.now.nodes = omega (arith, ap length c.nodes-node-end.ensures.nodes) in
    part_length c.loop-node.node c.loop-node.self c.nodes-node-end.ensures.graph c.requires
    c.loop-node.invariant l

pub step-requires-clause-within : goal.step-requires-clause-within
step-requires-clause-within c =
    let l : c.loop-node.node < length c.args.graph.now.nodes = omega (arith, ap length c.nodes-node-end.ensures.nodes) in
    omega (
      arith,
      part_length c.loop-node.node c.loop-node.self c.nodes-node-end.ensures.graph c.requires
          c.loop-node.invariant (omega arith),
    )

pub step-requires-clause-fits : goal.step-requires-clause-fits
step-requires-clause-fits c =
    let l : c.loop-node.node < length c.args.graph.now.nodes = omega (arith, ap length c.nodes-node-end.ensures.nodes) in
    let part = part_here c.loop-node.node c.loop-node.self c.nodes-node-end.ensures.graph c.requires
    c.loop-node.invariant l in
    part_may part c.requires.journal c.requires.row c.requires.fit

pub returns-then-not-branch : goal.returns-then-not-branch
returns-then-not-branch c =
    let l : c.loop-node.node < length c.args.graph.now.nodes = omega (arith, ap length c.nodes-node-end.ensures.nodes) in
    let part = part_here c.loop-node.node c.loop-node.self c.nodes-node-end.ensures.graph c.requires
    c.loop-node.invariant l in
    let none = subst (λ (s : Bool). Sends c.loop-node.self c.loop-node.node
    (message_of c.args.graph.now c.args.budget (row_of c.loop-node.self) c.args.event.now (row_of c.loop-node.self) c.loop-node.node) c.step.new.self s)
    c.if-not-branch.true c.in_ok-step.ensures in
    (part_ends part none.0, ap (drop c.loop-node.node) none.1 ∙ part_rest part c.args.self.now refl)

pub loop-node-preserved : goal.loop-node-preserved
loop-node-preserved c =
    let l : c.loop-node.node < length c.args.graph.now.nodes = omega (arith, ap length c.nodes-node-end.ensures.nodes) in
    let part = part_here c.loop-node.node c.loop-node.self c.nodes-node-end.ensures.graph c.requires
    c.loop-node.invariant l in
    part_more part c.step.new.self
    (subst (λ (s : Bool). Sends c.loop-node.self c.loop-node.node
    (message_of c.args.graph.now c.args.budget (row_of c.loop-node.self) c.args.event.now (row_of c.loop-node.self) c.loop-node.node) c.step.new.self s)
    c.if-not-branch.false c.in_ok-step.ensures)

pub returns : goal.returns
returns c =
    let e = ap length c.nodes-node-end.ensures.nodes in
    part_whole c.loop-node.node c.loop-node.self c.nodes-node-end.ensures.graph c.requires
    c.loop-node.invariant (omega (arith, e)) (omega (arith, e))
