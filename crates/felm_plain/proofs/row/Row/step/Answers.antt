use Rattle.std.proofs.Common.{◌∙◌, ap, sym, subst, arith, length, Option}
use Rattle.std.specs.Prelude.{IfOk}
use Rattle.felm_term.specs.declared.message.Message.{Message}
use Rattle.felm_graph.specs.declared.node.NodeKind.TheVariants as kind
use Rattle.felm_graph.specs.Nodes.{is_source_kind}
use Rattle.felm_plain.specs.Rows.{Sends}
use Rattle.felm_plain.proofs.Rows.{node_read, arguments_within, source_sends, lift_sends, foldp_sends, lift_callable, foldp_callable}
use Rattle.felm_plain.proofs.row.Row.step.Goals as goal

pub lift-requires-clause-there : goal.lift-requires-clause-there
lift-requires-clause-there c =
    let node = node_read c.args.graph.now c.nodes.result.now c.args.node c.index-nodes-node.result c.nodes.ensures.nodes (omega arith) in
    arguments_within c.args.graph.now c.args.node (length c.args.self.now) _ (kind.Lift c.in-Lift.function c.as_slice.result.now) c.nodes.ensures.graph node
    (c.in-Lift.is ∙ ap (kind.Lift c.in-Lift.function) (sym c.as_slice.ensures)) (omega arith)

pub lift-requires-clause-callable : goal.lift-requires-clause-callable
lift-requires-clause-callable c =
    let node = node_read c.args.graph.now c.nodes.result.now c.args.node c.index-nodes-node.result c.nodes.ensures.nodes (omega arith) in
    let q = c.in-Lift.is ∙ ap (kind.Lift c.in-Lift.function) (sym c.as_slice.ensures) in
    let there = arguments_within c.args.graph.now c.args.node (length c.args.self.now) _ (kind.Lift c.in-Lift.function c.as_slice.result.now)
    c.nodes.ensures.graph node q (omega arith) in
    lift_callable c.args.graph.now c.args.budget c.args.self.now c.args.event.now c.args.node _ node c.requires.within c.in-Lift.function c.as_slice.result.now q there
    c.requires.fits

pub fold-requires-clause-there : goal.fold-requires-clause-there
fold-requires-clause-there c =
    let node = node_read c.args.graph.now c.nodes.result.now c.args.node c.index-nodes-node.result c.nodes.ensures.nodes (omega arith) in
    arguments_within c.args.graph.now c.args.node (length c.args.self.now) _ (kind.Foldp c.in-Foldp.function c.in-Foldp.base c.in-Foldp.argument)
    c.nodes.ensures.graph node c.in-Foldp.is (omega arith) 0 0 (omega arith)

pub fold-requires-clause-callable : goal.fold-requires-clause-callable
fold-requires-clause-callable c =
    let node = node_read c.args.graph.now c.nodes.result.now c.args.node c.index-nodes-node.result c.nodes.ensures.nodes (omega arith) in
    let there = arguments_within c.args.graph.now c.args.node (length c.args.self.now) _ (kind.Foldp c.in-Foldp.function c.in-Foldp.base c.in-Foldp.argument)
    c.nodes.ensures.graph node c.in-Foldp.is (omega arith) in
    foldp_callable c.args.graph.now c.args.budget c.args.self.now c.args.event.now c.args.node _ node c.requires.within c.in-Foldp.function c.in-Foldp.base
    c.in-Foldp.argument c.in-Foldp.is there c.requires.fits

pub returns-in-Input : goal.returns-in-Input
returns-in-Input c =
    let node = node_read c.args.graph.now c.nodes.result.now c.args.node c.index-nodes-node.result c.nodes.ensures.nodes (omega arith) in
    subst (λ (m : Option Message). IfOk c.pass_on.result (Sends c.args.self.now c.args.node m c.pass_on.new.self))
    (source_sends c.args.graph.now c.args.budget c.args.self.now c.args.event.now c.args.node _ node c.requires.within (ap is_source_kind c.in-Input.is))
    c.pass_on.ensures

pub returns-in-Async : goal.returns-in-Async
returns-in-Async c =
    let node = node_read c.args.graph.now c.nodes.result.now c.args.node c.index-nodes-node.result c.nodes.ensures.nodes (omega arith) in
    subst (λ (m : Option Message). IfOk c.pass_on-in-Async.result (Sends c.args.self.now c.args.node m c.pass_on-in-Async.new.self))
    (source_sends c.args.graph.now c.args.budget c.args.self.now c.args.event.now c.args.node _ node c.requires.within (ap is_source_kind c.in-Async.is))
    c.pass_on-in-Async.ensures

pub returns-in-Lift : goal.returns-in-Lift
returns-in-Lift c =
    let node = node_read c.args.graph.now c.nodes.result.now c.args.node c.index-nodes-node.result c.nodes.ensures.nodes (omega arith) in
    let q = c.in-Lift.is ∙ ap (kind.Lift c.in-Lift.function) (sym c.as_slice.ensures) in
    let there = arguments_within c.args.graph.now c.args.node (length c.args.self.now) _ (kind.Lift c.in-Lift.function c.as_slice.result.now)
    c.nodes.ensures.graph node q (omega arith) in
    subst (λ (m : Option Message). IfOk c.lift.result (Sends c.args.self.now c.args.node m c.lift.new.self))
    (lift_sends c.args.graph.now c.args.budget c.args.self.now c.args.event.now c.args.node _ node c.requires.within c.in-Lift.function c.as_slice.result.now q there)
    c.lift.ensures

pub returns-in-Foldp : goal.returns-in-Foldp
returns-in-Foldp c =
    let node = node_read c.args.graph.now c.nodes.result.now c.args.node c.index-nodes-node.result c.nodes.ensures.nodes (omega arith) in
    let there = arguments_within c.args.graph.now c.args.node (length c.args.self.now) _ (kind.Foldp c.in-Foldp.function c.in-Foldp.base c.in-Foldp.argument)
    c.nodes.ensures.graph node c.in-Foldp.is (omega arith) in
    subst (λ (m : Option Message). IfOk c.fold.result (Sends c.args.self.now c.args.node m c.fold.new.self))
    (foldp_sends c.args.graph.now c.args.budget c.args.self.now c.args.event.now c.args.node _ node c.requires.within c.in-Foldp.function c.in-Foldp.base
    c.in-Foldp.argument c.in-Foldp.is there)
    c.fold.ensures
