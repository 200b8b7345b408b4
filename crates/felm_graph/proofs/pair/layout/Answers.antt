use Rattle.std.proofs.Common.{◌<◌, ◌≤◌, length, Some, None, arith}
use Rattle.felm_graph.specs.Graphs.{most_nodes}
use Rattle.felm_graph.proofs.Whole.{too_many_inputs, inputs_few, too_many_shared, last_laid, all_layable, last_layable, graph_made}
use Rattle.felm_graph.proofs.pair.layout.Goals as goal

pub returns-then-len : goal.returns-then-len
returns-then-len c =
    let many : most_nodes < length c.args.inputs.now.items = omega (arith, c.if-len.true, c.len.ensures) in
    too_many_inputs c.args.inputs.now.items c.args.finished.now.shared.items c.args.finished.now.last many

pub lay_shared-requires-clause-layable : goal.lay_shared-requires-clause-layable
lay_shared-requires-clause-layable c =
    rw c.as_slice-2.ensures (all_layable c.args.inputs.now.items c.args.finished.now.shared.items c.args.finished.now.last c.requires.finished c.requires.typed)

pub lay_shared-requires-clause-few : goal.lay_shared-requires-clause-few
lay_shared-requires-clause-few c =
    let few : length c.args.inputs.now.items ≤ most_nodes = omega (arith, c.if-len.false, c.len.ensures) in
    rw (c.in_ok-nodes.ensures, c.as_slice.ensures.items) (inputs_few c.args.inputs.now.items c.args.finished.now.shared.items c.args.finished.now.last few)

pub returns-in_default : goal.returns-in_default
returns-in_default c =
    let k = rw (c.in_default.is, c.in_ok-nodes.ensures, c.as_slice.ensures.items, c.as_slice-2.ensures) at c.in_ok-roots.ensures in
    too_many_shared c.args.inputs.now.items c.args.finished.now.shared.items c.args.finished.now.last c.lay_shared.new.nodes.items k

pub lay_term-requires-clause-term : goal.lay_term-requires-clause-term
lay_term-requires-clause-term c =
    let k = rw (c.in-Some.is, c.in_ok-nodes.ensures, c.as_slice.ensures.items, c.as_slice-2.ensures) at c.in_ok-roots.ensures in
    rw c.as_slice-3.ensures (last_layable c.args.inputs.now.items c.args.finished.now.shared.items c.args.finished.now.last c.requires.finished c.requires.typed c.in-Some.roots.items c.lay_shared.new.nodes.items k)

pub returns-in_default-2 : goal.returns-in_default-2
returns-in_default-2 c =
    let k = rw (c.in-Some.is, c.in_ok-nodes.ensures, c.as_slice.ensures.items, c.as_slice-2.ensures) at c.in_ok-roots.ensures in
    let l = rw (c.in_default-2.is, c.as_slice-3.ensures) at c.in_ok-main.ensures in
    last_laid c.args.inputs.now.items c.args.finished.now.shared.items c.args.finished.now.last c.in-Some.roots.items c.lay_shared.new.nodes.items c.lay_term.new.nodes.items None k l

pub make-requires : goal.make-requires
make-requires c =
    let k = rw (c.in-Some.is, c.in_ok-nodes.ensures, c.as_slice.ensures.items, c.as_slice-2.ensures) at c.in_ok-roots.ensures in
    let l = rw (c.in-Some-2.is, c.as_slice-3.ensures) at c.in_ok-main.ensures in
    let w = last_laid c.args.inputs.now.items c.args.finished.now.shared.items c.args.finished.now.last c.in-Some.roots.items c.lay_shared.new.nodes.items c.lay_term.new.nodes.items (Some c.in-Some-2.main) k l in
    (graph_made c.args.inputs.now.items c.args.finished.now.shared.items c.args.finished.now.last c.requires.finished c.requires.typed c.lay_term.new.nodes.items c.in-Some-2.main c.in_ok-inputs.inputs.items w c.in_ok-inputs.ensures).0

pub returns : goal.returns
returns c =
    let k = rw (c.in-Some.is, c.in_ok-nodes.ensures, c.as_slice.ensures.items, c.as_slice-2.ensures) at c.in_ok-roots.ensures in
    let l = rw (c.in-Some-2.is, c.as_slice-3.ensures) at c.in_ok-main.ensures in
    let w = last_laid c.args.inputs.now.items c.args.finished.now.shared.items c.args.finished.now.last c.in-Some.roots.items c.lay_shared.new.nodes.items c.lay_term.new.nodes.items (Some c.in-Some-2.main) k l in
    let g = graph_made c.args.inputs.now.items c.args.finished.now.shared.items c.args.finished.now.last c.requires.finished c.requires.typed c.lay_term.new.nodes.items c.in-Some-2.main c.in_ok-inputs.inputs.items w c.in_ok-inputs.ensures in
    rw c.make.ensures (g.1, w.1)
