use Rattle.std.proofs.Common.{◌≡◌, ◌<◌, ◌∙◌, ap, sym, arith, length, ◌++◌, List, get_or, length-set}
use Rattle.felm_term.specs.declared.value.Value.{Value}
use Rattle.felm_meaning.specs.Nodes.{inner_of_kind}
use Rattle.felm_plain.specs.Rows.{row_of}
use Rattle.felm_plain.specs.Queues.{queue_at, added}
use Rattle.felm_plain.proofs.Rows.{node_read, inner_within}
use Rattle.felm_plain.proofs.Waits.{read_queue, before_more, after_more}
use Rattle.felm_plain.proofs.queues.Queues.add_changes.Goals as goal

pub add_change-requires : goal.add_change-requires
add_change-requires c =
    let node = node_read c.args.graph.now c.nodes-nodes.result.now c.loop-node.node c.index-nodes-node.result c.nodes-nodes.ensures.nodes
    (omega (arith, ap length c.nodes-nodes.ensures.nodes)) in
    inner_within c.args.graph.now c.loop-node.node (length c.args.row.now) _ c.nodes-nodes.ensures.graph node
    (omega (arith, c.requires.row, ap length c.nodes-nodes.ensures.nodes))

pub loop-node-preserved : goal.loop-node-preserved
loop-node-preserved c =
    let node = node_read c.args.graph.now c.nodes-nodes.result.now c.loop-node.node c.index-nodes-node.result c.nodes-nodes.ensures.nodes
    (omega (arith, ap length c.nodes-nodes.ensures.nodes)) in
    let v : c.self.inside.queues.items ≡ c.args.self.now = c.self.view_is in
    let l : c.loop-node.node < length c.loop-node.self-inside.queues.items =
    omega (arith, c.loop-node.invariant.lengths, ap length v, c.requires.queues, ap length c.nodes-nodes.ensures.nodes) in
    let q : queue_at c.loop-node.self-inside.queues.items c.loop-node.node ≡ c.index_mut.result.now =
    read_queue c.loop-node.self-inside.queues.items c.loop-node.node c.index_mut.result.now l c.index_mut.ensures.value in
    record {
      lengths = length-set c.loop-node.self-inside.queues.items c.loop-node.node c.add_change.new.queue ∙ c.loop-node.invariant.lengths;
      before = before_more c.args.graph.now.nodes (row_of c.args.row.now) c.self.inside.queues.items c.loop-node.self-inside.queues.items c.loop-node.node
          c.add_change.new.queue _ l node c.loop-node.invariant.before c.loop-node.invariant.after
          (c.in_ok-add_change.ensures ∙ ap (λ (x : List Value). x ++ added (inner_of_kind (get_or c.nodes-nodes.result.now c.loop-node.node c.index-nodes-node.result).kind) (row_of c.args.row.now)) (sym q));
      after = after_more c.self.inside.queues.items c.loop-node.self-inside.queues.items c.loop-node.node c.add_change.new.queue c.loop-node.invariant.after;
    }
