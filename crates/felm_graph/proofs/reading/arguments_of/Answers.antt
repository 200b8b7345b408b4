use Rattle.felm_graph.proofs.Earlier.{node_there, answered}
use Rattle.felm_graph.proofs.reading.arguments_of.Goals as goal

pub returns : goal.returns
returns c =
    let at = node_there c.args.graph.now.nodes c.nodes.result.now c.args.node c.index-nodes-node.result c.nodes.ensures.nodes c.requires c.index-nodes-node.is in
    let given = rw (← c.index-nodes-node.is) at c.arguments_of_kind.ensures in
    let a = answered c.args.graph.now c.args.node c.index-nodes-node.result c.arguments_of_kind.result c.nodes.ensures.graph at given in
    record { arguments = a.0; earlier = a.1; some = a.2 }
