use Rattle.std.proofs.Common.{◌≡◌, ◌<◌, ◌∙◌, ◌++◌, ◌∷◌, Bool, true, cond, List, [], ap, sym, arith, length, map, is_ok}
use Rattle.felm_edges.specs.Parts.{new_edge}
use Rattle.felm_edges.proofs.NewEdges.{next_row}
use Rattle.felm_edges.proofs.making.make_rows.Goals as goal

pub loop-node-preserved : goal.loop-node-preserved
loop-node-preserved c =
    let rows = c.loop-node.rows.items in
    let ports = c.in_ok-ports.ports in
    let ok : is_ok c.push.result ≡ true = sym c.map_err-in-loop-node.ensures.variant ∙ ap is_ok c.in_ok-map_err.was in
    let here : c.loop-node.node < length c.args.graph.now.nodes = omega (arith, ap length c.nodes-count.ensures.nodes, c.loop-node-test.true) in
    c.push.ensures.items ∙ ap (λ (b : Bool). cond b (rows ++ ports ∷ []) rows) ok ∙
    next_row c.args.graph.now.nodes c.args.capacity c.loop-node.node rows ports here c.loop-node.invariant
    (c.in_ok-ports.ensures ∙ ap (λ (row : List _). map (new_edge c.args.capacity) row) c.arguments_of-sources.ensures.arguments)
