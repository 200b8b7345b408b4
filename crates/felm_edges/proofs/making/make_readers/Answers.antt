use Rattle.std.proofs.Common.{sym, arith, length, map}
use Rattle.std.proofs.lemmas.List.{length-map}
use Rattle.felm_edges.specs.Parts.{EdgeValue, sources_of}
use Rattle.felm_edges.proofs.ReadersOfNodes.{first_node, last_node}
use Rattle.felm_edges.proofs.making.make_readers.Goals as goal

pub loop-node-init : goal.loop-node-init
loop-node-init c =
    first_node (sources_of c.args.rows.now) (length c.args.rows.now) c.in_ok-readers.readers.items c.in_ok-readers.ensures
    (sym (length-map c.args.rows.now (map (λ (e : EdgeValue). e.source))))

pub returns : goal.returns
returns c =
    last_node (sources_of c.args.rows.now) c.loop-node.node c.loop-node.readers.items c.loop-node.invariant
    (omega (arith, length-map c.args.rows.now (map (λ (e : EdgeValue). e.source)), c.loop-node-test.false))
