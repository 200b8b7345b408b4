use Rattle.std.proofs.Common.{arith}
use Rattle.std.proofs.lemmas.List.Edits.{map_over_more}
use Rattle.felm_edges.specs.Parts.{without_first}
use Rattle.felm_edges.proofs.ports.drop_firsts.Goals as goal

pub loop-edge-preserved : goal.loop-edge-preserved
loop-edge-preserved c =
    rw (c.drop_first.ensures, ← c.edge-item.is) (map_over_more without_first c.args.edges.now c.loop-edge.edges c.loop-edge.edge-index c.edge-item.result (omega arith) c.loop-edge.invariant c.edge-item.is)
