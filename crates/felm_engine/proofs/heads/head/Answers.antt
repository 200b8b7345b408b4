use Rattle.std.proofs.Common.{◌∙◌}
use Rattle.std.proofs.lemmas.Option.{none-some}
use Rattle.felm_edges.specs.EdgesValue.{edge_in}
use Rattle.felm_engine.proofs.Edged.{fed_at, first_of}
use Rattle.felm_engine.proofs.heads.head.Goals as goal

pub unreachable-requires : goal.unreachable-requires
unreachable-requires c =
    let m = first_of (edge_in c.args.edges.now c.args.node c.args.port) (fed_at c.args.edges.now c.args.node c.args.port c.requires.fed c.requires.port) in
    none-some m.0 (c.in-None.ensures ∙ m.1)
