use Rattle.std.proofs.Common.{◌∙◌}
use Rattle.felm_edges.proofs.Reading.{head_is}
use Rattle.felm_edges.proofs.edges.Edges.head.Goals as goal

pub returns : goal.returns
returns c =
    c.first.ensures ∙
    head_is c.self.inside.capacity c.self.inside.rows.items c.self.inside.outlets.items c.args.self.now c.args.node c.args.port c.index.result.now
    c.at.result.now c.self.view_is c.requires c.index.ensures c.at.ensures
