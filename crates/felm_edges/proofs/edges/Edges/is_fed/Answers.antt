use Rattle.felm_edges.proofs.Reading.{fed_is}
use Rattle.felm_edges.proofs.edges.Edges.is_fed.Goals as goal

pub returns : goal.returns
returns c =
    let fed = fed_is c.self.inside.capacity c.self.inside.rows.items c.self.inside.outlets.items c.args.self.now c.args.node c.index.result.now
    c.self.view_is c.requires c.index.ensures in
    (λ t. fed.0 (c.have_messages.ensures.0 t), λ f. c.have_messages.ensures.1 (fed.1 f))
