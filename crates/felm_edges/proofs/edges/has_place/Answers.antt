use Rattle.felm_edges.proofs.Reading.{place_is}
use Rattle.felm_edges.proofs.edges.has_place.Goals as goal

pub returns : goal.returns
returns c =
    let place = place_is c.args.rows.now c.args.reader.now c.index-rows-reader.result c.at.result.now c.requires c.index-rows-reader.is c.at.ensures in
    (λ t. place.0 (c.has_place.ensures.0 t), λ f. c.has_place.ensures.1 (place.1 f))
