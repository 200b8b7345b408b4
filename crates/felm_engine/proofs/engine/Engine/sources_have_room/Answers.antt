use Rattle.std.proofs.Common.{◌<◌, length, ap, ◌∙◌, arith}
use Rattle.felm_meaning.proofs.Legal.{source_within}
use Rattle.felm_edges.specs.EdgesValue.{HasRoomIn}
use Rattle.felm_edges.proofs.Wiring.{length-wiring_of}
use Rattle.felm_engine.proofs.Standing.{room_in, in_room}
use Rattle.felm_engine.proofs.EachSource.{all_at, match_weaker}
use Rattle.felm_engine.proofs.SourceLists.{all_sources, source_there, there_source}
use Rattle.felm_engine.proofs.engine.Engine.sources_have_room.Goals as goal

pub have_room-requires : goal.have_room-requires
have_room-requires c =
    let a = c.self.inside in
    let nodes = a.plan.graph.nodes in
    all_sources nodes c.as_slice.result.now (c.as_slice.ensures ∙ c.self.invariant.made.sources_are) (λ k. k < length a.edges.wiring)
    (λ k h. omega (arith, source_within nodes k h, ap length c.self.invariant.made.wiring_is, length-wiring_of nodes))

pub returns : goal.returns
returns c =
    let a = c.self.inside in
    let i = c.self.invariant in
    let nodes = a.plan.graph.nodes in
    let sources = c.as_slice.result.now in
    let are = c.as_slice.ensures ∙ i.made.sources_are in
    rw (← c.self.view_is) (match_weaker c.have_room.result
    (λ all k h. let w = source_there nodes sources are k h in room_in a i k (all_at (HasRoomIn a.edges) sources w.0 k all w.1))
    (λ some. (some.0, there_source nodes sources are some.0 some.1, λ room. some.2 (in_room a i some.0 room)))
    c.have_room.ensures)
