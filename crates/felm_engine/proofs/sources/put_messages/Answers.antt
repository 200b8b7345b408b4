use Rattle.std.proofs.Common.{◌≡◌, length, arith, subst}
use Rattle.std.proofs.lemmas.Option.{slice_get-get_or}
use Rattle.felm_engine.proofs.EachSource.{PutSoFar, put_more, put_room, put_prepared, put_all}
use Rattle.felm_engine.proofs.sources.put_messages.Goals as goal

pub put-requires-clause-room : goal.put-requires-clause-room
put-requires-clause-room c =
    put_room c.args.sources.now c.loop-source.source-index c.args.edges.now c.loop-source.edges _ c.requires.distinct
    (slice_get-get_or c.args.sources.now c.loop-source.source-index 0 c.loop-source-test.true) c.requires.room c.loop-source.invariant

pub put-requires-clause-prepared : goal.put-requires-clause-prepared
put-requires-clause-prepared c =
    put_prepared c.args.sources.now c.loop-source.source-index c.args.edges.now c.loop-source.edges _ c.requires.distinct
    (slice_get-get_or c.args.sources.now c.loop-source.source-index 0 c.loop-source-test.true) c.requires.prepared c.loop-source.invariant

pub loop-source-preserved : goal.loop-source-preserved
loop-source-preserved c =
    put_more c.args.sources.now c.loop-source.source-index c.args.edges.now c.loop-source.edges c.put.new.self _ c.requires.distinct
    (slice_get-get_or c.args.sources.now c.loop-source.source-index 0 c.loop-source-test.true) c.loop-source.invariant c.put.ensures

pub returns : goal.returns
returns c =
    let e : c.loop-source.source-index ≡ length c.args.sources.now = omega (arith, c.loop-source-test.false, c.loop-source.auto.source-index-end) in
    put_all c.args.sources.now c.args.edges.now c.loop-source.edges (subst (λ n. PutSoFar c.args.sources.now n c.args.edges.now c.loop-source.edges) e c.loop-source.invariant)
