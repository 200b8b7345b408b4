use Rattle.std.proofs.Common.{◌≡◌, ◌<◌, length, get_or, sym, arith, subst}
use Rattle.std.proofs.lemmas.Option.{slice_get-get_or, slice_get_read}
use Rattle.felm_engine.proofs.EachSource.{DueSoFar, due_more, due_all, all_at}
use Rattle.felm_engine.proofs.sources.prepare_messages.Goals as goal

pub loop-source-preserved : goal.loop-source-preserved
loop-source-preserved c =
    let h = slice_get-get_or c.args.sources.now c.loop-source.source-index 0 c.loop-source-test.true in
    due_more c.args.sources.now c.loop-source.source-index c.args.event.now c.args.kept.now c.args.edges.now c.loop-source.edges c.prepare.new.self
    (get_or c.args.sources.now c.loop-source.source-index 0) c.index-kept-source.result c.in_ok-message.message c.loop-source.invariant h
    (slice_get_read c.args.kept.now _ _ c.index-kept-source.result (sym c.requires.kept) (all_at (λ k. k < length c.args.edges.now.wiring) _ _ _ c.requires.nodes h) c.index-kept-source.is)
    c.in_ok-message.ensures c.in_ok-prepare.ensures.ok

pub returns-clause-ok : goal.returns-clause-ok
returns-clause-ok c =
    let e : c.loop-source.source-index ≡ length c.args.sources.now = omega (arith, c.loop-source-test.false, c.loop-source.auto.source-index-end) in
    due_all c.args.sources.now c.args.event.now c.args.kept.now c.args.edges.now c.loop-source.edges
    (subst (λ n. DueSoFar c.args.sources.now n c.args.event.now c.args.kept.now c.args.edges.now c.loop-source.edges) e c.loop-source.invariant)
