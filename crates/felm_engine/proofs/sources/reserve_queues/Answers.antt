use Rattle.std.proofs.Common.{◌≡◌, ◌+◌, ◌-◌, ◌<◌, Some, length, get_or, sym, arith, subst}
use Rattle.std.specs.List.{slice_get}
use Rattle.std.proofs.lemmas.Option.{slice_get-get_or}
use Rattle.felm_core.specs.Positions.{done_at}
use Rattle.felm_engine.specs.Queued.{queue_at}
use Rattle.felm_engine.proofs.EachSource.{RoomySoFar, roomy_more, roomy_same, roomy_all, all_at, inner_there, inner_none}
use Rattle.felm_engine.proofs.sources.reserve_queues.Goals as goal
use Rattle.felm_engine.proofs.sources.reserve_queues.Goals.{in-Async+in_ok-reserve, in_default}

pub bounds-done-argument : goal.bounds-done-argument
bounds-done-argument c =
    let h = slice_get-get_or c.args.sources.now c.loop-source.source-index 0 c.loop-source-test.true in
    let k = get_or c.args.sources.now c.loop-source.source-index 0 in
    let l : k < length c.args.nodes.now = all_at (λ x. x < length c.args.nodes.now) _ _ _ c.requires.nodes h in
    let i = inner_there c.args.nodes.now k _ c.in-Async.argument (slice_get-get_or c.args.nodes.now k c.index-nodes-source.result l) c.in-Async.is in
    omega (arith, c.requires.inner k c.in-Async.argument i, c.requires.done)

pub loop-source-preserved : goal.loop-source-preserved
loop-source-preserved c =
    let nodes = c.args.nodes.now in
    let sources = c.args.sources.now in
    let n = c.loop-source.source-index in
    let k = get_or sources n 0 in
    let h : slice_get sources n ≡ Some k = slice_get-get_or sources n 0 c.loop-source-test.true in
    let l : k < length nodes = all_at (λ x. x < length nodes) _ _ _ c.requires.nodes h in
    let node = slice_get-get_or nodes k c.index-nodes-source.result l in
    elim c.match-nodes-source.branch [
      | in-Async+in_ok-reserve w ↦
          let x = w.in-Async.argument in
          let room : c.args.events - done_at c.args.done.now x < (queue_at w.reserve.new.self k).spare = omega (arith, w.in_ok-reserve.ensures.ok) in
          subst (RoomySoFar nodes sources (n + 1) c.args.done.now c.args.events c.args.waiting.now) (sym w.waiting-is)
          (roomy_more nodes sources n c.args.done.now c.args.events c.args.waiting.now c.loop-source.waiting w.reserve.new.self k x c.loop-source.invariant h
          (inner_there nodes k _ x node w.in-Async.is) w.reserve.ensures.stays room)
      | in_default w ↦
          subst (RoomySoFar nodes sources (n + 1) c.args.done.now c.args.events c.args.waiting.now) (sym w.waiting-is)
          (roomy_same nodes sources n c.args.done.now c.args.events c.args.waiting.now c.loop-source.waiting k c.loop-source.invariant h
          (inner_none nodes k _ node w.in_default.not-Async))
    ]

pub returns-clause-ok : goal.returns-clause-ok
returns-clause-ok c =
    let e : c.loop-source.source-index ≡ length c.args.sources.now = omega (arith, c.loop-source-test.false, c.loop-source.auto.source-index-end) in
    roomy_all c.args.nodes.now c.args.sources.now c.args.done.now c.args.events c.args.waiting.now c.loop-source.waiting
    (subst (λ n. RoomySoFar c.args.nodes.now c.args.sources.now n c.args.done.now c.args.events c.args.waiting.now c.loop-source.waiting) e c.loop-source.invariant)
