use Rattle.std.proofs.Common.{refl, sym, ap, ◌∙◌, arith}
use Rattle.felm_term.specs.TermView.{terms_of_form}
use Rattle.felm_graph.specs.Layout.{lift_node, foldp_node, async_node}
use Rattle.felm_graph.specs.declared.frame.Frame.TheVariants as frame
use Rattle.felm_graph.proofs.Replays.{still_ready, climbed, next_argument, next_down}
use Rattle.felm_graph.proofs.lay.ascend.Goals as goal

pub push-requires : goal.push-requires
push-requires c =
    let e = rw c.in-Some-Lift.field-0-is at c.in-Some-Lift.ensures in
    let r = still_ready c.args.shared.now c.args.frames.now.items c.innermost.new.frames.items _ e c.requires.frames in
    omega (arith, r.1.0)

pub descend-requires-clause-term : goal.descend-requires-clause-term
descend-requires-clause-term c =
    let e = rw c.in-Some-Lift.field-0-is at c.in-Some-Lift.ensures in
    let v = sym c.rest.view_is ∙ ap terms_of_form c.in-More.is in
    (next_argument c.args.shared.now c.args.frames.now.items c.innermost.new.frames.items c.put.new.frames.items c.in-Some-Lift.function c.in-Some-Lift.done c.push.new.self c.in-Some-Lift.rest c.deref.result
    c.args.nodes.now.items c.args.root c.in-More.first c.in-More.rest.value e v c.push.ensures c.deref.ensures c.in_ok-put-in-More.ensures c.requires.frames).layable

pub descend-requires-clause-frames : goal.descend-requires-clause-frames
descend-requires-clause-frames c =
    let e = rw c.in-Some-Lift.field-0-is at c.in-Some-Lift.ensures in
    let v = sym c.rest.view_is ∙ ap terms_of_form c.in-More.is in
    (next_argument c.args.shared.now c.args.frames.now.items c.innermost.new.frames.items c.put.new.frames.items c.in-Some-Lift.function c.in-Some-Lift.done c.push.new.self c.in-Some-Lift.rest c.deref.result
    c.args.nodes.now.items c.args.root c.in-More.first c.in-More.rest.value e v c.push.ensures c.deref.ensures c.in_ok-put-in-More.ensures c.requires.frames).ready

pub returns-in_ok-descend-in-More : goal.returns-in_ok-descend-in-More
returns-in_ok-descend-in-More c =
    let e = rw c.in-Some-Lift.field-0-is at c.in-Some-Lift.ensures in
    let v = sym c.rest.view_is ∙ ap terms_of_form c.in-More.is in
    let m =
    next_argument c.args.shared.now c.args.frames.now.items c.innermost.new.frames.items c.put.new.frames.items c.in-Some-Lift.function c.in-Some-Lift.done c.push.new.self c.in-Some-Lift.rest c.deref.result
    c.args.nodes.now.items c.args.root c.in-More.first c.in-More.rest.value e v c.push.ensures c.deref.ensures c.in_ok-put-in-More.ensures c.requires.frames
    in
    next_down c.args.shared.now c.args.frames.now.items c.put.new.frames.items c.descend.new.frames.items c.args.nodes.now.items c.args.root _ c.in-More.first m
    (c.in_ok-descend-in-More.ensures.same c.args.nodes.now.items) c.in_ok-descend-in-More.ensures.less c.in_ok-descend-in-More.ensures.ready c.requires.few

pub returns-in_ok-added-in-End : goal.returns-in_ok-added-in-End
returns-in_ok-added-in-End c =
    let e = rw c.in-Some-Lift.field-0-is at c.in-Some-Lift.ensures in
    let v = sym c.rest.view_is ∙ ap terms_of_form c.in-End.is in
    let n = lift_node c.in-Some-Lift.function c.push.new.self in
    rw c.above.ensures (climbed c.args.shared.now _ _ (frame.Lift c.in-Some-Lift.function c.in-Some-Lift.done c.in-Some-Lift.rest) e c.args.nodes.now.items _ c.args.root n c.in_ok-added-in-End.added (rw (v, c.push.ensures) refl) c.requires.frames (rw c.in_ok-node-in-End.ensures at c.in_ok-added-in-End.ensures))

pub returns-in_ok-added-in-Some-Foldp : goal.returns-in_ok-added-in-Some-Foldp
returns-in_ok-added-in-Some-Foldp c =
    let e = rw c.in-Some-Foldp.field-0-is at c.in-Some-Foldp.ensures in
    let n = foldp_node c.in-Some-Foldp.function c.in-Some-Foldp.base c.args.root in
    rw c.above-in-Some-Foldp.ensures (climbed c.args.shared.now _ _ (frame.Foldp c.in-Some-Foldp.function c.in-Some-Foldp.base) e c.args.nodes.now.items _ c.args.root n c.in_ok-added-in-Some-Foldp.added refl c.requires.frames (rw c.in_ok-node-in-Some-Foldp.ensures at c.in_ok-added-in-Some-Foldp.ensures))

pub returns-in_ok-added-in-Some-Async : goal.returns-in_ok-added-in-Some-Async
returns-in_ok-added-in-Some-Async c =
    let e = rw c.in-Some-Async.field-0-is at c.in-Some-Async.ensures in
    let n = async_node c.args.nodes.now.items c.args.root in
    rw c.above-in-Some-Async.ensures (climbed c.args.shared.now _ _ frame.Async e c.args.nodes.now.items _ c.args.root n c.in_ok-added-in-Some-Async.added refl c.requires.frames (rw (c.in_ok-node-in-Some-Async.ensures, c.as_slice.ensures) at c.in_ok-added-in-Some-Async.ensures))
