use Rattle.std.proofs.Common.{sym, ap, ◌∙◌}
use Rattle.felm_term.specs.TermView.{term_of_form, terms_of_form}
use Rattle.felm_graph.specs.Layout.{value_in}
use Rattle.felm_graph.proofs.Replays.{into_lift, into_foldp, into_async}
use Rattle.felm_graph.proofs.lay.descend.Goals as goal

pub returns-in-Input-clause-same : goal.returns-in-Input-clause-same
returns-in-Input-clause-same c nodes =
    let e = sym c.focus.view_is ∙ ap term_of_form c.in-Input.is in
    rw e at (c.down.invariant.same nodes)

pub returns-in-Node-clause-same : goal.returns-in-Node-clause-same
returns-in-Node-clause-same c nodes =
    let e = sym c.focus.view_is ∙ ap term_of_form c.in-Node.is in
    rw e at (c.down.invariant.same nodes)

pub down-preserved-in-More : goal.down-preserved-in-More
down-preserved-in-More c =
    let f = c.in-Lift.function.value in
    let e = sym c.focus.view_is ∙ ap term_of_form c.in-Lift.is in
    let a = sym c.deref.ensures ∙ sym c.behind-arguments.view_is ∙ ap terms_of_form c.in-More.is in
    let d = rw (e, a) at c.down.invariant in
    into_lift _ _ _ c.down.frames.items _ f c.in-More.first c.in-More.rest.value c.in_ok-function-in-More.function c.make-done.result c.deref-in-More-2.result
    c.in_ok-put-in-More.ensures (c.in_ok-function-in-More.ensures ∙ ap value_in c.deref-in-More.ensures) c.make-done.ensures c.deref-in-More-2.ensures d

pub down-preserved-in-Foldp : goal.down-preserved-in-Foldp
down-preserved-in-Foldp c =
    let e = sym c.focus.view_is ∙ ap term_of_form c.in-Foldp.is in
    let d = rw e at c.down.invariant in
    let p = rw (c.in_ok-function-in-Foldp.ensures, c.deref-in-Foldp.ensures, c.in_ok-base-in-Foldp.ensures, c.deref-in-Foldp-2.ensures) at c.in_ok-put-in-Foldp.ensures in
    rw c.deref-focus.ensures (into_foldp _ _ _ c.down.frames.items _ c.in-Foldp.function.value c.in-Foldp.base.value c.in-Foldp.signal.value p d)

pub down-preserved : goal.down-preserved
down-preserved c =
    let e = sym c.focus.view_is ∙ ap term_of_form c.in-Async.is in
    let d = rw e at c.down.invariant in
    rw c.deref-focus-in-Async.ensures (into_async _ _ _ c.down.frames.items _ c.in-Async.signal.value c.in_ok-put-in-Async.ensures d)
