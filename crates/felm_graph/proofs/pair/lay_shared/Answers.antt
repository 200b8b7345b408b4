use Rattle.felm_graph.proofs.Whole.{at_next, first_layable, one_laid, too_many}
use Rattle.felm_graph.proofs.pair.lay_shared.Goals as goal

pub lay_term-requires-clause-term : goal.lay_term-requires-clause-term
lay_term-requires-clause-term c =
    let e = at_next c.args.shared.now c.loop-term.term-index c.term-item.result c.loop-term-test.true c.term-item.is in
    rw c.as_slice.ensures (first_layable c.args.nodes.now.items c.args.shared.now c.loop-term.roots.items c.loop-term.nodes.items _ _ c.term-item.result e c.loop-term.invariant)

pub returns-in-None : goal.returns-in-None
returns-in-None c =
    let e = at_next c.args.shared.now c.loop-term.term-index c.term-item.result c.loop-term-test.true c.term-item.is in
    let k = rw (c.in-None.is, c.as_slice.ensures) at c.in_ok-root.ensures in
    too_many c.args.nodes.now.items c.args.shared.now c.loop-term.roots.items c.loop-term.nodes.items _ _ c.term-item.result e c.lay_term.new.nodes.items k c.loop-term.invariant

pub loop-term-preserved : goal.loop-term-preserved
loop-term-preserved c =
    let e = at_next c.args.shared.now c.loop-term.term-index c.term-item.result c.loop-term-test.true c.term-item.is in
    let k = rw (c.in-Some.is, c.as_slice.ensures) at c.in_ok-root.ensures in
    one_laid c.args.nodes.now.items c.args.shared.now c.loop-term.roots.items c.loop-term.nodes.items _ _ c.term-item.result e c.lay_term.new.nodes.items c.push.new.self.items c.in-Some.root k c.in_ok-push-in-Some.ensures.ok c.loop-term.invariant
