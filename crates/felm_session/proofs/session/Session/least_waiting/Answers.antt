use Rattle.std.proofs.Common.{◌≡◌, length, ap, sym, ◌∙◌, arith}
use Rattle.std.proofs.lemmas.Bool.{false≢true}
use Rattle.felm_meaning.specs.declared.plan.Plan.{Plan}
use Rattle.felm_session.specs.SessionValue.{SessionValue}
use Rattle.felm_session.proofs.Entering.{none_waits_more, none_waits_anywhere}
use Rattle.felm_session.proofs.session.Session.least_waiting.Goals as goal

pub returns-then-waits : goal.returns-then-waits
returns-then-waits c = record { waits = c.waits.ensures.0 c.if-waits.true; least = c.loop-node.invariant }

pub loop-node-preserved : goal.loop-node-preserved
loop-node-preserved c =
    none_waits_more c.args.self.now.engine c.loop-node.node c.loop-node.invariant
    (λ w. false≢true (sym c.if-waits.false ∙ c.waits.ensures.1 w))

pub returns : goal.returns
returns c =
    let here : c.nodes-node-end.result.now ≡ c.args.self.now.engine.plan.graph.nodes =
    c.nodes-node-end.ensures.nodes ∙
    (ap (λ (q : Plan). q.graph.nodes) c.plan.ensures ∙ ap (λ (s : SessionValue). s.engine.plan.graph.nodes) c.self.view_is) in
    none_waits_anywhere c.args.self.now.engine c.loop-node.node (omega (arith, ap length here)) c.loop-node.invariant
