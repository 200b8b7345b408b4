use Rattle.std.proofs.Common.{◌≡◌, [], sym, ap, ◌∙◌, subst}
use Rattle.felm_meaning.specs.declared.plan.Plan.{Plan}
use Rattle.felm_meaning.specs.Plans.{plan_of}
use Rattle.felm_meaning.specs.OfPlans.{DefaultsThereFor, val_for}
use Rattle.felm_core.specs.Contents.{outputs_at}
use Rattle.felm_engine.specs.EngineValue.{EngineValue}
use Rattle.felm_engine.specs.Answers.{planned}
use Rattle.felm_session.specs.SessionValue.{SessionValue}
use Rattle.felm_session.proofs.Ending.{history_of}
use Rattle.felm_session.proofs.conclusion.history.Goals as goal

pub shown_default-requires-clause-defaults : goal.shown_default-requires-clause-defaults
shown_default-requires-clause-defaults c =
    let here : c.plan.result.now ≡ c.args.session.engine.plan = c.plan.ensures ∙ ap (λ (e : EngineValue). e.plan) c.engine.ensures in
    subst (λ (plan : Plan). DefaultsThereFor (plan_of plan)) (sym here) c.legal.ensures.sound.defaults

pub returns-clause-history : goal.returns-clause-history
returns-clause-history c =
    let here : c.plan.result.now ≡ c.args.session.engine.plan = c.plan.ensures ∙ ap (λ (e : EngineValue). e.plan) c.engine.ensures in
    let parts = c.into_parts-journal in
    history_of c.args.session.engine
    (record { default = c.in_ok-default.default; journal = parts.result.0; outputs = parts.result.1 })
    c.legal.ensures.graph c.legal.ensures.sound c.requires
    (parts.ensures.journal ∙ ap (λ (s : SessionValue). s.engine.position.journal) c.session.view_is)
    (parts.ensures.outputs ∙ ap (λ (s : SessionValue). outputs_at (planned s.engine) s.engine.position) c.session.view_is)
    (ap (λ (plan : Plan). val_for (plan_of plan) [] plan.graph.main 0) (sym here) ∙ c.in_ok-default.ensures)
