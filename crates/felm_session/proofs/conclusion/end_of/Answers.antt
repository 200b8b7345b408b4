use Rattle.std.proofs.Common.{◌≡◌, Some, ap, ◌∙◌, subst}
use Rattle.felm_engine.specs.Stops.{stop_of}
use Rattle.felm_session.specs.SessionValue.{SessionValue}
use Rattle.felm_session.specs.Concluding.{Rests}
use Rattle.felm_session.proofs.Ending.{stopped_end}
use Rattle.felm_session.proofs.conclusion.end_of.Goals as goal

pub returns-in-Stopped-clause-end : goal.returns-in-Stopped-clause-end
returns-in-Stopped-clause-end c =
    let engine = c.args.session.engine in
    let stop : engine.position.stop ≡ stop_of (Some c.in-Stopped.stop) = subst (Rests engine) c.in-Stopped.is c.requires in
    stopped_end engine c.into_parts.result.0 c.in-Stopped.stop.node c.in-Stopped.stop.position c.legal.ensures.graph c.legal.ensures.sound
    c.legal.ensures.legal (c.into_parts.ensures.journal ∙ ap (λ (s : SessionValue). s.engine.position.journal) c.session.view_is) stop
