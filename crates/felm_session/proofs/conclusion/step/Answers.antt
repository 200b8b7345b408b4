use Rattle.std.proofs.Common.{◌≡◌, Option, None, sym, ap, ◌∙◌, subst}
use Rattle.felm_core.specs.Positions.{StopValue, IsSettled}
use Rattle.felm_engine.specs.EngineValue.{EngineValue}
use Rattle.felm_engine.specs.Answers.{planned}
use Rattle.felm_engine.specs.Stops.{stop_of}
use Rattle.felm_session.specs.SessionValue.{SessionValue}
use Rattle.felm_session.specs.Concluding.{TurnTaken}
use Rattle.felm_session.proofs.Ending.{settled_where}
use Rattle.felm_session.proofs.conclusion.step.Goals as goal

pub enter_some-requires-clause-settled : goal.enter_some-requires-clause-settled
enter_some-requires-clause-settled c =
    let old = c.args.session.now.engine in
    let h = subst (TurnTaken old c.take_turn.new.session.engine) c.if-branch.false c.in_ok-take_turn.ensures in
    let no_stop : old.position.stop ≡ None = sym c.stopped.ensures ∙ ap stop_of c.in_default.is in
    subst (λ (engine : EngineValue). IsSettled (planned engine) engine.position) (sym h.1)
    (settled_where old c.legal.ensures.graph c.legal.ensures.sound c.requires no_stop h.0)
