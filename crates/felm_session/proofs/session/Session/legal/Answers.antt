use Rattle.std.proofs.Common.{subst}
use Rattle.felm_meaning.specs.OfPlans.{IsLegalFor}
use Rattle.felm_engine.specs.Answers.{planned}
use Rattle.felm_session.specs.SessionValue.{SessionValue}
use Rattle.felm_session.proofs.Stepping.{in_step_legal}
use Rattle.felm_session.proofs.session.Session.legal.Goals as goal

pub returns-clause-legal : goal.returns-clause-legal
returns-clause-legal c =
    subst (λ (s : SessionValue). IsLegalFor (planned s.engine) s.engine.position.journal) c.self.view_is
    (in_step_legal c.self.inside.engine c.self.inside.cursor c.sound.ensures.sound c.self.invariant)
