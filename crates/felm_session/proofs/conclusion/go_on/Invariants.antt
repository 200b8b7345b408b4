use Rattle.felm_engine.specs.Answers.{NoneOut}
use Rattle.felm_session.specs.Concluding.{Reaches, left_for}
use Rattle.felm_session.proofs.conclusion.go_on.Given as goal

abbrev pub invariant-steps : goal.invariant-steps
invariant-steps l = record {
  reaches : Reaches l.fn.session.engine l.session.engine;
  none_out : NoneOut l.session.engine.position;
}

abbrev pub decreases-steps : goal.decreases-steps
decreases-steps l = left_for l.session.engine
