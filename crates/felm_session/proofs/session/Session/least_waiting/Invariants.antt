use Rattle.std.proofs.Common.{ℕ, ◌<◌}
use Rattle.felm_session.specs.Answers.{NoneWaits}
use Rattle.felm_session.proofs.session.Session.least_waiting.Given as goal

abbrev pub invariant-loop-node : goal.invariant-loop-node
invariant-loop-node l = (x : ℕ) → x < l.node → NoneWaits l.self.engine x
