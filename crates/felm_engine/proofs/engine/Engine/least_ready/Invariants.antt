use Rattle.std.proofs.Common.{ℕ, ◌<◌}
use Rattle.felm_core.specs.Positions.{IsReady}
use Rattle.felm_engine.specs.Answers.{planned}
use Rattle.felm_engine.proofs.engine.Engine.least_ready.Given as goal

abbrev pub invariant-loop-node : goal.invariant-loop-node
invariant-loop-node l = (k : ℕ) → k < l.node → ¬ IsReady (planned l.self) l.self.position k
