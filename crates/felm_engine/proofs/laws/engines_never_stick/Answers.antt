use Rattle.std.proofs.Common.{inl, inr}
use Rattle.felm_core.proofs.Sticks.{never_sticks, settled_rests}
use Rattle.felm_engine.specs.Answers.{planned}
use Rattle.felm_engine.proofs.EngineLaws.{not_ready_means, none_ready_means}
use Rattle.felm_engine.proofs.laws.engines_never_stick.Goals as goal

pub returns : goal.returns
returns c = λ old new answer graph sound none_out no_stop next. (
  (λ e. elim (never_sticks (planned old) old.position graph sound old.plan.limits.edge_in_range.0 none_out no_stop) [
    | inl settled ↦ settled
    | inr ready ↦ absurd (not_ready_means old new answer next e ready.0 ready.1)
  ]),
  (λ settled. none_ready_means old new answer next (settled_rests (planned old) old.position graph sound settled)),
)
