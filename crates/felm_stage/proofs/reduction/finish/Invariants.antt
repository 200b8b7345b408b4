use Rattle.felm_stage.specs.Outcome.{IsUnderWay}
use Rattle.felm_stage.proofs.reduction.finish.Given as goal

abbrev pub invariant-steps : goal.invariant-steps
invariant-steps l = IsUnderWay l.budget l.fn.term l.shared.items l.frames.items l.focus l.left

abbrev pub decreases-steps : goal.decreases-steps
decreases-steps l = l.left
