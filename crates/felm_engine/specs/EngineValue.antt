-- An engine as contracts see it.
use Rattle.felm_meaning.specs.declared.plan.Plan.{Plan}
use Rattle.felm_core.specs.Positions.{Position}

-- the plan that it runs, and how far it has come: all else that an engine has is the meaning of the plan at that position
pub record EngineValue : Type 0 where
  pub plan : Plan
  pub position : Position
