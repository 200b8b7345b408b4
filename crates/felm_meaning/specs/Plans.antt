-- Plans.
use Rattle.std.specs.Prelude.{◌≡◌}
use Rattle.felm_meaning.specs.declared.plan.Plan.{Plan}
use Rattle.felm_meaning.specs.PlanValue.{PlanValue}

-- what a plan is to contracts
abbrev pub plan_of : Plan → PlanValue
plan_of plan =
    record {
      graph = plan.graph;
      script = plan.script.items;
      budget = plan.limits.turn_steps;
      limit = plan.limits.journal;
      capacity = plan.limits.edge;
    }

-- equal plans: the room that is left in the script's list doesn't count
pub record SamePlan (left right : Plan) : Type 0 where
  pub graph : left.graph ≡ right.graph
  pub script : left.script.items ≡ right.script.items
  pub limits : left.limits ≡ right.limits
