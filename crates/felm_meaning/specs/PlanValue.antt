-- What a plan is to contracts.
use Rattle.std.specs.Prelude.{ℕ, List}
use Rattle.felm_term.specs.declared.event.Event.{Event}
use Rattle.felm_graph.specs.GraphValue.{GraphValue}

pub record PlanValue : Type 0 where
  pub graph : GraphValue
  -- the events that the outside sends
  pub script : List Event
  -- how many steps of reduction one call may take
  pub budget : ℕ
  -- how many events a journal may have
  pub limit : ℕ
  -- how many messages an edge may hold
  pub capacity : ℕ
