-- What the fields of an engine stand for, and what they keep.
use Rattle.std.specs.Prelude.{◌≡◌, ℕ, ◌≤◌, List, length, map}
use Rattle.felm_graph.specs.Graphs.{IsGraph}
use Rattle.felm_meaning.specs.PlanValue.{PlanValue}
use Rattle.felm_meaning.specs.Plans.{plan_of}
use Rattle.felm_meaning.specs.Types.{EventsFit}
use Rattle.felm_core.specs.Positions.{Position, IsSound}
use Rattle.felm_core.specs.Holds.{Parts, Spares, Holds, KeepsRoom}
use Rattle.felm_edges.specs.EdgesValue.{wiring_of, edge_in}
use Rattle.felm_engine.specs.EngineValue.{EngineValue}
use Rattle.felm_engine.specs.Answers.{turns_out_at}
use Rattle.felm_engine.specs.Lists.{AreAsyncs, sources_of}
use Rattle.felm_engine.specs.Queued.{QueueValue, queue_at}
use Rattle.felm_engine.specs.Stops.{stop_of}
use Rattle.felm_engine.specs.declared.engine.Engine.TheInside.{Inside}

abbrev pub position_of : Inside → Position
position_of a = record { journal = a.journal.items; done = a.done.items; out = a.out.items; stop = stop_of a.stop }

abbrev pub engine_of : Inside → EngineValue
engine_of a = record { plan = a.plan; position = position_of a }

-- ---- parts, which hold what the meaning has at the position

abbrev pub parts_of : Inside → Parts
parts_of a = record {
  kept = a.kept.items;
  waiting = map (λ (queue : QueueValue). queue.items) a.waiting;
  outputs = a.outputs.items;
  settled = a.turns_settled;
}

abbrev pub spares_of : Inside → Spares
spares_of a = record { waiting = λ k. (queue_at a.waiting k).spare; outputs = a.outputs.spare }

-- what is made once from the plan, and the facts of the plan that are used
pub record IsMade (plan : PlanValue) (wiring : List (List ℕ)) (capacity : ℕ) (asyncs : List (List ℕ)) (sources : List ℕ) : Type 0 where
  pub graph : IsGraph plan.graph
  pub wiring_is : wiring ≡ wiring_of plan.graph.nodes
  pub capacity_is : capacity ≡ plan.capacity
  pub asyncs_are : AreAsyncs plan.graph.nodes asyncs
  pub sources_are : sources ≡ sources_of plan.graph.nodes (length plan.graph.nodes)
  pub least : 1 ≤ plan.capacity
  pub most : plan.limit ≤ 16777216

-- the fields stand for a sound position: they hold what lies there, with room for what is owed
pub record IsStanding (a : Inside) : Type 0 where
  pub made : IsMade (plan_of a.plan) a.edges.wiring a.edges.capacity a.asyncs a.sources.items
  pub sound : IsSound (plan_of a.plan) (position_of a)
  pub typed : EventsFit a.plan.graph a.journal.items
  pub holds : Holds (plan_of a.plan) (position_of a) (edge_in a.edges) (parts_of a)
  pub room : KeepsRoom (plan_of a.plan) (position_of a) (spares_of a)
  pub counted : a.turns_out ≡ turns_out_at (position_of a)
