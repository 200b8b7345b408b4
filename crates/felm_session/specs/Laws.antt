-- Laws of sessions, and of how runs are concluded.
use Rattle.std.specs.Prelude.{◌≡◌, ℕ, Some}
use Rattle.felm_graph.specs.Graphs.{IsGraph}
use Rattle.felm_meaning.specs.declared.history.History.{History}
use Rattle.felm_meaning.specs.declared.history.RunEnd.TheVariants.{Complete}
use Rattle.felm_meaning.specs.Nodes.{inner}
use Rattle.felm_meaning.specs.PlanValue.{PlanValue}
use Rattle.felm_meaning.specs.Histories.{SameHistory, IsConcluded}
use Rattle.felm_core.specs.Positions.{IsSound, IsSettled}
use Rattle.felm_engine.specs.Answers.{planned}
use Rattle.felm_engine.specs.declared.answers.Fed.TheVariants as fed
use Rattle.felm_session.specs.SessionValue.{SessionValue}
use Rattle.felm_session.specs.Answers.{FedAs, EnteredAt, EnteredNext}

-- where all is settled, no feed and no entry lacks room
abbrev pub SettledSessionsHaveRoom : Type 0
SettledSessionsHaveRoom =
    (old new : SessionValue) (a : ℕ) → IsGraph old.engine.plan.graph → IsSound (planned old.engine) old.engine.position
    → IsSettled (planned old.engine) old.engine.position
    → (¬ FedAs old new fed.NoRoom) × (¬ EnteredAt old a new fed.NoRoom) × (¬ EnteredNext old new fed.NoRoom)

-- without asyncs all complete ends of a plan are one: its journal is the script
abbrev pub WithoutAsyncsOneEnd : Type 0
WithoutAsyncsOneEnd =
    (plan : PlanValue) (left right : History) → ((a x : ℕ) → ¬ (inner plan.graph.nodes a ≡ Some x)) → IsConcluded plan (Complete left)
    → IsConcluded plan (Complete right) → SameHistory left right × (left.journal.items ≡ plan.script)
