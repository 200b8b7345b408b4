-- Which events of an async may come in.
use Rattle.std.specs.Prelude.{◌≡◌, ℕ, Some, slice_get}
use Rattle.felm_term.specs.declared.event.Event.{Event}
use Rattle.felm_meaning.specs.Nodes.{inner}
use Rattle.felm_core.specs.Contents.{waiting_at}
use Rattle.felm_engine.specs.EngineValue.{EngineValue}
use Rattle.felm_engine.specs.Answers.{planned}

-- its source is an async
abbrev pub IsOfAsync : EngineValue → Event → Type 0
IsOfAsync engine e = (x : ℕ) × (inner engine.plan.graph.nodes e.source ≡ Some x)

-- its value is the one that has waited longest there
abbrev pub IsFirst : EngineValue → Event → Type 0
IsFirst engine e = slice_get (waiting_at (planned engine) engine.position e.source) 0 ≡ Some e.value
