-- A session as contracts see it.
use Rattle.std.specs.Prelude.{◌≡◌, ℕ, ◌≤◌, List, length, take}
use Rattle.felm_term.specs.declared.event.Event.{Event}
use Rattle.felm_meaning.specs.Journals.{inputs_in}
use Rattle.felm_core.specs.Contents.{settled_at}
use Rattle.felm_engine.specs.EngineValue.{EngineValue}
use Rattle.felm_engine.specs.Answers.{planned}

-- an engine, and how many events of its plan's script were fed to it
pub record SessionValue : Type 0 where
  pub engine : EngineValue
  pub cursor : ℕ

-- the events that are fed
abbrev pub script_of : SessionValue → List Event
script_of session = session.engine.plan.script.items

-- how many messages were settled
abbrev pub settled_in : SessionValue → ℕ
settled_in session = settled_at (planned session.engine) session.engine.position

-- the input events of the journal are the script's first ones, up to the cursor
pub record IsInStep (engine : EngineValue) (cursor : ℕ) : Type 0 where
  pub within : cursor ≤ length engine.plan.script.items
  pub fed : inputs_in engine.plan.graph engine.position.journal ≡ take cursor engine.plan.script.items
