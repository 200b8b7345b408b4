-- A turn as contracts see it.
use Rattle.std.specs.Prelude.{ℕ, List}
use Rattle.felm_term.specs.declared.value.Value.{Value}
use Rattle.felm_term.specs.declared.message.Message.{Message}
use Rattle.felm_meaning.specs.declared.job.Job.{Job}

pub record TurnValue : Type 0 where
  -- the node whose turn it is
  pub node : ℕ
  -- the position of its message, counted from 1
  pub position : ℕ
  pub job : Job
  -- the value that the node had at the position before
  pub previous : Value
  -- the messages of its arguments at the position
  pub inputs : List Message
  -- how many steps of reduction its call may take
  pub budget : ℕ
