-- The turn that its fields stand for.
use Rattle.felm_meaning.specs.Turns.{TurnValue}
use Rattle.felm_meaning.specs.declared.turn.Turn.TheInside.{Inside}

abbrev pub turn_of : Inside → TurnValue
turn_of a = record { node = a.node; position = a.position; job = a.job; previous = a.previous; inputs = a.inputs; budget = a.budget }
