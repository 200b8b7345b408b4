-- The computed turn that its fields stand for.
use Rattle.felm_meaning.specs.Outcomes.{DoneValue}
use Rattle.felm_meaning.specs.declared.done.Done.TheInside.{Inside}

abbrev pub done_of : Inside → DoneValue
done_of a = record { turn = a.turn; outcome = a.outcome }
