-- The values that wait in a queue.
use Rattle.std.specs.Prelude.{List}
use Rattle.felm_term.specs.declared.value.Value.{Value}

abbrev pub Left : Type 0
Left = List Value
