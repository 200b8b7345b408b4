-- A stop as contracts see it.
use Rattle.std.specs.Prelude.{Option}
use Rattle.std.specs.Option.{option_map}
use Rattle.felm_core.specs.Positions.{StopValue}
use Rattle.felm_engine.specs.declared.answers.Stop.{Stop}

abbrev pub stop_of : Option Stop → Option StopValue
stop_of stop = option_map (λ s. record { node = s.node; position = s.position }) stop
