-- Events at the inputs of a graph.
use Rattle.std.specs.Prelude.{Bool, true, false, List, slice_get}
use Rattle.std.specs.List.{list_all}
use Rattle.std.specs.Option.{option_map_or}
use Rattle.felm_term.specs.declared.event.Event.{Event}
use Rattle.felm_term.specs.declared.value.Value.{Value}
use Rattle.felm_term.specs.declared.value.Value.TheVariants as value
use Rattle.felm_term.specs.declared.input.InputDecl.{InputDecl}
use Rattle.felm_term.specs.declared.input.InputTy.{InputTy}
use Rattle.felm_term.specs.declared.input.InputTy.TheVariants as type

-- whether a value is of an input's type
abbrev pub has_type : InputTy → Value → Bool
has_type type.Int (value.Int number) = true
has_type type.Unit value.Unit = true
has_type ty value = false

-- whether the source of an event is an input, and its value of that input's type
abbrev pub fits : List InputDecl → Event → Bool
fits inputs event = option_map_or (λ input. has_type input.ty event.value) (slice_get inputs event.source) false

-- whether each event fits
abbrev pub all_fit : List InputDecl → List Event → Bool
all_fit inputs events = list_all (fits inputs) events
