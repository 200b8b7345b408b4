-- What the code keeps of the arguments of a lift.
use Rattle.std.specs.Prelude.{List, Option, None, Ok, if◌then◌else◌}
use Rattle.std.specs.Option.{option_map, option_and_then}
use Rattle.felm_term.specs.CoreType.{CoreType, Signal}
use Rattle.felm_term.specs.CoreTerm.{CoreTerms}
use Rattle.felm_term.specs.FoundType.{is_liftable}
use Rattle.felm_types.specs.Judgement.{Judged, ◌>>=◌, taken}

-- what is left of a function's type, if there is one, by the arguments that are judged
abbrev pub left_by : Option CoreType → Judged (List CoreType) → Judged (Option CoreType)
left_by left arguments = arguments >>= λ signals. Ok (option_and_then (λ p. taken p signals) left)

-- the type of a lift, by what is left of its function's type and by its arguments
abbrev pub lifted : Option CoreType → CoreTerms → Option CoreType
lifted left arguments = if is_liftable arguments then option_map Signal left else None
