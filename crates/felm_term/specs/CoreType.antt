-- Types, and the two layers of well-formed types.
use Rattle.std.specs.Prelude.{ℕ, ◌+◌, max, Bool, true, false, ◌&&◌, ◌||◌}

-- a type, as contracts see a `Ty`
pub data CoreType : Type 0 where
  Unit : CoreType
  Int : CoreType
  Arrow : (from to : CoreType) → CoreType
  Signal : (of : CoreType) → CoreType

-- a measure for the code: a type is deeper than its parts
abbrev pub depth : CoreType → ℕ
depth Unit = 1
depth Int = 1
depth (Arrow from to) = max (depth from) (depth to) + 1
depth (Signal of) = depth of + 1

-- unit, int, and functions between simple types
abbrev pub is_simple : CoreType → Bool
is_simple Unit = true
is_simple Int = true
is_simple (Arrow from to) = is_simple from && is_simple to
is_simple (Signal of) = false

-- signals of a simple type, and functions from either layer to a signal type
abbrev pub is_signal : CoreType → Bool
is_signal Unit = false
is_signal Int = false
is_signal (Arrow from to) = (is_simple from || is_signal from) && is_signal to
is_signal (Signal of) = is_simple of

-- in one of the two layers
abbrev pub is_well_formed : CoreType → Bool
is_well_formed type = is_simple type || is_signal type

-- the signal of a simple type, as inputs and shared signals are
abbrev pub is_simple_signal : CoreType → Bool
is_simple_signal (Signal of) = is_simple of
is_simple_signal _ = false
