-- A sink to a stream.
use Rattle.std.specs.Prelude.{ℕ}

-- the stream, and how many writes to it were faults
pub record Streamed (W : Type 0) : Type 0 where
  pub stream : W
  pub faults : ℕ
