-- Sinks in memory that can be told to fail.
use Rattle.std.specs.Prelude.{ℕ}
use Rattle.felm_io.specs.Calls.{CallLog}
use Rattle.felm_io.specs.Collected.{Collected}

-- the greatest number of bytes that a put takes, the puts, and what they gathered
pub record FailingSink : Type 0 where
  pub most : ℕ
  pub puts : CallLog
  pub gathered : Collected
