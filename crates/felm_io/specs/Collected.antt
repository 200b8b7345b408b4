-- What a sink in memory gathers.
use Rattle.std.specs.Prelude.{◌≡◌, ℕ, List, ◌++◌, take, Result, Ok, Err}
use Rattle.felm_io.specs.Causes.{raised}
use Rattle.felm_io.specs.declared.sink.SinkFail.{SinkFail}
use Rattle.felm_io.specs.declared.sink.SinkFail.TheVariants.{Failed, Memory}

-- the bytes so far, and how many puts found no memory
pub record Collected : Type 0 where
  pub bytes : List ℕ
  pub short : ℕ

-- a put appended the bytes that it took, and one that found no memory is counted
abbrev pub Collects : Collected → Collected → List ℕ → Result ℕ SinkFail → Type 0
Collects before now piece (Ok count) = now ≡ record before { bytes = before.bytes ++ take count piece }
Collects before now piece (Err Failed) = now ≡ before
Collects before now piece (Err Memory) = now ≡ record before { short = raised before.short }
