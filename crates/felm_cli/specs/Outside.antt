-- What is outside: files and sinks, before a call and after it.
use Rattle.std.specs.Prelude.{◌≡◌, ℕ, List, Option}

-- the bytes under each name, where they are known, and how often a load of it failed
pub record FilesValue : Type 0 where
  pub bytes : List ℕ → Option (List ℕ)
  pub faults : List ℕ → ℕ

-- the bytes so far, where they are known, and how often a put failed or found no memory
pub record SinkValue : Type 0 where
  pub bytes : Option (List ℕ)
  pub faults : ℕ
  pub short : ℕ

abbrev pub files_of : (List ℕ → Option (List ℕ)) → (List ℕ → ℕ) → FilesValue
files_of bytes faults = record { bytes = bytes; faults = faults }

abbrev pub sink_of : Option (List ℕ) → ℕ → ℕ → SinkValue
sink_of bytes faults short = record { bytes = bytes; faults = faults; short = short }

-- the counts of a sink stay
abbrev pub CountsStay : SinkValue → SinkValue → Type 0
CountsStay out out' = (out'.faults ≡ out.faults) × (out'.short ≡ out.short)
