-- Files in memory that can be told to fail.
use Rattle.std.specs.Prelude.{ℕ, Bool, List, ◌||◌, is_none}
use Rattle.felm_io.specs.Calls.{CallLog, next_fails, after_call}
use Rattle.felm_io.specs.Texts.{Texts, text_under}

-- texts by name, and the loads
pub record FailingFiles : Type 0 where
  pub texts : Texts
  pub loads : CallLog

-- the next load of this name fails: its number was given, or no text has the name
abbrev pub load_fails : FailingFiles → List ℕ → Bool
load_fails files name = next_fails files.loads || is_none (text_under files.texts name)

-- one more load of this name
abbrev pub after_load : FailingFiles → List ℕ → FailingFiles
after_load files name = record files { loads = after_call files.loads (load_fails files name) }
