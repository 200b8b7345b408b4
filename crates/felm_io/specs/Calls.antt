-- The calls of an object in memory that can be told to fail.
use Rattle.std.specs.Prelude.{ℕ, Bool, List, [], ◌∷◌, ◌++◌, ◌==◌, if◌then◌else◌}
use Rattle.std.specs.List.{list_any}
use Rattle.felm_io.specs.Causes.{raised}

-- the numbers of the calls that are to fail, and how many calls and faults there were
pub record CallLog : Type 0 where
  pub failing : List ℕ
  pub made : ℕ
  pub faults : ℕ

-- no call so far, and none that is to fail
abbrev pub no_calls : CallLog
no_calls = record { failing = []; made = 0; faults = 0 }

-- one more call that is to fail
abbrev pub failing_at : CallLog → ℕ → CallLog
failing_at calls call = record calls { failing = calls.failing ++ call ∷ [] }

-- the next call is one that is to fail
abbrev pub next_fails : CallLog → Bool
next_fails calls = list_any (λ call. call == raised calls.made) calls.failing

-- one more call, which failed or not
abbrev pub after_call : CallLog → Bool → CallLog
after_call calls failed = record calls {
  made = raised calls.made;
  faults = if failed then raised calls.faults else calls.faults;
}
