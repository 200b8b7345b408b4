-- Laws of calls.
use Rattle.std.specs.Prelude.{◌≡◌, ℕ, List, Option}
use Rattle.felm_term.specs.CoreTerm.{CoreTerm}
use Rattle.felm_term.specs.Call.{CallGives}
use Rattle.felm_laws.specs.Calls.{call}

-- the computed call is the one by reduction
abbrev pub CallComputes : Type 0
CallComputes = (f : CoreTerm) (arguments : List CoreTerm) (budget : ℕ) → CallGives f arguments budget (call f arguments budget)

-- a call gives one value, or none
abbrev pub OneCall : Type 0
OneCall =
    (f : CoreTerm) (arguments : List CoreTerm) (budget : ℕ) (v w : Option CoreTerm) → CallGives f arguments budget v → CallGives f arguments budget w
    → v ≡ w
