-- A count that each failed load raises by one.
use Rattle.std.proofs.Common.{◌≡◌, ◌≤◌, ℕ, List, Result, Ok, Err, IfOk, arith}
use Rattle.felm_io.specs.Causes.{CountedLoad, faults_after}
use Rattle.felm_io.specs.declared.files.LoadFail.{LoadFail}
use Rattle.felm_io.specs.declared.files.LoadFail.TheVariants.{Failed, Memory}

-- what holds of every value holds of one that is there
pub if_ok_each : {T E : Type 0} (result : Result T E) (P : T → Type 0) → ((x : T) → P x) → IfOk result P
if_ok_each (Ok x) P each = each x
if_ok_each (Err e) P each = tt

pub counted_load : {T : Type 0} (result : Result T LoadFail) (before now : ℕ) (name : List ℕ) → now ≡ faults_after before result
    → CountedLoad (λ _. before) (λ _. now) name result
counted_load (Ok x) before now name is = λ _. is
counted_load (Err Failed) before now name is = omega (arith, is)
counted_load (Err Memory) before now name is = λ _. is

pub faults_after_rises : {T : Type 0} (result : Result T LoadFail) (before now : ℕ) → now ≡ faults_after before result → before ≤ now
faults_after_rises (Ok x) before now is = omega (arith, is)
faults_after_rises (Err Failed) before now is = omega (arith, is)
faults_after_rises (Err Memory) before now is = omega (arith, is)
