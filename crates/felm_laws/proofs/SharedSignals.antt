-- What a step shares, and how a program goes on.
use Rattle.std.proofs.Common.{◌≡◌, ℕ, List, [], ◌∷◌, ◌++◌, length, ◌⊎◌, inl, inr, refl, arith}
use Rattle.felm_term.specs.CoreType.{CoreType, Signal}
use Rattle.felm_term.specs.CoreTerm.{CoreTerm, CoreTerms}
use Rattle.felm_term.specs.Typing.{HasType, AreSignals, SharedHaveTypes, PairHasType}
use Rattle.felm_term.specs.Inputs.{signal_types}
use Rattle.felm_term.specs.Reduction.{IsValue, IsSignalTerm, IsFinished, Step, StepOfArguments, op, cond, app, letv, share, in_function, in_left, in_right, in_condition, in_bound, in_lift_function, in_arguments, in_foldp_function, in_base, in_signal, in_async, in_first, in_rest, Steps}
use Rattle.felm_term.specs.declared.input.InputDecl.{InputDecl}
use Rattle.felm_laws.specs.StepLaws.{GoesOn}
use Rattle.felm_laws.proofs.Formed.{shared_signals, declared_signals}
use Rattle.felm_laws.proofs.StepTypes.{shared_length, step_typed}
use Rattle.felm_laws.proofs.Progress.{signal_value}
use Rattle.felm_laws.proofs.NeverStuck.{never_stuck}

pub shared_are_signals : (inputs shared : List CoreType) (B : List CoreTerm) → AreSignals inputs → SharedHaveTypes inputs [] B shared
    → AreSignals shared × (length shared ≡ length B)
shared_are_signals inputs shared B wi h = (shared_signals inputs [] B shared wi tt h, omega (arith, shared_length inputs [] B shared h))

-- the same shared signals, or one signal term more
abbrev pub SharesAtMostOne : List CoreTerm → List CoreTerm → Type 0
SharesAtMostOne B C = (C ≡ B) ⊎ ((s : CoreTerm) × IsSignalTerm s × (C ≡ B ++ s ∷ []))

mutual
  pub shares_at_most_one : {B C : List CoreTerm} {e f : CoreTerm} → Step B e C f → SharesAtMostOne B C
  shares_at_most_one op = inl refl
  shares_at_most_one cond = inl refl
  shares_at_most_one app = inl refl
  shares_at_most_one (letv w) = inl refl
  shares_at_most_one (share {s} w) = inr (s, w, refl)
  shares_at_most_one (in_function r) = shares_at_most_one r
  shares_at_most_one (in_left r) = shares_at_most_one r
  shares_at_most_one (in_right r) = shares_at_most_one r
  shares_at_most_one (in_condition r) = shares_at_most_one r
  shares_at_most_one (in_bound r) = shares_at_most_one r
  shares_at_most_one (in_lift_function r) = shares_at_most_one r
  shares_at_most_one (in_arguments w r) = arguments_share_at_most_one r
  shares_at_most_one (in_foldp_function r) = shares_at_most_one r
  shares_at_most_one (in_base w r) = shares_at_most_one r
  shares_at_most_one (in_signal w x r) = shares_at_most_one r
  shares_at_most_one (in_async r) = shares_at_most_one r

  arguments_share_at_most_one : {B C : List CoreTerm} {ts us : CoreTerms} → StepOfArguments B ts C us → SharesAtMostOne B C
  arguments_share_at_most_one (in_first r) = shares_at_most_one r
  arguments_share_at_most_one (in_rest w r) = arguments_share_at_most_one r

pub shared_types_kept : (inputs shared : List CoreType) (B C : List CoreTerm) (e f : CoreTerm) (u : CoreType) → AreSignals inputs
    → SharedHaveTypes inputs [] B shared → HasType inputs shared [] e u → Step B e C f
    → (later : List CoreType) × SharedHaveTypes inputs [] C (shared ++ later) × HasType inputs (shared ++ later) [] f u
shared_types_kept inputs shared B C e f u wi w h r = step_typed inputs wi shared u r w h

-- a signal has no value
module _ (inputs : List CoreType) (wi : AreSignals inputs) where
  no_signal_value : (B : List CoreTerm) (v : CoreTerm) (t : CoreType) → PairHasType inputs B v (Signal t) → ¬ IsValue v
  no_signal_value B v t h w = signal_value inputs h.0 wi (shared_signals inputs [] B h.0 wi tt h.1) B v t w h.2

pub program_never_stuck : (inputs : List InputDecl) (n : ℕ) (B : List CoreTerm) (main f : CoreTerm) (t : CoreType)
    → HasType (signal_types inputs) [] [] main (Signal t) → Steps n [] main B f
    → IsFinished B f ⊎ GoesOn (signal_types inputs) B f (Signal t)
program_never_stuck inputs n B main f t h r =
    let wi = declared_signals inputs in
    let k = never_stuck (signal_types inputs) wi n B main f (Signal t) h r in
    elim k.1 [
      | inl finished ↦ inl finished
      | inr going ↦ elim going [ inl v ↦ absurd (no_signal_value (signal_types inputs) wi B f t k.0 v) | inr g ↦ inr g ]
    ]
