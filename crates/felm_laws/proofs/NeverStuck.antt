-- A typed pair never gets stuck.
use Rattle.std.proofs.Common.{ℕ, List, [], ◌⊎◌, inl, inr, refl}
use Rattle.felm_term.specs.CoreType.{CoreType}
use Rattle.felm_term.specs.CoreTerm.{CoreTerm}
use Rattle.felm_term.specs.Typing.{HasType, AreSignals, PairHasType}
use Rattle.felm_term.specs.Reduction.{IsValue, AreSharedSignals, IsFinished, Steps}
use Rattle.felm_laws.specs.StepLaws.{GoesOn}
use Rattle.felm_laws.proofs.Formed.{shared_signals}
use Rattle.felm_laws.proofs.OneNext.{one_next}
use Rattle.felm_laws.proofs.StepTypes.{pair_typed}
use Rattle.felm_laws.proofs.Progress.{progress, Goes}
use Rattle.felm_laws.proofs.StepLaws.{steps_typed, steps_signals, signal_is_finished}

module _ (inputs : List CoreType) (wi : AreSignals inputs) where
  goes_on : (B : List CoreTerm) (e : CoreTerm) (u : CoreType) → PairHasType inputs B e u → Goes B e → GoesOn inputs B e u
  goes_on B e u h g = record {
    shared = g.0;
    next = g.1;
    step = g.2;
    typed = pair_typed inputs wi u g.2 h;
    only = λ C f s. one_next s g.2;
  }

  pair_goes_on : (B : List CoreTerm) (e : CoreTerm) (u : CoreType) → AreSharedSignals B → PairHasType inputs B e u
      → IsFinished B e ⊎ (IsValue e ⊎ GoesOn inputs B e u)
  pair_goes_on B e u a h =
      elim (progress inputs h.0 wi (shared_signals inputs [] B h.0 wi tt h.1) B e u h.2) [
        | inl v ↦ inr (inl v)
        | inr r ↦ elim r [ inl s ↦ inl (signal_is_finished B e a s) | inr g ↦ inr (inr (goes_on B e u h g)) ]
      ]

  pub never_stuck : (n : ℕ) (B : List CoreTerm) (e f : CoreTerm) (u : CoreType) → HasType inputs [] [] e u → Steps n [] e B f
      → PairHasType inputs B f u × (IsFinished B f ⊎ (IsValue f ⊎ GoesOn inputs B f u))
  never_stuck n B e f u h s =
      let typed = steps_typed inputs wi u s ([], refl, h) in
      (typed, pair_goes_on B f u (steps_signals s tt) typed)
