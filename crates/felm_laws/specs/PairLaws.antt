-- Laws of pairs: what a step shares, and how a program goes on.
use Rattle.std.specs.Prelude.{◌≡◌, ◌⊎◌, ℕ, List, [], ◌∷◌, ◌++◌}
use Rattle.felm_term.specs.CoreType.{CoreType, Signal}
use Rattle.felm_term.specs.CoreTerm.{CoreTerm}
use Rattle.felm_term.specs.Typing.{HasType, AreSignals, SharedHaveTypes}
use Rattle.felm_term.specs.Inputs.{signal_types}
use Rattle.felm_term.specs.Reduction.{IsSignalTerm, Step, Steps, IsFinished}
use Rattle.felm_term.specs.declared.input.InputDecl.{InputDecl}
use Rattle.felm_laws.specs.StepLaws.{GoesOn}

-- a step shares nothing, or one signal term at the end
abbrev pub StepsShareAtMostOne : Type 0
StepsShareAtMostOne =
    (B C : List CoreTerm) (e f : CoreTerm) → Step B e C f → (C ≡ B) ⊎ ((s : CoreTerm) × IsSignalTerm s × (C ≡ B ++ s ∷ []))

-- a step keeps the types of the signals that were shared before it
abbrev pub StepsKeepSharedTypes : Type 0
StepsKeepSharedTypes =
    (inputs shared : List CoreType) (B C : List CoreTerm) (e f : CoreTerm) (u : CoreType) → AreSignals inputs
    → SharedHaveTypes inputs [] B shared → HasType inputs shared [] e u → Step B e C f
    → (later : List CoreType) × SharedHaveTypes inputs [] C (shared ++ later) × HasType inputs (shared ++ later) [] f u

-- every pair that a program reaches is finished, or goes on: the main term of a program is a signal, so it comes to no value
abbrev pub ProgramsNeverStick : Type 0
ProgramsNeverStick =
    (inputs : List InputDecl) (n : ℕ) (B : List CoreTerm) (main f : CoreTerm) (t : CoreType)
    → HasType (signal_types inputs) [] [] main (Signal t) → Steps n [] main B f
    → IsFinished B f ⊎ GoesOn (signal_types inputs) B f (Signal t)
