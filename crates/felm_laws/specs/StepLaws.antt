-- Laws of reduction.
use Rattle.std.specs.Prelude.{◌≡◌, ℕ, ◌⊎◌, IsTrue, List, []}
use Rattle.felm_term.specs.CoreType.{CoreType, is_simple}
use Rattle.felm_term.specs.CoreTerm.{CoreTerm}
use Rattle.felm_term.specs.Typing.{HasType, AreSignals, PairHasType}
use Rattle.felm_term.specs.Reduction.{IsValue, IsSignalTerm, AreSharedSignals, Step, Steps, HasNoStep, IsFinished}

-- a pair has at most one next pair
abbrev pub OneNextPair : Type 0
OneNextPair = (B C D : List CoreTerm) (e f g : CoreTerm) → Step B e C f → Step B e D g → (C ≡ D) × (f ≡ g)

-- a value takes no step
abbrev pub ValuesStay : Type 0
ValuesStay = (B : List CoreTerm) (v : CoreTerm) → IsValue v → HasNoStep B v

-- a signal term takes no step
abbrev pub SignalTermsStay : Type 0
SignalTermsStay = (B : List CoreTerm) (s : CoreTerm) → IsSignalTerm s → HasNoStep B s

-- so beside shared signals it is a finished pair
abbrev pub SignalTermsAreFinished : Type 0
SignalTermsAreFinished = (B : List CoreTerm) (s : CoreTerm) → AreSharedSignals B → IsSignalTerm s → IsFinished B s

-- a pair comes to one end at most, and by one number of steps
abbrev pub OneEnd : Type 0
OneEnd =
    (m n : ℕ) (B C D : List CoreTerm) (e f g : CoreTerm) → Steps m B e C f → HasNoStep C f → Steps n B e D g → HasNoStep D g
    → (m ≡ n) × (C ≡ D) × (f ≡ g)

-- steps keep the type of a pair
abbrev pub StepsKeepTypes : Type 0
StepsKeepTypes =
    (inputs : List CoreType) (n : ℕ) (B C : List CoreTerm) (e f : CoreTerm) (u : CoreType) → AreSignals inputs → Steps n B e C f
    → PairHasType inputs B e u → PairHasType inputs C f u

-- the shared signals stay signal terms
abbrev pub StepsShareSignalTerms : Type 0
StepsShareSignalTerms =
    (n : ℕ) (B C : List CoreTerm) (e f : CoreTerm) → Steps n B e C f → AreSharedSignals B → AreSharedSignals C

-- exactly one next pair, of the same type
pub record GoesOn (inputs : List CoreType) (B : List CoreTerm) (e : CoreTerm) (u : CoreType) : Type 0 where
  pub shared : List CoreTerm
  pub next : CoreTerm
  pub step : Step B e shared next
  pub typed : PairHasType inputs shared next u
  pub only : (C : List CoreTerm) (f : CoreTerm) → Step B e C f → (C ≡ shared) × (f ≡ next)

-- every pair that a typed term reaches is finished, or a value, or goes on with the same type
abbrev pub PairsNeverStick : Type 0
PairsNeverStick =
    (inputs : List CoreType) (n : ℕ) (B : List CoreTerm) (e f : CoreTerm) (u : CoreType) → AreSignals inputs → HasType inputs [] [] e u
    → Steps n [] e B f → PairHasType inputs B f u × (IsFinished B f ⊎ (IsValue f ⊎ GoesOn inputs B f u))

-- exactly one next term, of the same type, beside any shared signals
pub record GoesOnAlone (e : CoreTerm) (u : CoreType) : Type 0 where
  pub next : CoreTerm
  pub step : (B : List CoreTerm) → Step B e B next
  pub typed : HasType [] [] [] next u
  pub only : (B C : List CoreTerm) (f : CoreTerm) → Step B e C f → (C ≡ B) × (f ≡ next)

-- a closed term of a simple type shares nothing, and each term that it reaches is a value or goes on with the same type
abbrev pub SimpleTermsNeverStick : Type 0
SimpleTermsNeverStick =
    (n : ℕ) (B C : List CoreTerm) (e f : CoreTerm) (u : CoreType) → IsTrue (is_simple u) → HasType [] [] [] e u → Steps n B e C f
    → (C ≡ B) × HasType [] [] [] f u × (IsValue f ⊎ GoesOnAlone f u)
