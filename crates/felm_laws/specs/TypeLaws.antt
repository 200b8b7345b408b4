-- Laws of typing.
use Rattle.std.specs.Prelude.{◌≡◌, IsTrue, List, [], ◌∷◌}
use Rattle.felm_term.specs.CoreType.{CoreType, is_simple, is_well_formed}
use Rattle.felm_term.specs.CoreTerm.{CoreTerm, Lam}
use Rattle.felm_term.specs.Typing.{HasType, AreSignals, IsFunction}
use Rattle.felm_term.specs.Substitution.{substitute}
use Rattle.felm_term.specs.Inputs.{signal_types}
use Rattle.felm_term.specs.declared.input.InputDecl.{InputDecl}

abbrev pub AreWellFormed : List CoreType → Type 0
AreWellFormed [] = Unit {0}
AreWellFormed (t ∷ ts) = IsTrue (is_well_formed t) × AreWellFormed ts

abbrev pub AreSimple : List CoreType → Type 0
AreSimple [] = Unit {0}
AreSimple (t ∷ ts) = IsTrue (is_simple t) × AreSimple ts

-- a term has at most one type
abbrev pub OneType : Type 0
OneType =
    (inputs shared binders : List CoreType) (e : CoreTerm) (u v : CoreType) → HasType inputs shared binders e u
    → HasType inputs shared binders e v → u ≡ v

-- declared inputs are signals of simple types
abbrev pub InputsAreSignals : Type 0
InputsAreSignals = (declared : List InputDecl) → AreSignals (signal_types declared)

-- what has a type has a well-formed one
abbrev pub TypesAreWellFormed : Type 0
TypesAreWellFormed =
    (inputs shared binders : List CoreType) (e : CoreTerm) (u : CoreType) → AreSignals inputs → AreSignals shared → AreWellFormed binders
    → HasType inputs shared binders e u → IsTrue (is_well_formed u)

-- a closed term of a binder's type in the place of the binder's variable keeps the body's type
abbrev pub SubstitutionKeepsTypes : Type 0
SubstitutionKeepsTypes =
    (inputs shared : List CoreType) (v body : CoreTerm) (p u : CoreType) → HasType inputs shared [] v p → HasType inputs shared (p ∷ []) body u
    → HasType inputs shared [] (substitute v body) u

-- a term of a simple type under binders of simple types names no input and no shared signal
abbrev pub SimpleTermsNameNoSignals : Type 0
SimpleTermsNameNoSignals =
    (inputs shared binders : List CoreType) (e : CoreTerm) (u : CoreType) → AreSignals inputs → AreSignals shared → AreSimple binders
    → IsTrue (is_simple u) → HasType inputs shared binders e u → HasType [] [] binders e u

-- a function of a simple type is closed under no inputs and no shared signals, as values are
abbrev pub SimpleFunctionsAreValues : Type 0
SimpleFunctionsAreValues =
    (inputs shared : List CoreType) (p : CoreType) (b : CoreTerm) (u : CoreType) → AreSignals inputs → AreSignals shared → IsTrue (is_simple u)
    → HasType inputs shared [] (Lam p b) u → IsFunction (Lam p b)
