-- Laws of what stands around a term: the types of inputs, of shared signals and of binders.
use Rattle.std.specs.Prelude.{◌≡◌, List, [], ◌++◌, length}
use Rattle.felm_term.specs.CoreType.{CoreType}
use Rattle.felm_term.specs.CoreTerm.{CoreTerm}
use Rattle.felm_term.specs.Typing.{HasType, AreSignals, SharedHaveTypes}

-- typed shared signals are signals of simple types, one type for each
abbrev pub SharedAreSignals : Type 0
SharedAreSignals =
    (inputs shared : List CoreType) (B : List CoreTerm) → AreSignals inputs → SharedHaveTypes inputs [] B shared
    → AreSignals shared × (length shared ≡ length B)

-- more inputs and shared signals later, and more binders further out, keep the type of a term
abbrev pub TypesStay : Type 0
TypesStay =
    (inputs added shared later binders outer : List CoreType) (e : CoreTerm) (u : CoreType) → HasType inputs shared binders e u
    → HasType (inputs ++ added) (shared ++ later) (binders ++ outer) e u
