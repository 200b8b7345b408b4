-- Laws of substitution: a closed term in the place of a variable.
use Rattle.std.specs.Prelude.{◌≡◌, ◌≢◌, ℕ, List, [], ◌∷◌, ◌++◌, length}
use Rattle.felm_term.specs.CoreType.{CoreType}
use Rattle.felm_term.specs.CoreTerm.{CoreTerm}
use Rattle.felm_term.specs.Typing.{HasType}
use Rattle.felm_term.specs.Substitution.{substitute, substitute_at}
use Rattle.felm_term.specs.Values.{term_of}
use Rattle.felm_term.specs.declared.value.Value.{Value}

-- a closed term of the outermost binder's type, in the place of that binder's variable, keeps the type of what the other binders enclose
abbrev pub OuterSubstitutionKeepsTypes : Type 0
OuterSubstitutionKeepsTypes =
    (inputs shared binders : List CoreType) (v e : CoreTerm) (p u : CoreType) → HasType inputs shared [] v p
    → HasType inputs shared (binders ++ p ∷ []) e u → HasType inputs shared binders (substitute_at (length binders) v e) u

-- a value of a binder's type, in the place of the binder's variable, keeps the body's type, beside any inputs and shared signals
abbrev pub ValuesKeepTypes : Type 0
ValuesKeepTypes =
    (inputs shared : List CoreType) (v : Value) (body : CoreTerm) (p u : CoreType) → HasType [] [] [] (term_of v) p
    → HasType inputs shared (p ∷ []) body u → HasType inputs shared [] (substitute (term_of v) body) u

-- a closed term has no variable that a term could be put for
abbrev pub ClosedTermsStay : Type 0
ClosedTermsStay =
    (inputs shared : List CoreType) (e : CoreTerm) (u : CoreType) → HasType inputs shared [] e u
    → (k : ℕ) (v : CoreTerm) → substitute_at k v e ≡ e

-- closed terms are put for two variables in either order
abbrev pub SubstitutionsCommute : Type 0
SubstitutionsCommute =
    (inputs shared : List CoreType) (v w : CoreTerm) (p q : CoreType) (j k : ℕ) (e : CoreTerm) → HasType inputs shared [] v p
    → HasType inputs shared [] w q → j ≢ k → substitute_at j v (substitute_at k w e) ≡ substitute_at k w (substitute_at j v e)
