-- Binders: what functions and lets bind.
use Rattle.std.specs.Prelude.{ℕ, List, map}
use Rattle.felm_term.specs.CoreType.{CoreType}

-- a binder around an expression: its name and its type
pub record Binder : Type 0 where
  pub name : List ℕ
  pub ty : CoreType

abbrev pub names : List Binder → List (List ℕ)
names binders = map (λ binder. binder.name) binders

abbrev pub types : List Binder → List CoreType
types binders = map (λ binder. binder.ty) binders
