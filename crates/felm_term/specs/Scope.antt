-- The types of the binders around a term.
use Rattle.std.specs.Prelude.{List, [], ◌∷◌}
use Rattle.felm_term.specs.CoreType.{CoreType}
use Rattle.felm_term.specs.declared.scope.Scope.{Scope}
use Rattle.felm_term.specs.declared.scope.Scope as scope

-- the nearest binder first
abbrev pub types_in : Scope → List CoreType
types_in scope.Outside = []
types_in (scope.Under' ty p outer) = ty.now ∷ types_in outer
