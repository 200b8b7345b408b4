-- The binders around an expression.
use Rattle.std.specs.Prelude.{List, [], ◌∷◌}
use Rattle.felm_types.specs.Binder.{Binder}
use Rattle.felm_types.specs.declared.scope.Scope.{Scope}
use Rattle.felm_types.specs.declared.scope.Scope as scope

-- the nearest binder first
abbrev pub binders_in : Scope → List Binder
binders_in scope.Outside = []
binders_in (scope.Under' name ty p outer) = record { name = name.now; ty = ty.now } ∷ binders_in outer
