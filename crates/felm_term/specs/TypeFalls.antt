-- A type is deeper than its parts.
use Rattle.std.specs.Prelude.{max, ◌≤◌}
use Rattle.std.proofs.Common.{arith}
use Rattle.felm_term.specs.CoreType.{depth}
use Rattle.felm_term.specs.TypeView.{type_of_form}
use Rattle.felm_term.specs.declared.ty.TyForm.{TyForm}
use Rattle.felm_term.specs.declared.ty.TyForm.TheVariants as form
use Rattle.felm_term.specs.declared.ty.Ty.TheDeep.{deep-TyForm}

pub falls : (form : TyForm) → max (deep-TyForm form) 0 ≤ depth (type_of_form form)
falls form.Unit = omega arith
falls form.Int = omega arith
falls (form.Arrow from to) = omega arith
falls (form.Signal of) = omega arith
