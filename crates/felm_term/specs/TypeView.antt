-- The type that a form stands for.
use Rattle.felm_term.specs.CoreType.{CoreType}
use Rattle.felm_term.specs.CoreType as core
use Rattle.felm_term.specs.declared.ty.TyForm.{TyForm}
use Rattle.felm_term.specs.declared.ty.TyForm.TheVariants as form

abbrev pub type_of_form : TyForm → CoreType
type_of_form form.Unit = core.Unit
type_of_form form.Int = core.Int
type_of_form (form.Arrow from to) = core.Arrow from.value to.value
type_of_form (form.Signal of) = core.Signal of.value
