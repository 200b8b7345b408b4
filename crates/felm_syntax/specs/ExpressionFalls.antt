-- An expression is deeper than its parts.
use Rattle.std.specs.Prelude.{ℕ, max, ◌≤◌}
use Rattle.std.proofs.Common.{arith}
use Rattle.felm_syntax.specs.Expression.{depth, depth_all}
use Rattle.felm_syntax.specs.ExpressionView.{expression_of_form, expressions_of_form}
use Rattle.felm_syntax.specs.declared.expr.Form.{Form}
use Rattle.felm_syntax.specs.declared.expr.Form.TheVariants as form
use Rattle.felm_syntax.specs.declared.expr.ExprsForm.{ExprsForm}
use Rattle.felm_syntax.specs.declared.expr.ExprsForm.TheVariants as all
use Rattle.felm_syntax.specs.declared.expr.Expr.TheDeep.{deep-Form, deep-ExprsForm}

pub falls : (n : Form) (p : ℕ) → max (deep-Form n) 0 ≤ depth (expression_of_form n p)
falls form.Unit p = omega arith
falls (form.Int n) p = omega arith
falls (form.Name n) p = omega arith
falls (form.Lam n t b) p = omega arith
falls (form.App f a) p = omega arith
falls (form.Bin o a b) p = omega arith
falls (form.If c a b) p = omega arith
falls (form.Let n a b) p = omega arith
falls (form.Lift f ts) p = omega arith
falls (form.Foldp f b s) p = omega arith
falls (form.Async s) p = omega arith

pub falls_all : (n : ExprsForm) → max (deep-ExprsForm n) 0 ≤ depth_all (expressions_of_form n)
falls_all all.End = omega arith
falls_all (all.More t ts) = omega arith
