-- The expression that a form and a place stand for.
use Rattle.std.specs.Prelude.{ℕ}
use Rattle.felm_syntax.specs.Expression.{Expression, Expressions}
use Rattle.felm_syntax.specs.Expression as expression
use Rattle.felm_syntax.specs.declared.expr.Form.{Form}
use Rattle.felm_syntax.specs.declared.expr.Form.TheVariants as form
use Rattle.felm_syntax.specs.declared.expr.ExprsForm.{ExprsForm}
use Rattle.felm_syntax.specs.declared.expr.ExprsForm.TheVariants as all

abbrev pub expression_of_form : Form → ℕ → Expression
expression_of_form form.Unit p = expression.Unit p
expression_of_form (form.Int n) p = expression.Int n p
expression_of_form (form.Name n) p = expression.Name n p
expression_of_form (form.Lam n t b) p = expression.Lam n t.ty t.at b.value p
expression_of_form (form.App f a) p = expression.App f.value a.value p
expression_of_form (form.Bin o a b) p = expression.Bin o a.value b.value p
expression_of_form (form.If c a b) p = expression.If c.value a.value b.value p
expression_of_form (form.Let n a b) p = expression.Let n a.value b.value p
expression_of_form (form.Lift f ts) p = expression.Lift f.value ts.value p
expression_of_form (form.Foldp f b s) p = expression.Foldp f.value b.value s.value p
expression_of_form (form.Async s) p = expression.Async s.value p

abbrev pub expressions_of_form : ExprsForm → Expressions
expressions_of_form all.End = expression.End
expressions_of_form (all.More t ts) = expression.More t ts.value
