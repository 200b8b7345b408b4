-- How many functions and lets there are: each binds a name.
use Rattle.std.specs.Prelude.{ℕ, ◌+◌}
use Rattle.felm_syntax.specs.Expression.{Expression, Expressions}
use Rattle.felm_syntax.specs.Expression as expression

abbrev mutual
  -- how many functions and lets an expression has, itself among them
  pub binders : Expression → ℕ
  binders (expression.Unit p) = 0
  binders (expression.Int n p) = 0
  binders (expression.Name x p) = 0
  binders (expression.Lam x t q b p) = binders b + 1
  binders (expression.App f a p) = binders f + binders a
  binders (expression.Bin o a b p) = binders a + binders b
  binders (expression.If c a b p) = binders c + (binders a + binders b)
  binders (expression.Let x a b p) = binders a + binders b + 1
  binders (expression.Lift f es p) = binders f + binders_of_all es
  binders (expression.Foldp f b s p) = binders f + (binders b + binders s)
  binders (expression.Async s p) = binders s

  pub binders_of_all : Expressions → ℕ
  binders_of_all expression.End = 0
  binders_of_all (expression.More e es) = binders e + binders_of_all es
