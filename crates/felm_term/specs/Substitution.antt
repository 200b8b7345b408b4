-- A closed term in the place of a variable.
use Rattle.std.specs.Prelude.{ℕ, suc, ◌==◌, if◌then◌else◌}
use Rattle.felm_term.specs.CoreTerm.{CoreTerm, CoreTerms, Int, Var, Lam, App, Bin, If, Let, Input, Node, Lift, Foldp, Async, End, More}
use Rattle.felm_term.specs.CoreTerm as term

abbrev mutual
  -- the term with the closed term v for the variable of the binder that is k binders out. That binder is the outermost one,
  -- so no variable lies beyond it; and v has no variable that its place under further binders would change
  pub substitute_at : ℕ → CoreTerm → CoreTerm → CoreTerm
  substitute_at k v term.Unit = term.Unit
  substitute_at k v (Int n) = Int n
  substitute_at k v (Var n) = if n == k then v else Var n
  substitute_at k v (Lam p b) = Lam p (substitute_at (suc k) v b)
  substitute_at k v (App f a) = App (substitute_at k v f) (substitute_at k v a)
  substitute_at k v (Bin o a b) = Bin o (substitute_at k v a) (substitute_at k v b)
  substitute_at k v (If c a b) = If (substitute_at k v c) (substitute_at k v a) (substitute_at k v b)
  substitute_at k v (Let a b) = Let (substitute_at k v a) (substitute_at (suc k) v b)
  substitute_at k v (Input n) = Input n
  substitute_at k v (Node n) = Node n
  substitute_at k v (Lift f ts) = Lift (substitute_at k v f) (substitute_all k v ts)
  substitute_at k v (Foldp f b s) = Foldp (substitute_at k v f) (substitute_at k v b) (substitute_at k v s)
  substitute_at k v (Async s) = Async (substitute_at k v s)

  -- the same in each argument
  pub substitute_all : ℕ → CoreTerm → CoreTerms → CoreTerms
  substitute_all k v End = End
  substitute_all k v (More t ts) = More (substitute_at k v t) (substitute_all k v ts)

-- the body of a binder with a closed term for the binder's variable
abbrev pub substitute : CoreTerm → CoreTerm → CoreTerm
substitute v body = substitute_at 0 v body
