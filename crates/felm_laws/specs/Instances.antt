-- Runs worked by hand, to values and to finished pairs, each with its number of steps; and numbers that operators give.
use Rattle.std.specs.Prelude.{◌≡◌, ℕ, List, [], ◌∷◌, ℤ, pos, negsuc}
use Rattle.felm_term.specs.CoreType.{Arrow, Signal}
use Rattle.felm_term.specs.CoreTerm.{CoreTerm, Var, Lam, App, Bin, If, Let, Node, Lift, Async, End, More}
use Rattle.felm_term.specs.Operators.{apply_op}
use Rattle.felm_term.specs.Reduction.{Steps, IsFinished}
use Rattle.felm_term.specs.Call.{ReachesValue}
use Rattle.felm_term.specs.declared.op.Op.{Op}
use Rattle.felm_term.specs.declared.op.Op.TheVariants as op
use Rattle.felm_laws.specs.Rows.{int, number, x, successor, sum}

-- ---- terms of the runs

-- 3 - 3
abbrev pub nothing : CoreTerm
nothing = Bin op.Sub (number 3) (number 3)

-- \f:int->int.\s:int. f s
abbrev pub apply : CoreTerm
apply = Lam (Arrow int int) (Lam int (App (Var 1) (Var 0)))

-- \s:int. s + 2
abbrev pub add_two : CoreTerm
add_two = Lam int (Bin op.Add (Var 0) (number 2))

-- \s:signal int. lift1 (\n:int. n + 1) s
abbrev pub lifted_successor : CoreTerm
lifted_successor = Lam (Signal int) (Lift successor (More (Var 0) End))

-- \p:int.\q:int. p + q
abbrev pub add : CoreTerm
add = Lam int (Lam int (Bin op.Add (Var 1) (Var 0)))

-- ---- runs to values

-- a term, and the value that so many steps lead to
pub record ValueRow : Type 0 where
  pub start : CoreTerm
  pub count : ℕ
  pub value : CoreTerm

abbrev pub value_in : ℕ → CoreTerm → CoreTerm → ValueRow
value_in n e v = record { start = e; count = n; value = v }

abbrev pub AreValues : List ValueRow → Type 0
AreValues [] = Unit {0}
AreValues (r ∷ rows) = ReachesValue r.start r.count r.value × AreValues rows

abbrev pub value_rows : List ValueRow
value_rows =
    -- (\n:int. n + 1) 4 by APP, LETV, OP
    value_in 3 (App successor (number 4)) (number 5)
    -- if 0 then 1 else 2 by COND, and a condition that is a conditional
    ∷ value_in 1 (If (number 0) (number 1) (number 2)) (number 2)
    ∷ value_in 2 (If (If (number 1) (number 0) (number 1)) (number 2) (number 3)) (number 3)
    -- both operands are evaluated, also where one would be enough
    ∷ value_in 3 (Bin op.And nothing sum) (number 0)
    ∷ value_in 3 (Bin op.And sum nothing) (number 0)
    ∷ value_in 3 (Bin op.Or sum nothing) (number 1)
    -- (\n:int. 7) (1 + 2) by APP, OP in the bound part, LETV
    ∷ value_in 3 (App (Lam int (number 7)) sum) (number 7)
    -- let f = \n:int. n + 1 in f (f 0) by LETV, APP; APP, LETV, OP in the bound part; LETV, OP
    ∷ value_in 7 (Let successor (App (Var 0) (App (Var 0) (number 0)))) (number 2)
    -- (\f:int->int.\s:int. f s) (\s:int. s + 2) 0 by APP, LETV in the function; APP, LETV, APP, LETV, OP
    ∷ value_in 7 (App (App apply add_two) (number 0)) (number 2)
    ∷ []

-- ---- runs to finished pairs

-- a term, and the finished pair that so many steps lead to
pub record FinishRow : Type 0 where
  pub start : CoreTerm
  pub count : ℕ
  pub shared : List CoreTerm
  pub last : CoreTerm

abbrev pub finish_in : ℕ → CoreTerm → List CoreTerm → CoreTerm → FinishRow
finish_in n e B f = record { start = e; count = n; shared = B; last = f }

abbrev pub AreFinished : List FinishRow → Type 0
AreFinished [] = Unit {0}
AreFinished (r ∷ rows) = (Steps r.count [] r.start r.shared r.last × IsFinished r.shared r.last) × AreFinished rows

abbrev pub finish_rows : List FinishRow
finish_rows =
    -- x, at once
    finish_in 0 x [] x
    -- let a = x in let b = a in b by SHARE twice
    ∷ finish_in 2 (Let x (Let (Var 0) (Var 0))) (x ∷ Node 0 ∷ []) (Node 1)
    -- let a = async x in lift2 (\p:int.\q:int. p + q) a a by SHARE, so that a is one signal
    ∷ finish_in 1 (Let (Async x) (Lift add (More (Var 0) (More (Var 0) End))))
    (Async x ∷ []) (Lift add (More (Node 0) (More (Node 0) End)))
    -- let f = \s:signal int. lift1 (\n:int. n + 1) s in f (f x) by LETV, APP; APP, SHARE in the bound part; SHARE
    ∷ finish_in 5 (Let lifted_successor (App (Var 0) (App (Var 0) x)))
    (x ∷ Lift successor (More (Node 0) End) ∷ []) (Lift successor (More (Node 1) End))
    ∷ []

-- ---- operators

-- an operator, two numbers, and what it gives
pub record OperatorRow : Type 0 where
  pub operator : Op
  pub left : ℤ
  pub right : ℤ
  pub gives : ℤ

abbrev pub gives : Op → ℤ → ℤ → ℤ → OperatorRow
gives o a b c = record { operator = o; left = a; right = b; gives = c }

abbrev pub AreGiven : List OperatorRow → Type 0
AreGiven [] = Unit {0}
AreGiven (r ∷ rows) = (apply_op r.operator r.left r.right ≡ r.gives) × AreGiven rows

abbrev pub greatest : ℤ
greatest = pos 9223372036854775807

abbrev pub least : ℤ
least = negsuc 9223372036854775807

abbrev pub operator_rows : List OperatorRow
operator_rows =
    gives op.Add greatest (pos 1) least
    ∷ gives op.Sub least (pos 1) greatest
    ∷ gives op.Mul greatest (pos 2) (negsuc 1)
    ∷ gives op.Div (negsuc 6) (pos 2) (negsuc 2)
    ∷ gives op.Div (pos 7) (negsuc 1) (negsuc 2)
    ∷ gives op.Div (pos 7) (pos 0) (pos 0)
    ∷ gives op.Div least (negsuc 0) least
    ∷ gives op.Rem (negsuc 6) (pos 2) (negsuc 0)
    ∷ gives op.Rem (pos 7) (negsuc 1) (pos 1)
    ∷ gives op.Rem (pos 7) (pos 0) (pos 0)
    ∷ gives op.Rem least (negsuc 0) (pos 0)
    ∷ gives op.Lt (negsuc 0) (pos 0) (pos 1)
    ∷ gives op.Ge (negsuc 0) (pos 0) (pos 0)
    ∷ gives op.And (pos 2) (negsuc 2) (pos 1)
    ∷ gives op.Or (pos 0) (pos 0) (pos 0)
    ∷ []
