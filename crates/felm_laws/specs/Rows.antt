-- Rows worked by hand: types of terms, steps of pairs, and calls.
use Rattle.std.specs.Prelude.{ℕ, zero, suc, List, [], ◌∷◌, Option, Some, None, pos, negsuc}
use Rattle.felm_term.specs.CoreType.{CoreType, Arrow, Signal}
use Rattle.felm_term.specs.CoreType as type
use Rattle.felm_term.specs.CoreTerm.{CoreTerm, CoreTerms, Int, Var, Lam, App, Bin, If, Let, Input, Node, Lift, Foldp, Async, End, More}
use Rattle.felm_term.specs.CoreTerm as term
use Rattle.felm_term.specs.FoundType.{TypeIs}
use Rattle.felm_term.specs.Reduction.{Step, HasNoStep}
use Rattle.felm_term.specs.Call.{CallGives}
use Rattle.felm_term.specs.declared.op.Op.TheVariants as op

abbrev pub int : CoreType
int = type.Int

abbrev pub number : ℕ → CoreTerm
number n = Int (pos n)

-- an input of type int, and one of type unit
abbrev pub inputs : List CoreType
inputs = Signal type.Int ∷ Signal type.Unit ∷ []

abbrev pub x : CoreTerm
x = Input 0

abbrev pub click : CoreTerm
click = Input 1

-- \n:int. n + 1
abbrev pub successor : CoreTerm
successor = Lam int (Bin op.Add (Var 0) (number 1))

-- \u:unit.\c:int. c + 1
abbrev pub counter : CoreTerm
counter = Lam type.Unit (Lam int (Bin op.Add (Var 0) (number 1)))

-- \c:int.\u:unit. c + 1
abbrev pub turned_counter : CoreTerm
turned_counter = Lam int (Lam type.Unit (Bin op.Add (Var 1) (number 1)))

-- \s:signal int. s
abbrev pub identity : CoreTerm
identity = Lam (Signal int) (Var 0)

-- a function of so many numbers
abbrev pub function_of : ℕ → CoreTerm
function_of zero = number 0
function_of (suc n) = Lam int (function_of n)

-- the same signal so many times
abbrev pub copies : ℕ → CoreTerms
copies zero = End
copies (suc n) = More x (copies n)

-- ---- types

abbrev pub HaveTypesOfRows : List (CoreTerm × Option CoreType) → Type 0
HaveTypesOfRows [] = Unit {0}
HaveTypesOfRows (row ∷ rows) = TypeIs inputs [] [] row.0 row.1 × HaveTypesOfRows rows

-- terms with their type, or with none
abbrev pub typing_rows : List (CoreTerm × Option CoreType)
typing_rows =
    (identity, Some (Arrow (Signal int) (Signal int)))
    ∷ (Lam (Signal (Signal int)) (number 0), None)
    ∷ (Lam (Signal int) (number 0), None)
    ∷ (Lam int identity, Some (Arrow int (Arrow (Signal int) (Signal int))))
    ∷ (Lam (Signal (Arrow int (Signal int))) (Var 0), None)
    ∷ (Let x (number 3), None)
    ∷ (Let x (Var 0), Some (Signal int))
    ∷ (Let (number 3) (Var 0), Some int)
    ∷ (App identity x, Some (Signal int))
    ∷ (App successor x, None)
    ∷ (Lift successor (More x End), Some (Signal int))
    ∷ (Lift identity (More x End), None)
    ∷ (Lift successor (More click End), None)
    ∷ (Lift successor (More x (More x End)), None)
    ∷ (Lift (Lam int (Lam int (Var 1))) (More x End), Some (Signal (Arrow int int)))
    ∷ (Lift (function_of 9) (copies 9), Some (Signal int))
    ∷ (Lift (function_of 10) (copies 10), None)
    ∷ (Lift (number 0) End, None)
    ∷ (Foldp counter (number 0) click, Some (Signal int))
    ∷ (Foldp counter click (number 0), None)
    ∷ (Foldp turned_counter (number 0) click, None)
    ∷ (Foldp counter (number 0) x, None)
    ∷ (Async click, Some (Signal type.Unit))
    ∷ (Async (number 0), None)
    ∷ (If (number 1) x (Async x), Some (Signal int))
    ∷ (If x (number 1) (number 2), None)
    ∷ (If (number 1) (number 2) term.Unit, None)
    ∷ (Bin op.And (number 1) term.Unit, None)
    ∷ (Var 0, None)
    ∷ (Input 2, None)
    ∷ (Node 0, None)
    ∷ []

-- ---- steps

-- a pair, and the next one
pub record StepRow : Type 0 where
  pub shared : List CoreTerm
  pub before : CoreTerm
  pub more : List CoreTerm
  pub after : CoreTerm

abbrev pub row : List CoreTerm → CoreTerm → List CoreTerm → CoreTerm → StepRow
row B e C f = record { shared = B; before = e; more = C; after = f }

-- a step that shares nothing
abbrev pub alone : CoreTerm → CoreTerm → StepRow
alone e f = row [] e [] f

abbrev pub AreSteps : List StepRow → Type 0
AreSteps [] = Unit {0}
AreSteps (r ∷ rows) = Step r.shared r.before r.more r.after × AreSteps rows

-- 1 + 2
abbrev pub sum : CoreTerm
sum = Bin op.Add (number 1) (number 2)

-- let s = x in s, and what it becomes
abbrev pub shared_x : CoreTerm
shared_x = Let x (Var 0)

abbrev pub step_rows : List StepRow
step_rows =
    -- the rules
    alone (Bin op.Div (Int (negsuc 6)) (number 2)) (Int (negsuc 2))
    ∷ alone (Bin op.Le (number 2) (number 2)) (number 1)
    ∷ alone (If (Int (negsuc 0)) (number 1) (number 2)) (number 1)
    ∷ alone (If (number 0) (number 1) (number 2)) (number 2)
    ∷ alone (App successor sum) (Let sum (Bin op.Add (Var 0) (number 1)))
    ∷ alone (Let (number 5) (Bin op.Add (Var 0) (number 1))) (Bin op.Add (number 5) (number 1))
    ∷ alone (Let (number 5) (Lam int (Bin op.Sub (Var 1) (Var 0)))) (Lam int (Bin op.Sub (number 5) (Var 0)))
    ∷ alone (Let successor (App (Var 0) (number 4))) (App successor (number 4))
    ∷ row (Async x ∷ []) (Let x (Lift successor (More (Var 0) (More (Var 0) End)))) (Async x ∷ x ∷ []) (Lift successor (More (Node 1) (More (Node 1) End)))
    -- the places
    ∷ alone (App (If (number 1) successor successor) sum) (App successor sum)
    ∷ alone (Bin op.Add sum sum) (Bin op.Add (number 3) sum)
    ∷ alone (Bin op.Add (number 3) sum) (Bin op.Add (number 3) (number 3))
    ∷ alone (If sum sum sum) (If (number 3) sum sum)
    ∷ alone (Let sum sum) (Let (number 3) sum)
    ∷ alone (Lift (If (number 1) successor successor) (More shared_x End)) (Lift successor (More shared_x End))
    ∷ row [] (Lift successor (More shared_x (More shared_x End))) (x ∷ []) (Lift successor (More (Node 0) (More shared_x End)))
    ∷ row (x ∷ []) (Lift successor (More (Node 0) (More shared_x End))) (x ∷ x ∷ []) (Lift successor (More (Node 0) (More (Node 1) End)))
    ∷ alone (Foldp (If (number 1) counter counter) sum shared_x) (Foldp counter sum shared_x)
    ∷ alone (Foldp counter sum shared_x) (Foldp counter (number 3) shared_x)
    ∷ row [] (Foldp counter (number 3) shared_x) (x ∷ []) (Foldp counter (number 3) (Node 0))
    ∷ row [] (Async shared_x) (x ∷ []) (Async (Node 0))
    ∷ []

abbrev pub HaveNoSteps : List CoreTerm → Type 0
HaveNoSteps [] = Unit {0}
HaveNoSteps (e ∷ rows) = HasNoStep [] e × HaveNoSteps rows

-- nothing is reduced in a function or in a signal's function, and unit is no operand
abbrev pub still_rows : List CoreTerm
still_rows =
    Lam int sum ∷ Lift (Lam int sum) (More x End) ∷ Foldp counter (number 0) (Async click) ∷ Bin op.Add term.Unit sum ∷ App x sum ∷ Var 0 ∷ []

-- ---- calls

-- a function, its arguments, a budget, and the call's value or none
pub record CallRow : Type 0 where
  pub function : CoreTerm
  pub arguments : List CoreTerm
  pub budget : ℕ
  pub value : Option CoreTerm

abbrev pub of : CoreTerm → List CoreTerm → ℕ → Option CoreTerm → CallRow
of f arguments budget value = record { function = f; arguments = arguments; budget = budget; value = value }

abbrev pub AreCalls : List CallRow → Type 0
AreCalls [] = Unit {0}
AreCalls (r ∷ rows) = CallGives r.function r.arguments r.budget r.value × AreCalls rows

-- \n:int. if n then n + 1 else 0
abbrev pub unless_zero : CoreTerm
unless_zero = Lam int (If (Var 0) (Bin op.Add (Var 0) (number 1)) (number 0))

abbrev pub call_rows : List CallRow
call_rows =
    of successor (number 4 ∷ []) 3 (Some (number 5))
    ∷ of successor (number 4 ∷ []) 2 None
    ∷ of successor (number 4 ∷ []) 4 (Some (number 5))
    ∷ of unless_zero (number 0 ∷ []) 3 (Some (number 0))
    ∷ of unless_zero (number 1 ∷ []) 3 None
    ∷ of unless_zero (number 1 ∷ []) 4 (Some (number 2))
    ∷ of counter (term.Unit ∷ number 1 ∷ []) 5 (Some (number 2))
    ∷ of counter (term.Unit ∷ []) 2 (Some (Lam int (Bin op.Add (Var 0) (number 1))))
    ∷ []
