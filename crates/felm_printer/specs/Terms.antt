-- Types and terms as texts. A binder's name is `v` and how many binders enclose it, and a variable has the name of its binder.
use Rattle.std.specs.Prelude.{ℕ, suc, ◌+◌, ◌-◌, Bool, true, false, not, List, ◌++◌, codes, ℤ, pos, int_lt}
use Rattle.std.specs.Fmt.{decimal, signed_decimal}
use Rattle.felm_term.specs.CoreType.{CoreType, Arrow, Signal}
use Rattle.felm_term.specs.CoreType as type
use Rattle.felm_term.specs.CoreTerm.{CoreTerm, CoreTerms, Int, Var, Lam, App, Bin, If, Let, Input, Node, Lift, Foldp, Async, End, More, count}
use Rattle.felm_term.specs.CoreTerm as term
use Rattle.felm_term.specs.declared.op.Op.{Op}
use Rattle.felm_term.specs.declared.op.Op.TheVariants as op

-- a text in brackets, where they are needed
abbrev pub bracketed : Bool → List ℕ → List ℕ
bracketed true text = codes "(" ++ text ++ codes ")"
bracketed false text = text

-- ---- types

abbrev pub is_arrow : CoreType → Bool
is_arrow (Arrow from to) = true
is_arrow _ = false

-- unit and int are one word
abbrev pub is_word : CoreType → Bool
is_word type.Unit = true
is_word type.Int = true
is_word (Arrow from to) = false
is_word (Signal of) = false

-- a function's arrow groups to the right
abbrev pub type_text : CoreType → List ℕ
type_text type.Unit = codes "unit"
type_text type.Int = codes "int"
type_text (Arrow from to) = bracketed (is_arrow from) (type_text from) ++ codes " -> " ++ type_text to
type_text (Signal of) = codes "signal " ++ bracketed (not (is_word of)) (type_text of)

-- ---- terms

-- a number, in brackets where it is negative
abbrev pub number_text : ℤ → List ℕ
number_text n = bracketed (int_lt n (pos 0)) (signed_decimal n)

abbrev pub sign_of : Op → List ℕ
sign_of op.Add = codes "+"
sign_of op.Sub = codes "-"
sign_of op.Mul = codes "*"
sign_of op.Div = codes "//"
sign_of op.Rem = codes "%"
sign_of op.Eq = codes "=="
sign_of op.Ne = codes "/="
sign_of op.Lt = codes "<"
sign_of op.Le = codes "<="
sign_of op.Gt = codes ">"
sign_of op.Ge = codes ">="
sign_of op.And = codes "&&"
sign_of op.Or = codes "||"

-- the name of the binder that this number of others encloses
abbrev pub binder_text : ℕ → List ℕ
binder_text number = codes "v" ++ decimal number

abbrev mutual
  -- the text of a part of a term, which so many binders of the term enclose
  pub term_text : ℕ → CoreTerm → List ℕ
  term_text d term.Unit = codes "()"
  term_text d (Int n) = number_text n
  term_text d (Var n) = binder_text (d - suc n)
  term_text d (Lam p b) = codes "(\\" ++ binder_text d ++ codes ":" ++ type_text p ++ codes ". " ++ term_text (d + 1) b ++ codes ")"
  term_text d (App f a) = codes "(" ++ term_text d f ++ codes " " ++ term_text d a ++ codes ")"
  term_text d (Bin o a b) = codes "(" ++ term_text d a ++ codes " " ++ sign_of o ++ codes " " ++ term_text d b ++ codes ")"
  term_text d (If c a b) = codes "(if " ++ term_text d c ++ codes " then " ++ term_text d a ++ codes " else " ++ term_text d b ++ codes ")"
  term_text d (Let a b) = codes "(let " ++ binder_text d ++ codes " = " ++ term_text d a ++ codes " in " ++ term_text (d + 1) b ++ codes ")"
  term_text d (Input n) = codes "#" ++ decimal n
  term_text d (Node n) = codes "$" ++ decimal n
  term_text d (Lift f ts) = codes "(lift" ++ decimal (count ts) ++ codes " " ++ term_text d f ++ arguments_text d ts ++ codes ")"
  term_text d (Foldp f b s) = codes "(foldp " ++ term_text d f ++ codes " " ++ term_text d b ++ codes " " ++ term_text d s ++ codes ")"
  term_text d (Async s) = codes "(async " ++ term_text d s ++ codes ")"

  -- the arguments of a lift from the left, each behind a blank
  pub arguments_text : ℕ → CoreTerms → List ℕ
  arguments_text d End = codes ""
  arguments_text d (More t ts) = codes " " ++ term_text d t ++ arguments_text d ts
