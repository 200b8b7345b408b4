-- Expressions, each with its place: a byte of the text, counted from 0.
use Rattle.std.specs.Prelude.{ℕ, ◌+◌, max, ℤ, List}
use Rattle.felm_term.specs.CoreType.{CoreType}
use Rattle.felm_term.specs.declared.op.Op.{Op}

mutual
  -- an expression, as contracts see an `Expr`
  pub data Expression : Type 0 where
    Unit : (at : ℕ) → Expression
    Int : (number : ℤ) (at : ℕ) → Expression
    Name : (name : List ℕ) (at : ℕ) → Expression
    -- a function; the type of its parameter has a place of its own
    Lam : (name : List ℕ) (param : CoreType) (param_at : ℕ) (body : Expression) (at : ℕ) → Expression
    App : (function argument : Expression) (at : ℕ) → Expression
    Bin : (op : Op) (left right : Expression) (at : ℕ) → Expression
    If : (condition yes no : Expression) (at : ℕ) → Expression
    Let : (name : List ℕ) (bound body : Expression) (at : ℕ) → Expression
    Lift : (function : Expression) (arguments : Expressions) (at : ℕ) → Expression
    Foldp : (function base signal : Expression) (at : ℕ) → Expression
    Async : (signal : Expression) (at : ℕ) → Expression

  -- the arguments of a lift in order, as contracts see an `Exprs`
  pub data Expressions : Type 0 where
    End : Expressions
    More : (first : Expression) (rest : Expressions) → Expressions

abbrev mutual
  -- a measure for the code: an expression is deeper than its parts
  pub depth : Expression → ℕ
  depth (Unit p) = 1
  depth (Int n p) = 1
  depth (Name n p) = 1
  depth (Lam n t q b p) = depth b + 1
  depth (App f a p) = max (depth f) (depth a) + 1
  depth (Bin o a b p) = max (depth a) (depth b) + 1
  depth (If c a b p) = max (depth c) (max (depth a) (depth b)) + 1
  depth (Let n a b p) = max (depth a) (depth b) + 1
  depth (Lift f ts p) = max (depth f) (depth_all ts) + 1
  depth (Foldp f b s p) = max (depth f) (max (depth b) (depth s)) + 1
  depth (Async s p) = depth s + 1

  pub depth_all : Expressions → ℕ
  depth_all End = 1
  depth_all (More t ts) = max (depth t) (depth_all ts) + 1

-- the place of an expression
abbrev pub place_of : Expression → ℕ
place_of (Unit p) = p
place_of (Int n p) = p
place_of (Name n p) = p
place_of (Lam n t q b p) = p
place_of (App f a p) = p
place_of (Bin o a b p) = p
place_of (If c a b p) = p
place_of (Let n a b p) = p
place_of (Lift f ts p) = p
place_of (Foldp f b s p) = p
place_of (Async s p) = p
