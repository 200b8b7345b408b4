-- Core terms, in which numbers stand for names.
use Rattle.std.specs.Prelude.{ℕ, ◌+◌, max, ℤ}
use Rattle.felm_term.specs.CoreType.{CoreType}
use Rattle.felm_term.specs.declared.op.Op.{Op}

mutual
  -- a term, as contracts see a `Term`
  pub data CoreTerm : Type 0 where
    Unit : CoreTerm
    Int : (number : ℤ) → CoreTerm
    -- a variable, by how many other binders stand between it and its own
    Var : (binders : ℕ) → CoreTerm
    Lam : (param : CoreType) (body : CoreTerm) → CoreTerm
    App : (function argument : CoreTerm) → CoreTerm
    Bin : (op : Op) (left right : CoreTerm) → CoreTerm
    If : (condition yes no : CoreTerm) → CoreTerm
    Let : (bound body : CoreTerm) → CoreTerm
    -- a declared input, counted from 0
    Input : (number : ℕ) → CoreTerm
    -- a shared signal, counted from 0
    Node : (number : ℕ) → CoreTerm
    Lift : (function : CoreTerm) (arguments : CoreTerms) → CoreTerm
    Foldp : (function base signal : CoreTerm) → CoreTerm
    Async : (signal : CoreTerm) → CoreTerm

  -- the arguments of a lift in order, as contracts see a `Terms`
  pub data CoreTerms : Type 0 where
    End : CoreTerms
    More : (first : CoreTerm) (rest : CoreTerms) → CoreTerms

abbrev mutual
  -- a measure for the code: a term is deeper than its parts
  pub depth : CoreTerm → ℕ
  depth Unit = 1
  depth (Int n) = 1
  depth (Var n) = 1
  depth (Lam p b) = depth b + 1
  depth (App f a) = max (depth f) (depth a) + 1
  depth (Bin o a b) = max (depth a) (depth b) + 1
  depth (If c a b) = max (depth c) (max (depth a) (depth b)) + 1
  depth (Let a b) = max (depth a) (depth b) + 1
  depth (Input n) = 1
  depth (Node n) = 1
  depth (Lift f ts) = max (depth f) (depth_all ts) + 1
  depth (Foldp f b s) = max (depth f) (max (depth b) (depth s)) + 1
  depth (Async s) = depth s + 1

  pub depth_all : CoreTerms → ℕ
  depth_all End = 1
  depth_all (More t ts) = max (depth t) (depth_all ts) + 1

-- how many arguments there are
abbrev pub count : CoreTerms → ℕ
count End = 0
count (More t ts) = count ts + 1
