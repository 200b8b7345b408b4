-- Calls as a function: the value of a call within a budget, computed step by step.
use Rattle.std.specs.Prelude.{ℕ, zero, suc, Bool, true, false, ◌&&◌, if◌then◌else◌, ℤ, pos, List, Option, Some, None}
use Rattle.std.specs.Option.{option_map, option_and_then}
use Rattle.felm_term.specs.CoreTerm.{CoreTerm, CoreTerms, Int, Var, Lam, App, Bin, If, Let, Input, Node, Lift, Foldp, Async, End, More}
use Rattle.felm_term.specs.CoreTerm as term
use Rattle.felm_term.specs.Operators.{apply_op, is_zero}
use Rattle.felm_term.specs.Substitution.{substitute}
use Rattle.felm_term.specs.Call.{applied}

-- ---- tests, and the parts of what passes them

abbrev pub is_number : CoreTerm → Bool
is_number (Int n) = true
is_number _ = false

abbrev pub number_in : CoreTerm → ℤ
number_in (Int n) = n
number_in _ = pos 0

abbrev pub is_function : CoreTerm → Bool
is_function (Lam p b) = true
is_function _ = false

abbrev pub body_of : CoreTerm → CoreTerm
body_of (Lam p b) = b
body_of t = t

abbrev pub is_value : CoreTerm → Bool
is_value term.Unit = true
is_value (Int n) = true
is_value (Lam p b) = true
is_value _ = false

abbrev mutual
  pub is_signal_term : CoreTerm → Bool
  is_signal_term (Input n) = true
  is_signal_term (Node n) = true
  is_signal_term (Lift f ts) = is_value f && are_signal_terms ts
  is_signal_term (Foldp f b s) = is_value f && (is_value b && is_signal_term s)
  is_signal_term (Async s) = is_signal_term s
  is_signal_term _ = false

  pub are_signal_terms : CoreTerms → Bool
  are_signal_terms End = true
  are_signal_terms (More t ts) = is_signal_term t && are_signal_terms ts

-- ---- the next term, without shared signals before and after

abbrev mutual
  pub next_term : CoreTerm → Option CoreTerm
  next_term (App f a) = if is_function f then Some (Let a (body_of f)) else option_map (λ g. App g a) (next_term f)
  next_term (Bin o a b) =
      if is_number a then (if is_number b then Some (Int (apply_op o (number_in a) (number_in b))) else option_map (Bin o a) (next_term b))
      else option_map (λ c. Bin o c b) (next_term a)
  next_term (If c a b) = if is_number c then Some (if is_zero (number_in c) then b else a) else option_map (λ d. If d a b) (next_term c)
  next_term (Let a b) = if is_value a then Some (substitute a b) else option_map (λ c. Let c b) (next_term a)
  next_term (Lift f ts) = if is_value f then option_map (Lift f) (next_arguments ts) else option_map (λ g. Lift g ts) (next_term f)
  next_term (Foldp f b s) =
      if is_value f then (if is_value b then option_map (Foldp f b) (next_term s) else option_map (λ c. Foldp f c s) (next_term b))
      else option_map (λ g. Foldp g b s) (next_term f)
  next_term (Async s) = option_map Async (next_term s)
  next_term _ = None

  pub next_arguments : CoreTerms → Option CoreTerms
  next_arguments End = None
  next_arguments (More t ts) = if is_signal_term t then option_map (More t) (next_arguments ts) else option_map (λ u. More u ts) (next_term t)

-- ---- calls

-- the value that a term reaches in at most so many steps
abbrev pub value_within : ℕ → CoreTerm → Option CoreTerm
value_within zero e = if is_value e then Some e else None
value_within (suc budget) e = if is_value e then Some e else option_and_then (value_within budget) (next_term e)

abbrev pub call : CoreTerm → List CoreTerm → ℕ → Option CoreTerm
call f arguments budget = value_within budget (applied f arguments)
