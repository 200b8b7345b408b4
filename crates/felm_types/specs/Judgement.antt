-- The type or the fault that the code comes to: the parts from left to right, and then the whole by its row. `FirstFault` says
-- without these steps which fault that is.
use Rattle.std.specs.Prelude.{◌≡◌, ◌≢◌, ℕ, Bool, ◌&&◌, List, [], ◌∷◌, length, nat_le, Option, Some, None, Result, Ok, Err, if◌then◌else◌}
use Rattle.std.specs.Option.{option_map, option_and_then, ok_or}
use Rattle.felm_term.specs.CoreType.{CoreType, Signal, is_simple, is_well_formed, is_simple_signal}
use Rattle.felm_term.specs.CoreType as type
use Rattle.felm_term.specs.FoundType.{found_type, function_type, result_type, operation_type, branch_type, let_type, rest_type, foldp_type, async_type}
use Rattle.felm_term.specs.Inputs.{names_of, signal_types}
use Rattle.felm_term.specs.declared.input.InputDecl.{InputDecl}
use Rattle.felm_syntax.specs.Expression.{Expression, Expressions, Int, Name, Lam, App, Bin, If, Let, Lift, Foldp, Async, End, More, place_of}
use Rattle.felm_syntax.specs.Expression as expression
use Rattle.felm_types.specs.Binder.{Binder, names, types}
use Rattle.felm_types.specs.CoreTermOf.{named}
use Rattle.felm_types.specs.declared.fault.TypeFault.{TypeFault}
use Rattle.felm_types.specs.declared.fault.TypeFault.TheVariants as fault

-- what is judged, or a fault
abbrev pub Judged : Type 0 → Type 0
Judged A = Result A TypeFault

-- one after the other, up to the first fault
infixl 10 ◌>>=◌
abbrev pub ◌>>=◌ : {A B : Type 0} → Judged A → (A → Judged B) → Judged B
Ok x >>= next = next x
Err f >>= next = Err f

-- the type that the row of the table gives, or else Untyped at the expression
abbrev pub row : ℕ → Option CoreType → Judged CoreType
row at found = ok_or found (fault.Untyped at)

-- what is left of a function's type once it has taken the values of signals of these types
abbrev pub taken : CoreType → List CoreType → Option CoreType
taken p [] = Some p
taken p (s ∷ signals) = option_and_then (λ rest. taken rest signals) (rest_type p s)

abbrev pub is_one_to_nine : List CoreType → Bool
is_one_to_nine signals = nat_le 1 (length signals) && nat_le (length signals) 9

-- of a lift, by its function's and its arguments' types
abbrev pub lift_type : CoreType → List CoreType → Option CoreType
lift_type p signals = if is_simple p && is_one_to_nine signals then option_map Signal (taken p signals) else None

-- under the declared inputs
module _ (inputs : List InputDecl) where
  -- the type of what a name stands for
  abbrev pub judge_name : List Binder → List ℕ → ℕ → Judged CoreType
  judge_name g x at = do
    meant ← ok_or (named (names_of inputs) (names g) x) (fault.Unknown at)
    row at (found_type (signal_types inputs) [] (types g) meant)

  abbrev mutual
    -- the type of an expression under its binders, the nearest first
    pub judge : List Binder → Expression → Judged CoreType
    judge g (expression.Unit at) = Ok type.Unit
    judge g (Int n at) = Ok type.Int
    judge g (Name x at) = judge_name g x at
    judge g (Lam x t t_at b at) = do
      p ← if is_well_formed t then Ok t else Err (fault.IllFormed t_at)
      r ← judge (record { name = x; ty = p } ∷ g) b
      row at (function_type p r)
    judge g (App f a at) = do
      p ← judge g f
      q ← judge g a
      row at (result_type p q)
    judge g (Bin o a b at) = do
      p ← judge g a
      q ← judge g b
      row at (operation_type p q)
    judge g (If c a b at) = do
      p ← judge g c
      q ← judge g a
      r ← judge g b
      row at (branch_type p q r)
    judge g (Let x a b at) = do
      p ← judge g a
      q ← judge (record { name = x; ty = p } ∷ g) b
      row at (let_type p q)
    judge g (Lift f es at) = do
      p ← judge g f
      signals ← judge_all g es
      row at (lift_type p signals)
    judge g (Foldp f b s at) = do
      p ← judge g f
      q ← judge g b
      r ← judge g s
      row at (foldp_type p q r)
    judge g (Async s at) = do
      p ← judge g s
      row at (async_type p)

    pub judge_all : List Binder → Expressions → Judged (List CoreType)
    judge_all g End = Ok []
    judge_all g (More e es) = do
      s ← judge g e
      signals ← judge_all g es
      Ok (s ∷ signals)

  -- the type of `main`, which has to be a signal of a simple type
  abbrev pub judge_main : Expression → Judged CoreType
  judge_main main = do
    u ← judge [] main
    if is_simple_signal u then Ok u else Err (fault.MainType (place_of main))

-- a fault is the one that is judged, if it isn't want of memory
abbrev pub IsFaultOf : {A : Type 0} → Judged A → TypeFault → Type 0
IsFaultOf judged f = f ≢ fault.Memory → judged ≡ Err f
