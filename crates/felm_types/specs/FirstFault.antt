-- The first fault of an expression: its parts are judged from left to right, and then the expression itself.
use Rattle.std.specs.Prelude.{◌≡◌, ◌≢◌, Bool, false, List, [], ◌∷◌, Option, Some, None, is_some, if◌then◌else◌}
use Rattle.std.specs.Option.{option_and_then}
use Rattle.felm_term.specs.CoreType.{CoreType, is_well_formed, is_simple_signal}
use Rattle.felm_term.specs.FoundType.{found_type}
use Rattle.felm_term.specs.Inputs.{names_of, signal_types}
use Rattle.felm_term.specs.declared.input.InputDecl.{InputDecl}
use Rattle.felm_syntax.specs.Expression.{Expression, Expressions, Int, Name, Lam, App, Bin, If, Let, Lift, Foldp, Async, End, More, place_of}
use Rattle.felm_syntax.specs.Expression as expression
use Rattle.felm_syntax.specs.declared.program.Program.{Program}
use Rattle.felm_types.specs.Binder.{Binder, names, types}
use Rattle.felm_types.specs.CoreTermOf.{named, core_term}
use Rattle.felm_types.specs.declared.fault.TypeFault.{TypeFault}
use Rattle.felm_types.specs.declared.fault.TypeFault.TheVariants as fault

-- the first fault of a list that has some
abbrev pub earliest : List (Option TypeFault) → Option TypeFault
earliest [] = None
earliest (None ∷ faults) = earliest faults
earliest (Some f ∷ faults) = Some f

-- this fault, unless something holds
abbrev pub unless : Bool → TypeFault → Option TypeFault
unless holds f = if holds then None else Some f

-- under the declared inputs
module _ (inputs : List InputDecl) where
  -- the type of an expression's core term, if it has one
  abbrev pub type_in : List Binder → Expression → Option CoreType
  type_in g e = option_and_then (found_type (signal_types inputs) [] (types g)) (core_term (names_of inputs) (names g) e)

  -- of an expression whose parts have types: that it has none
  abbrev pub own_fault : List Binder → Expression → Option TypeFault
  own_fault g e = unless (is_some (type_in g e)) (fault.Untyped (place_of e))

  abbrev mutual
    -- the first fault of an expression under its binders, the nearest first
    pub first_fault : List Binder → Expression → Option TypeFault
    first_fault g (expression.Unit at) = None
    first_fault g (Int n at) = None
    first_fault g (Name x at) = unless (is_some (named (names_of inputs) (names g) x)) (fault.Unknown at)
    first_fault g (Lam x t t_at b at) =
        earliest (unless (is_well_formed t) (fault.IllFormed t_at) ∷ first_fault (record { name = x; ty = t } ∷ g) b ∷ own_fault g (Lam x t t_at b at) ∷ [])
    first_fault g (App f a at) = earliest (first_fault g f ∷ first_fault g a ∷ own_fault g (App f a at) ∷ [])
    first_fault g (Bin o a b at) = earliest (first_fault g a ∷ first_fault g b ∷ own_fault g (Bin o a b at) ∷ [])
    first_fault g (If c a b at) = earliest (first_fault g c ∷ first_fault g a ∷ first_fault g b ∷ own_fault g (If c a b at) ∷ [])
    first_fault g (Let x a b at) =
        earliest (first_fault g a ∷ option_and_then (λ p. first_fault (record { name = x; ty = p } ∷ g) b) (type_in g a) ∷ own_fault g (Let x a b at) ∷ [])
    first_fault g (Lift f es at) = earliest (first_fault g f ∷ first_fault_in g es ∷ own_fault g (Lift f es at) ∷ [])
    first_fault g (Foldp f b s at) = earliest (first_fault g f ∷ first_fault g b ∷ first_fault g s ∷ own_fault g (Foldp f b s at) ∷ [])
    first_fault g (Async s at) = earliest (first_fault g s ∷ own_fault g (Async s at) ∷ [])

    pub first_fault_in : List Binder → Expressions → Option TypeFault
    first_fault_in g End = None
    first_fault_in g (More e es) = earliest (first_fault g e ∷ first_fault_in g es ∷ [])

-- whether a type that was found is a signal of a simple type
abbrev pub is_main_type : Option CoreType → Bool
is_main_type None = false
is_main_type (Some u) = is_simple_signal u

-- the first fault of a program: that of its expression, and then that this is no signal
abbrev pub program_fault : Program → Option TypeFault
program_fault program =
    earliest (
    first_fault program.inputs [] program.main
    ∷ unless (is_main_type (type_in program.inputs [] program.main)) (fault.MainType (place_of program.main)) ∷ []
    )

-- the program's first fault, or want of memory
abbrev pub IsFirstFault : Program → TypeFault → Type 0
IsFirstFault program f = f ≢ fault.Memory → program_fault program ≡ Some f
