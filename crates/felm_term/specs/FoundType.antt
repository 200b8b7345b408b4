-- The type of a term as a function of the types of what it names.
use Rattle.std.specs.Prelude.{ℕ, zero, suc, Bool, true, false, not, ◌&&◌, List, ◌∷◌, Option, Some, None, if◌then◌else◌, slice_get}
use Rattle.std.specs.Option.{option_and_then}
use Rattle.felm_term.specs.CoreType.{CoreType, Unit, Int, Arrow, Signal, is_simple, is_signal, is_well_formed, is_simple_signal}
use Rattle.felm_term.specs.CoreTerm.{CoreTerm, CoreTerms}
use Rattle.felm_term.specs.CoreTerm as term
use Rattle.felm_term.specs.Typing.{HasType}

abbrev pub same_type : CoreType → CoreType → Bool
same_type Unit Unit = true
same_type Int Int = true
same_type (Arrow p r) (Arrow q s) = same_type p q && same_type r s
same_type (Signal p) (Signal q) = same_type p q
same_type _ _ = false

abbrev pub when : Bool → CoreType → Option CoreType
when holds u = if holds then Some u else None

-- of a function, by its annotation and its body's type
abbrev pub function_type : CoreType → CoreType → Option CoreType
function_type p r = when (is_well_formed p && is_well_formed (Arrow p r)) (Arrow p r)

-- of an application, by its function's and its argument's types
abbrev pub result_type : CoreType → CoreType → Option CoreType
result_type (Arrow p u) a = when (same_type p a) u
result_type _ a = None

abbrev pub is_int : CoreType → Bool
is_int u = same_type u Int

abbrev pub operation_type : CoreType → CoreType → Option CoreType
operation_type a b = when (is_int a && is_int b) Int

abbrev pub branch_type : CoreType → CoreType → CoreType → Option CoreType
branch_type c a b = when (is_int c && same_type a b) a

abbrev pub let_type : CoreType → CoreType → Option CoreType
let_type p u = when (not (is_signal p && not (is_signal u))) u

-- whether a type is a signal of these values
abbrev pub is_signal_of : CoreType → CoreType → Bool
is_signal_of (Signal t) q = same_type q t
is_signal_of _ q = false

-- what is left of a function's type once it has taken the value of a signal
abbrev pub rest_type : CoreType → CoreType → Option CoreType
rest_type (Arrow q rest) s = when (is_signal_of s q) rest
rest_type _ s = None

-- whether a type is that of functions from these values to such values
abbrev pub keeps : CoreType → CoreType → Bool
keeps (Arrow a b) r = same_type a r && same_type b r
keeps _ r = false

abbrev pub folds : CoreType → CoreType → CoreType → Bool
folds (Arrow q rest) r s = is_signal_of s q && keeps rest r
folds _ r s = false

-- of a foldp, by its function's, its base's and its signal's types
abbrev pub foldp_type : CoreType → CoreType → CoreType → Option CoreType
foldp_type f r s = when (is_simple f && folds f r s) (Signal r)

abbrev pub async_type : CoreType → Option CoreType
async_type s = when (is_simple_signal s) s

-- at most so many terms
abbrev pub is_count_within : ℕ → CoreTerms → Bool
is_count_within n term.End = true
is_count_within zero (term.More t ts) = false
is_count_within (suc n) (term.More t ts) = is_count_within n ts

-- one to nine terms
abbrev pub is_liftable : CoreTerms → Bool
is_liftable term.End = false
is_liftable (term.More t ts) = is_count_within 8 ts

module _ (inputs shared : List CoreType) where
  abbrev mutual
    pub found_type : List CoreType → CoreTerm → Option CoreType
    found_type g term.Unit = Some Unit
    found_type g (term.Int n) = Some Int
    found_type g (term.Var n) = slice_get g n
    found_type g (term.Input n) = slice_get inputs n
    found_type g (term.Node n) = slice_get shared n
    found_type g (term.Lam p b) = option_and_then (function_type p) (found_type (p ∷ g) b)
    found_type g (term.App f a) = option_and_then (λ p. option_and_then (result_type p) (found_type g a)) (found_type g f)
    found_type g (term.Bin o a b) = option_and_then (λ p. option_and_then (operation_type p) (found_type g b)) (found_type g a)
    found_type g (term.If c a b) =
        option_and_then (λ p. option_and_then (λ q. option_and_then (branch_type p q) (found_type g b)) (found_type g a)) (found_type g c)
    found_type g (term.Let a b) = option_and_then (λ p. option_and_then (let_type p) (found_type (p ∷ g) b)) (found_type g a)
    found_type g (term.Lift f ts) =
        option_and_then (λ p. if is_simple p && is_liftable ts then lifted_type g p ts else None) (found_type g f)
    found_type g (term.Foldp f b s) =
        option_and_then (λ p. option_and_then (λ r. option_and_then (foldp_type p r) (found_type g s)) (found_type g b)) (found_type g f)
    found_type g (term.Async s) = option_and_then async_type (found_type g s)

    -- of a lift, by what is left of its function's type and of its arguments
    pub lifted_type : List CoreType → CoreType → CoreTerms → Option CoreType
    lifted_type g p term.End = Some (Signal p)
    lifted_type g p (term.More t ts) =
        option_and_then (λ s. option_and_then (λ rest. lifted_type g rest ts) (rest_type p s)) (found_type g t)

-- the type that the term has under these types, or none
abbrev pub TypeIs : List CoreType → List CoreType → List CoreType → CoreTerm → Option CoreType → Type 0
TypeIs inputs shared binders t (Some u) = HasType inputs shared binders t u
TypeIs inputs shared binders t None = (u : CoreType) → ¬ HasType inputs shared binders t u
