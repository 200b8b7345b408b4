-- The core term of an expression: numbers in place of names.
use Rattle.std.specs.Prelude.{ℕ, List, ◌∷◌, Option, Some, position, bytes_eq}
use Rattle.std.specs.Option.{option_map, option_and_then, option_or}
use Rattle.felm_term.specs.CoreTerm.{CoreTerm, CoreTerms}
use Rattle.felm_term.specs.CoreTerm as core
use Rattle.felm_syntax.specs.Expression.{Expression, Expressions, Int, Name, Lam, App, Bin, If, Let, Lift, Foldp, Async, End, More}
use Rattle.felm_syntax.specs.Expression as expression

-- what a name stands for: the nearest enclosing binder of that name, else the input of that name. The nearest binder is the first
abbrev pub named : List (List ℕ) → List (List ℕ) → List ℕ → Option CoreTerm
named inputs binders x =
    option_or (option_map core.Var (position (bytes_eq x) binders)) (option_map core.Input (position (bytes_eq x) inputs))

-- a whole of two parts, if there are both; a whole of three
abbrev pub of_two : {A B C : Type 0} → (A → B → C) → Option A → Option B → Option C
of_two whole a b = option_and_then (λ x. option_map (whole x) b) a

abbrev pub of_three : {A B C D : Type 0} → (A → B → C → D) → Option A → Option B → Option C → Option D
of_three whole a b c = option_and_then (λ x. of_two (whole x) b c) a

-- under the names of the inputs
module _ (inputs : List (List ℕ)) where
  abbrev mutual
    -- the core term of an expression under the names of its binders, if something binds each name in it
    pub core_term : List (List ℕ) → Expression → Option CoreTerm
    core_term g (expression.Unit at) = Some core.Unit
    core_term g (Int n at) = Some (core.Int n)
    core_term g (Name x at) = named inputs g x
    core_term g (Lam x t t_at b at) = option_map (core.Lam t) (core_term (x ∷ g) b)
    core_term g (App f a at) = of_two core.App (core_term g f) (core_term g a)
    core_term g (Bin o a b at) = of_two (core.Bin o) (core_term g a) (core_term g b)
    core_term g (If c a b at) = of_three core.If (core_term g c) (core_term g a) (core_term g b)
    core_term g (Let x a b at) = of_two core.Let (core_term g a) (core_term (x ∷ g) b)
    core_term g (Lift f es at) = of_two core.Lift (core_term g f) (core_terms g es)
    core_term g (Foldp f b s at) = of_three core.Foldp (core_term g f) (core_term g b) (core_term g s)
    core_term g (Async s at) = option_map core.Async (core_term g s)

    pub core_terms : List (List ℕ) → Expressions → Option CoreTerms
    core_terms g End = Some core.End
    core_terms g (More e es) = of_two core.More (core_term g e) (core_terms g es)
