-- Redexes, and what the rules make of them.
use Rattle.std.specs.Prelude.{if◌then◌else◌}
use Rattle.felm_term.specs.CoreTerm.{CoreTerm, Int, Lam, App, Bin, If, Let}
use Rattle.felm_term.specs.Operators.{apply_op, is_zero}
use Rattle.felm_term.specs.Substitution.{substitute}
use Rattle.felm_term.specs.Reduction.{IsValue}
use Rattle.felm_term.specs.Values.{term_of}
use Rattle.felm_reduce.specs.declared.contract.Redex.{Redex}
use Rattle.felm_reduce.specs.declared.contract.Redex.TheVariants as redex

-- the redex as a term
abbrev pub redex_term : Redex → CoreTerm
redex_term (redex.Operation o m n) = Bin o (Int m) (Int n)
redex_term (redex.Conditional n a b) = If (Int n) a b
redex_term (redex.Application p a b) = App (Lam p a) b
redex_term (redex.Let v a) = Let (term_of v) a

-- the term that its rule makes of it
abbrev pub contractum : Redex → CoreTerm
contractum (redex.Operation o m n) = Int (apply_op o m n)
contractum (redex.Conditional n a b) = if is_zero n then b else a
contractum (redex.Application p a b) = Let b a
contractum (redex.Let v a) = substitute (term_of v) a

-- what a let binds is a value
abbrev pub IsReady : Redex → Type 0
IsReady (redex.Let v a) = IsValue (term_of v)
IsReady _ = Unit {0}
