-- Redexes that a search of stage one finds, and what the rules make of them beside shared signals.
use Rattle.std.specs.Prelude.{List, [], ◌∷◌, ◌++◌, length, if◌then◌else◌}
use Rattle.felm_term.specs.CoreTerm.{CoreTerm, Int, Lam, App, If, Let, Node}
use Rattle.felm_term.specs.Operators.{is_zero}
use Rattle.felm_term.specs.Substitution.{substitute}
use Rattle.felm_term.specs.Reduction.{IsValue, IsSignalTerm}
use Rattle.felm_stage.specs.declared.contract.Redex.{Redex}
use Rattle.felm_stage.specs.declared.contract.Redex.TheVariants as redex

-- the redex as a term
abbrev pub redex_term : Redex → CoreTerm
redex_term (redex.Conditional n a b) = If (Int n) a b
redex_term (redex.Application p a b) = App (Lam p a) b
redex_term (redex.Let v a) = Let v a
redex_term (redex.Share s a) = Let s a

-- what a let binds is a value; what it shares is a signal term
abbrev pub IsReady : Redex → Type 0
IsReady (redex.Let v a) = IsValue v
IsReady (redex.Share s a) = IsSignalTerm s
IsReady _ = Unit {0}

-- the term that its rule makes of it; the next number is the name of what it shares
abbrev pub contractum : List CoreTerm → Redex → CoreTerm
contractum B (redex.Conditional n a b) = if is_zero n then b else a
contractum B (redex.Application p a b) = Let b a
contractum B (redex.Let v a) = substitute v a
contractum B (redex.Share s a) = substitute (Node (length B)) a

-- the shared signals after it
abbrev pub shared_after : List CoreTerm → Redex → List CoreTerm
shared_after B (redex.Share s a) = B ++ s ∷ []
shared_after B _ = B
