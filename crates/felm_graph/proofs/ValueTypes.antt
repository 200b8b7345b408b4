-- The types of values.
use Rattle.std.proofs.Common.{◌≡◌, [], sym, ap}
use Rattle.std.specs.Option.{unwrap_or}
use Rattle.felm_term.specs.CoreType.{CoreType}
use Rattle.felm_term.specs.CoreType as type
use Rattle.felm_term.specs.CoreTerm.{CoreTerm, CoreTerms, Int, Var, Lam, App, Bin, If, Let, Input, Node, Lift, Foldp, Async}
use Rattle.felm_term.specs.CoreTerm as term
use Rattle.felm_term.specs.Typing.{HasType, HasSimpleType, IsFunction}
use Rattle.felm_term.specs.Values.{term_of}
use Rattle.felm_term.specs.declared.value.Value.{Value}
use Rattle.felm_term.proofs.FoundTypes.{has_found}
use Rattle.felm_graph.specs.Layout.{value_type}

pub function_simple : (f : CoreTerm) → IsFunction f → HasSimpleType f
function_simple term.Unit h = absurd h
function_simple (Int n) h = absurd h
function_simple (Var n) h = absurd h
function_simple (Lam p b) h = h
function_simple (App f a) h = absurd h
function_simple (Bin o a b) h = absurd h
function_simple (If c a b) h = absurd h
function_simple (Let a b) h = absurd h
function_simple (Input n) h = absurd h
function_simple (Node n) h = absurd h
function_simple (Lift f ts) h = absurd h
function_simple (Foldp f b s) h = absurd h
function_simple (Async s) h = absurd h

-- a type of a value's term is the value's type
pub value_type_is : (v : Value) (u : CoreType) → HasType [] [] [] (term_of v) u → u ≡ value_type v
value_type_is v u h = sym (ap (λ found. unwrap_or found type.Unit) (has_found [] [] [] (term_of v) u h))
