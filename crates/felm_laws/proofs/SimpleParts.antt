-- The forms of closed terms of a simple type, and the parts at which these step.
use Rattle.std.proofs.Common.{ℕ, [], refl}
use Rattle.felm_term.specs.CoreType.{Arrow}
use Rattle.felm_term.specs.CoreType as type
use Rattle.felm_term.specs.CoreTerm.{CoreTerm, CoreTerms, Var, App, Bin, If, Let, Input, Node, Lift, Foldp, Async}
use Rattle.felm_term.specs.Typing.{HasSimpleType}
use Rattle.felm_term.specs.Reduction.{Step}
use Rattle.felm_term.specs.declared.op.Op.{Op}
use Rattle.felm_laws.proofs.Layers.{no_signal_simple}
use Rattle.felm_laws.proofs.SimpleTerms.{function_part, bound_part, simple_step_typed}

-- ---- none of these forms

pub no_variable : (n : ℕ) → ¬ HasSimpleType (Var n)
no_variable n h = let e = h.2 in cc

pub no_input : (n : ℕ) → ¬ HasSimpleType (Input n)
no_input n h = let e = h.2 in cc

pub no_node : (n : ℕ) → ¬ HasSimpleType (Node n)
no_node n h = let e = h.2 in cc

pub no_lift : (f : CoreTerm) (ts : CoreTerms) → ¬ HasSimpleType (Lift f ts)
no_lift f ts h = no_signal_simple h.0 h.2.1 h.1 h.2.2

pub no_foldp : (f b s : CoreTerm) → ¬ HasSimpleType (Foldp f b s)
no_foldp f b s h = no_signal_simple h.0 h.2.1 h.1 h.2.2

pub no_async : (s : CoreTerm) → ¬ HasSimpleType (Async s)
no_async s h = no_signal_simple h.0 h.2.0 h.1 h.2.1

-- ---- the parts

pub simple_function : (f a : CoreTerm) → HasSimpleType (App f a) → HasSimpleType f
simple_function f a h = (Arrow h.2.0 h.0, function_part f h.2.0 h.0 h.1 h.2.1, h.2.1)

pub simple_left : (o : Op) (a b : CoreTerm) → HasSimpleType (Bin o a b) → HasSimpleType a
simple_left o a b h = (type.Int, refl, h.2.1)

pub simple_right : (o : Op) (a b : CoreTerm) → HasSimpleType (Bin o a b) → HasSimpleType b
simple_right o a b h = (type.Int, refl, h.2.2)

pub simple_condition : (c a b : CoreTerm) → HasSimpleType (If c a b) → HasSimpleType c
simple_condition c a b h = (type.Int, refl, h.2.0)

pub simple_bound : (a b : CoreTerm) → HasSimpleType (Let a b) → HasSimpleType a
simple_bound a b h = (h.2.0, bound_part a b h.0 h.1 h.2, h.2.1)

-- the next term is such a term again
pub simple_next : {e f : CoreTerm} → Step [] e [] f → HasSimpleType e → HasSimpleType f
simple_next s h = (h.0, h.1, simple_step_typed h.0 s h.2)
