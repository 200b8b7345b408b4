-- Parts of a simple type, and what a term is that a search looks into.
use Rattle.std.proofs.Common.{◌≡◌, ℕ, IsTrue, ℤ, List, [], refl, arith}
use Rattle.felm_term.specs.CoreType.{CoreType, Arrow, Signal, is_simple}
use Rattle.felm_term.specs.CoreType as type
use Rattle.felm_term.specs.CoreTerm.{CoreTerm, CoreTerms, Int, Var, Bin, If, Lift, Foldp, End, More}
use Rattle.felm_term.specs.Typing.{HasType, AreSignals, HasSimpleType}
use Rattle.felm_term.specs.Inputs.{signal_types}
use Rattle.felm_term.specs.Reduction.{IsValue}
use Rattle.felm_term.specs.declared.input.InputDecl.{InputDecl}
use Rattle.felm_term.specs.declared.op.Op.{Op}
use Rattle.felm_laws.proofs.Formed.{declared_signals, folded_simple}
use Rattle.felm_laws.proofs.Progress.{int_value}
use Rattle.felm_laws.proofs.SimpleTerms.{no_signals, simple_steps}
use Rattle.felm_stage.specs.Moves.{IsTypedPart, Takes}

simply : (inputs : List InputDecl) (shared : List CoreType) (e : CoreTerm) (u : CoreType) → AreSignals shared → IsTrue (is_simple u)
    → HasType (signal_types inputs) shared [] e u → HasSimpleType e
simply inputs shared e u ws c h = (u, c, no_signals (signal_types inputs) shared (declared_signals inputs) ws [] e u tt c h)

pub operation_simple : (o : Op) (a b : CoreTerm) → IsTypedPart (Bin o a b) → HasSimpleType (Bin o a b)
operation_simple o a b h = simply h.0 h.1 (Bin o a b) type.Int h.3 refl (refl, h.4.1, h.4.2)

pub condition_simple : (c a b : CoreTerm) → IsTypedPart (If c a b) → HasSimpleType c
condition_simple c a b h = simply h.0 h.1 c type.Int h.3 refl h.4.0

pub lift_simple : (f : CoreTerm) (ts : CoreTerms) → IsTypedPart (Lift f ts) → HasSimpleType f
lift_simple f ts h = simply h.0 h.1 f h.4.0 h.3 h.4.3 h.4.4

pub foldp_simple : (f b s : CoreTerm) → IsTypedPart (Foldp f b s) → HasSimpleType f
foldp_simple f b s h = simply h.0 h.1 f (Arrow h.4.0 (Arrow h.4.1 h.4.1)) h.3 h.4.3 h.4.4

pub base_simple : (f b s : CoreTerm) → IsTypedPart (Foldp f b s) → HasSimpleType b
base_simple f b s h = simply h.0 h.1 b h.4.1 h.3 (folded_simple h.4.0 h.4.1 h.4.3) h.4.5

pub lift_has_one : (f : CoreTerm) (ts : CoreTerms) → IsTypedPart (Lift f ts) → (t : CoreTerm) × (us : CoreTerms) × (ts ≡ More t us)
lift_has_one f End h = absurd (omega (arith, h.4.6))
lift_has_one f (More t us) h = (t, us, refl)

pub no_variable : (n : ℕ) → ¬ IsTypedPart (Var n)
no_variable n h = let e = h.4 in cc

-- the value of a condition is a number
pub condition_number : (c a b v : CoreTerm) (left after : ℕ) → IsTypedPart (If c a b) → Takes left after c v → IsValue v → (n : ℤ) × (v ≡ Int n)
condition_number c a b v left after h r w =
    let k = no_signals (signal_types h.0) h.1 (declared_signals h.0) h.3 [] c type.Int tt refl h.4.0 in
    int_value [] [] tt tt [] v w (simple_steps type.Int refl k (r.2 [])).1
