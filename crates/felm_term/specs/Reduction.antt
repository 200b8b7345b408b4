-- Steps of reduction of a pair: the shared signals B, and a term.
use Rattle.std.specs.Prelude.{ℕ, zero, suc, List, [], ◌∷◌, ◌++◌, length, if◌then◌else◌, ℤ}
use Rattle.felm_term.specs.CoreType.{CoreType}
use Rattle.felm_term.specs.CoreTerm.{CoreTerm, CoreTerms, Int, Lam, App, Bin, If, Let, Input, Node, Lift, Foldp, Async, End, More}
use Rattle.felm_term.specs.CoreTerm as term
use Rattle.felm_term.specs.Operators.{apply_op, is_zero}
use Rattle.felm_term.specs.Substitution.{substitute}
use Rattle.felm_term.specs.declared.op.Op.{Op}

-- unit, a number or a function
abbrev pub IsValue : CoreTerm → Type 0
IsValue term.Unit = Unit {0}
IsValue (Int n) = Unit {0}
IsValue (Lam p b) = Unit {0}
IsValue _ = ⊥

abbrev mutual
  -- an input, a shared signal, a lift or a foldp of values over signal terms, or an async of a signal term
  pub IsSignalTerm : CoreTerm → Type 0
  IsSignalTerm (Input n) = Unit {0}
  IsSignalTerm (Node n) = Unit {0}
  IsSignalTerm (Lift f ts) = IsValue f × AreSignalTerms ts
  IsSignalTerm (Foldp f b s) = IsValue f × IsValue b × IsSignalTerm s
  IsSignalTerm (Async s) = IsSignalTerm s
  IsSignalTerm _ = ⊥

  -- each argument is a signal term
  pub AreSignalTerms : CoreTerms → Type 0
  AreSignalTerms End = Unit {0}
  AreSignalTerms (More t ts) = IsSignalTerm t × AreSignalTerms ts

-- the shared signals are signal terms
abbrev pub AreSharedSignals : List CoreTerm → Type 0
AreSharedSignals [] = Unit {0}
AreSharedSignals (s ∷ B) = IsSignalTerm s × AreSharedSignals B

mutual
  -- one step from a pair to the next one
  pub data Step : List CoreTerm → CoreTerm → List CoreTerm → CoreTerm → Type 0 where
    -- the five rules
    op : {B : List CoreTerm} {o : Op} {m n : ℤ} →
        Step B (Bin o (Int m) (Int n)) B (Int (apply_op o m n))
    cond : {B : List CoreTerm} {n : ℤ} {a b : CoreTerm} →
        Step B (If (Int n) a b) B (if is_zero n then b else a)
    app : {B : List CoreTerm} {p : CoreType} {a b : CoreTerm} →
        Step B (App (Lam p a) b) B (Let b a)
    letv : {B : List CoreTerm} {v a : CoreTerm} → IsValue v →
        Step B (Let v a) B (substitute v a)
    share : {B : List CoreTerm} {s a : CoreTerm} → IsSignalTerm s →
        Step B (Let s a) (B ++ s ∷ []) (substitute (Node (length B)) a)
    -- the one place in a term at which its next step is taken
    in_function : {B C : List CoreTerm} {f g a : CoreTerm} →
        Step B f C g → Step B (App f a) C (App g a)
    in_left : {B C : List CoreTerm} {o : Op} {a c b : CoreTerm} →
        Step B a C c → Step B (Bin o a b) C (Bin o c b)
    in_right : {B C : List CoreTerm} {o : Op} {n : ℤ} {b c : CoreTerm} →
        Step B b C c → Step B (Bin o (Int n) b) C (Bin o (Int n) c)
    in_condition : {B C : List CoreTerm} {c d a b : CoreTerm} →
        Step B c C d → Step B (If c a b) C (If d a b)
    in_bound : {B C : List CoreTerm} {a c b : CoreTerm} →
        Step B a C c → Step B (Let a b) C (Let c b)
    in_lift_function : {B C : List CoreTerm} {f g : CoreTerm} {ts : CoreTerms} →
        Step B f C g → Step B (Lift f ts) C (Lift g ts)
    in_arguments : {B C : List CoreTerm} {f : CoreTerm} {ts us : CoreTerms} → IsValue f →
        StepOfArguments B ts C us → Step B (Lift f ts) C (Lift f us)
    in_foldp_function : {B C : List CoreTerm} {f g b s : CoreTerm} →
        Step B f C g → Step B (Foldp f b s) C (Foldp g b s)
    in_base : {B C : List CoreTerm} {f b c s : CoreTerm} → IsValue f →
        Step B b C c → Step B (Foldp f b s) C (Foldp f c s)
    in_signal : {B C : List CoreTerm} {f b s t : CoreTerm} → IsValue f → IsValue b →
        Step B s C t → Step B (Foldp f b s) C (Foldp f b t)
    in_async : {B C : List CoreTerm} {s t : CoreTerm} →
        Step B s C t → Step B (Async s) C (Async t)

  -- a step in the first argument that is no signal term yet
  pub data StepOfArguments : List CoreTerm → CoreTerms → List CoreTerm → CoreTerms → Type 0 where
    in_first : {B C : List CoreTerm} {t u : CoreTerm} {ts : CoreTerms} →
        Step B t C u → StepOfArguments B (More t ts) C (More u ts)
    in_rest : {B C : List CoreTerm} {t : CoreTerm} {ts us : CoreTerms} → IsSignalTerm t →
        StepOfArguments B ts C us → StepOfArguments B (More t ts) C (More t us)

-- so many steps, each the use of one rule, lead from one pair to another
pub data Steps : ℕ → List CoreTerm → CoreTerm → List CoreTerm → CoreTerm → Type 0 where
  none : {B : List CoreTerm} {e : CoreTerm} → Steps zero B e B e
  more : {n : ℕ} {B C D : List CoreTerm} {e f g : CoreTerm} →
      Steps n B e C f → Step C f D g → Steps (suc n) B e D g

-- no rule applies
abbrev pub HasNoStep : List CoreTerm → CoreTerm → Type 0
HasNoStep B e = (C : List CoreTerm) (f : CoreTerm) → ¬ Step B e C f

-- the shared signals and the term are signal terms, and no rule applies
abbrev pub IsFinished : List CoreTerm → CoreTerm → Type 0
IsFinished B e = AreSharedSignals B × HasNoStep B e × IsSignalTerm e
