-- What is checked is typed.
use Rattle.std.proofs.Common.{◌≡◌, Bool, true, List, [], Some, Result, Ok, Err, IfErr, refl, ap, subst, ◌∙◌, if◌then◌else◌}
use Rattle.felm_term.specs.CoreType.{CoreType, is_simple_signal}
use Rattle.felm_term.specs.CoreTerm.{CoreTerm}
use Rattle.felm_term.specs.Typing.{HasType}
use Rattle.felm_term.specs.Inputs.{names_of, signal_types}
use Rattle.felm_term.specs.declared.input.InputDecl.{InputDecl}
use Rattle.felm_syntax.specs.Expression.{Expression, place_of}
use Rattle.felm_syntax.specs.declared.program.Program.{Program}
use Rattle.felm_types.specs.CoreTermOf.{core_term}
use Rattle.felm_types.specs.Judgement.{Judged, ◌>>=◌, judge, judge_main, IsFaultOf}
use Rattle.felm_types.specs.Typed.{IsTyped}
use Rattle.felm_types.specs.declared.fault.TypeFault.{TypeFault}
use Rattle.felm_types.specs.declared.fault.TypeFault.TheVariants as fault
use Rattle.felm_types.proofs.Typings.{judged_typed, typed_judged}

-- the core term of what is judged has the type that is judged
pub term_typed : (inputs : List InputDecl) (main : Expression) (t : CoreTerm) (u : CoreType) → judge inputs [] main ≡ Ok u
    → core_term (names_of inputs) [] main ≡ Some t → HasType (signal_types inputs) [] [] t u
term_typed inputs main t u h k =
    let typed = judged_typed inputs [] main u h in
    let e : typed.0 ≡ t = let f = typed.1 in cc in
    subst (λ x. HasType (signal_types inputs) [] [] x u) e typed.2

signal_first : (main : Expression) (b : Bool) (u : CoreType) → b ≡ true → (if b then Ok u else Err (fault.MainType (place_of main))) ≡ Ok u
signal_first main b u h = ap (λ c. if c then Ok u else Err (fault.MainType (place_of main))) h

typed_main : (program : Program) → IsTyped program → (u : CoreType) × (judge_main program.inputs program.main ≡ Ok u)
typed_main program (u, signal, typed) =
    let first = λ (judged : Judged CoreType). judged >>= λ v. if is_simple_signal v then Ok v else Err (fault.MainType (place_of program.main)) in
    (u, ap first (typed_judged program.inputs [] program.main u typed) ∙ signal_first program.main (is_simple_signal u) u signal)

no_fault : (judged : Judged CoreType) (u : CoreType) (f : TypeFault) → judged ≡ Ok u → IsFaultOf judged f → f ≡ fault.Memory
no_fault judged u (fault.Untyped at) h k = let e = k (λ g. cc) in cc
no_fault judged u (fault.Unknown at) h k = let e = k (λ g. cc) in cc
no_fault judged u (fault.IllFormed at) h k = let e = k (λ g. cc) in cc
no_fault judged u (fault.MainType at) h k = let e = k (λ g. cc) in cc
no_fault judged u fault.Memory h k = refl

-- a typed program is refused for want of memory alone
pub typed_refused : {A : Type 0} (program : Program) (result : Result A TypeFault) → IfErr result (IsFaultOf (judge_main program.inputs program.main))
    → IsTyped program → IfErr result (λ f. f ≡ fault.Memory)
typed_refused program (Ok x) h typed = h
typed_refused program (Err f) h typed =
    let main = typed_main program typed in
    no_fault (judge_main program.inputs program.main) main.0 f main.1 h
