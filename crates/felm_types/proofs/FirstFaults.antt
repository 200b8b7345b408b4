-- The fault that is judged is the first one.
use Rattle.std.proofs.Common.{◌≡◌, ◌↔◌, ℕ, ◌<◌, Bool, true, false, List, [], ◌∷◌, length, Option, Some, None, is_some, Result, Ok, Err, IfErr, refl, sym, ap, subst, ◌∙◌, position, bytes_eq, slice_get, if◌then◌else◌}
use Rattle.std.specs.Result.{result_ok, result_err}
use Rattle.std.specs.Option.{option_map, option_or, option_and_then, ok_or}
use Rattle.std.proofs.lemmas.List.{length-map}
use Rattle.std.proofs.lemmas.List.Quantifiers.{position-Some}
use Rattle.std.proofs.lemmas.Option.{slice_get-get_or}
use Rattle.felm_term.specs.CoreType.{CoreType, is_well_formed, is_simple_signal}
use Rattle.felm_term.specs.CoreTerm.{CoreTerm}
use Rattle.felm_term.specs.CoreTerm as core
use Rattle.felm_term.specs.FoundType.{found_type, function_type, result_type, operation_type, branch_type, let_type, foldp_type, async_type}
use Rattle.felm_term.specs.Inputs.{names_of, signal_types, values_type}
use Rattle.felm_term.specs.CoreType as type
use Rattle.felm_term.specs.declared.input.InputDecl.{InputDecl}
use Rattle.felm_syntax.specs.Expression.{Expression, Expressions, Int, Name, Lam, App, Bin, If, Let, Lift, Foldp, Async, End, More, place_of}
use Rattle.felm_syntax.specs.Expression as expression
use Rattle.felm_syntax.specs.declared.program.Program.{Program}
use Rattle.felm_types.specs.Binder.{Binder, names, types}
use Rattle.felm_types.specs.CoreTermOf.{named}
use Rattle.felm_types.specs.Judgement.{Judged, ◌>>=◌, row, lift_type, judge, judge_all, judge_main, IsFaultOf}
use Rattle.felm_types.specs.FirstFault.{earliest, unless, type_in, first_fault, first_fault_in, is_main_type, program_fault, IsFirstFault}
use Rattle.felm_types.specs.Typed.{IsOfType}
use Rattle.felm_types.specs.declared.fault.TypeFault.{TypeFault}
use Rattle.felm_types.specs.declared.fault.TypeFault.TheVariants as fault
use Rattle.felm_types.proofs.Typings.{judged, ok_is, judged_typed, typed_judged}

-- ---- parts and then a row

abbrev untyped : ℕ → Option CoreType → Option TypeFault
untyped at found = unless (is_some found) (fault.Untyped at)

row_fault : (at : ℕ) (found whole : Option CoreType) → result_ok (row at found) ≡ whole → untyped at whole ≡ result_err (row at found)
row_fault at None whole h = ap (untyped at) (sym h)
row_fault at (Some u) whole h = ap (untyped at) (sym h)

alone : (f : Option TypeFault) → earliest (f ∷ []) ≡ f
alone None = refl
alone (Some f) = refl

fault_of_one : {A : Type 0} (a : Judged A) (of_row : A → Option CoreType) (at : ℕ) (f : Option TypeFault) (whole : Option CoreType)
    → f ≡ result_err a → result_ok (a >>= λ p. row at (of_row p)) ≡ whole
    → earliest (f ∷ untyped at whole ∷ []) ≡ result_err (a >>= λ p. row at (of_row p))
fault_of_one (Ok p) of_row at f whole e h = ap (λ x. earliest (x ∷ untyped at whole ∷ [])) e ∙ alone (untyped at whole) ∙ row_fault at (of_row p) whole h
fault_of_one (Err x) of_row at f whole e h = ap (λ y. earliest (y ∷ untyped at whole ∷ [])) e

fault_of_two : {A B : Type 0} (a : Judged A) (b : A → Judged B) (of_row : A → B → Option CoreType) (at : ℕ) (f g : Option TypeFault) (whole : Option CoreType)
    → f ≡ result_err a → ((p : A) → a ≡ Ok p → g ≡ result_err (b p)) → result_ok (a >>= λ p. b p >>= λ q. row at (of_row p q)) ≡ whole
    → earliest (f ∷ g ∷ untyped at whole ∷ []) ≡ result_err (a >>= λ p. b p >>= λ q. row at (of_row p q))
fault_of_two (Ok p) b of_row at f g whole e k h =
    ap (λ x. earliest (x ∷ g ∷ untyped at whole ∷ [])) e ∙ fault_of_one (b p) (of_row p) at g whole (k p refl) h
fault_of_two (Err x) b of_row at f g whole e k h = ap (λ y. earliest (y ∷ g ∷ untyped at whole ∷ [])) e

fault_of_three : {A B C : Type 0} (a : Judged A) (b : Judged B) (c : Judged C) (of_row : A → B → C → Option CoreType) (at : ℕ) (f g h : Option TypeFault) (whole : Option CoreType)
    → f ≡ result_err a → g ≡ result_err b → h ≡ result_err c → result_ok (a >>= λ p. b >>= λ q. c >>= λ r. row at (of_row p q r)) ≡ whole
    → earliest (f ∷ g ∷ h ∷ untyped at whole ∷ []) ≡ result_err (a >>= λ p. b >>= λ q. c >>= λ r. row at (of_row p q r))
fault_of_three (Ok p) b c of_row at f g h whole e k l w =
    ap (λ x. earliest (x ∷ g ∷ h ∷ untyped at whole ∷ [])) e ∙ fault_of_two b (λ _. c) (of_row p) at g h whole k (λ _ _. l) w
fault_of_three (Err x) b c of_row at f g h whole e k l w = ap (λ y. earliest (y ∷ g ∷ h ∷ untyped at whole ∷ [])) e

fault_of_more : (a : Judged CoreType) (b : Judged (List CoreType)) (f g : Option TypeFault) → f ≡ result_err a → g ≡ result_err b
    → earliest (f ∷ g ∷ []) ≡ result_err (a >>= λ s. b >>= λ signals. Ok (s ∷ signals))
fault_of_more (Ok s) (Ok signals) f g e k = λ i. earliest (e i ∷ k i ∷ [])
fault_of_more (Ok s) (Err x) f g e k = λ i. earliest (e i ∷ k i ∷ [])
fault_of_more (Err x) b f g e k = ap (λ y. earliest (y ∷ g ∷ [])) e

-- ---- annotations

abbrev annotation : Bool → CoreType → ℕ → Judged CoreType
annotation formed t at = if formed then Ok t else Err (fault.IllFormed at)

annotation_fault : (formed : Bool) (t : CoreType) (at : ℕ) → unless formed (fault.IllFormed at) ≡ result_err (annotation formed t at)
annotation_fault true t at = refl
annotation_fault false t at = refl

annotation_is : (formed : Bool) (t p : CoreType) (at : ℕ) → annotation formed t at ≡ Ok p → t ≡ p
annotation_is true t p at h = cc
annotation_is false t p at h = cc

-- ---- names

-- what stands beside a key that is found
found_beside : {X Y : Type 0} (test : X → Bool) (keys : List X) (ys : List Y) (d : X) (e : Y) → length keys ≡ length ys
    → (n : ℕ) → position test keys ≡ Some n → is_some (slice_get ys n) ≡ true
found_beside test keys ys d e same n h =
    let within = position-Some test keys n d h in
    ap is_some (slice_get-get_or ys n e (subst (λ m. n < m) same within.0))

named_found : (binder input : Option ℕ) (find : CoreTerm → Option CoreType)
    → ((n : ℕ) → binder ≡ Some n → is_some (find (core.Var n)) ≡ true) → ((n : ℕ) → input ≡ Some n → is_some (find (core.Input n)) ≡ true)
    → (t : CoreTerm) → option_or (option_map core.Var binder) (option_map core.Input input) ≡ Some t → is_some (find t) ≡ true
named_found (Some n) input find h k t e = let f : core.Var n ≡ t = cc in subst (λ x. is_some (find x) ≡ true) f (h n refl)
named_found None (Some n) find h k t e = let f : core.Input n ≡ t = cc in subst (λ x. is_some (find x) ≡ true) f (k n refl)
named_found None None find h k t e = cc

found_row : (found : Option CoreType) (at : ℕ) → is_some found ≡ true → None ≡ result_err (row at found)
found_row None at h = cc
found_row (Some u) at h = refl

name_fault : (meant : Option CoreTerm) (find : CoreTerm → Option CoreType) (at : ℕ) → ((t : CoreTerm) → meant ≡ Some t → is_some (find t) ≡ true)
    → unless (is_some meant) (fault.Unknown at) ≡ result_err (ok_or meant (fault.Unknown at) >>= λ t. row at (find t))
name_fault None find at h = refl
name_fault (Some t) find at h = found_row (find t) at (h t refl)

ok_if : {A : Type 0} (r : Judged A) → result_err r ≡ None → (x : A) × (r ≡ Ok x)
ok_if (Ok x) h = (x, refl)
ok_if (Err f) h = cc

module _ (inputs : List InputDecl) where
  named_typed : (g : List Binder) (x : List ℕ) (t : CoreTerm) → named (names_of inputs) (names g) x ≡ Some t
      → is_some (found_type (signal_types inputs) [] (types g) t) ≡ true
  named_typed g x t h =
      named_found (position (bytes_eq x) (names g)) (position (bytes_eq x) (names_of inputs)) (found_type (signal_types inputs) [] (types g))
      (found_beside (bytes_eq x) (names g) (types g) [] type.Unit (length-map g (λ b. b.name) ∙ sym (length-map g (λ b. b.ty))))
      (found_beside (bytes_eq x) (names_of inputs) (signal_types inputs) [] type.Unit
      (length-map inputs (λ d. d.name) ∙ sym (length-map inputs (λ d. type.Signal (values_type d.ty))))) t h

  ok_type : (g : List Binder) (e : Expression) (p : CoreType) → judge inputs g e ≡ Ok p → type_in inputs g e ≡ Some p
  ok_type g e p h = sym (judged inputs g e) ∙ ap result_ok h

  mutual
    pub fault_is : (g : List Binder) (e : Expression) → first_fault inputs g e ≡ result_err (judge inputs g e)
    fault_is g (expression.Unit at) = refl
    fault_is g (Int n at) = refl
    fault_is g (Name x at) =
        name_fault (named (names_of inputs) (names g) x) (found_type (signal_types inputs) [] (types g)) at (named_typed g x)
    fault_is g (Lam x t t_at b at) =
        fault_of_two (annotation (is_well_formed t) t t_at) (λ p. judge inputs (record { name = x; ty = p } ∷ g) b) function_type at
        (unless (is_well_formed t) (fault.IllFormed t_at)) (first_fault inputs (record { name = x; ty = t } ∷ g) b) (type_in inputs g (Lam x t t_at b at))
        (annotation_fault (is_well_formed t) t t_at)
        (λ p h. fault_is (record { name = x; ty = t } ∷ g) b
        ∙ ap (λ q. result_err (judge inputs (record { name = x; ty = q } ∷ g) b)) (annotation_is (is_well_formed t) t p t_at h))
        (judged inputs g (Lam x t t_at b at))
    fault_is g (App f a at) =
        fault_of_two (judge inputs g f) (λ _. judge inputs g a) result_type at (first_fault inputs g f) (first_fault inputs g a) (type_in inputs g (App f a at))
        (fault_is g f) (λ _ _. fault_is g a) (judged inputs g (App f a at))
    fault_is g (Bin o a b at) =
        fault_of_two (judge inputs g a) (λ _. judge inputs g b) operation_type at (first_fault inputs g a) (first_fault inputs g b) (type_in inputs g (Bin o a b at))
        (fault_is g a) (λ _ _. fault_is g b) (judged inputs g (Bin o a b at))
    fault_is g (If c a b at) =
        fault_of_three (judge inputs g c) (judge inputs g a) (judge inputs g b) branch_type at (first_fault inputs g c) (first_fault inputs g a) (first_fault inputs g b)
        (type_in inputs g (If c a b at)) (fault_is g c) (fault_is g a) (fault_is g b) (judged inputs g (If c a b at))
    fault_is g (Let x a b at) =
        let body : CoreType → Option TypeFault = λ p. first_fault inputs (record { name = x; ty = p } ∷ g) b in
        fault_of_two (judge inputs g a) (λ p. judge inputs (record { name = x; ty = p } ∷ g) b) let_type at (first_fault inputs g a)
        (option_and_then body (type_in inputs g a)) (type_in inputs g (Let x a b at)) (fault_is g a)
        (λ p h. ap (option_and_then body) (ok_type g a p h) ∙ fault_is (record { name = x; ty = p } ∷ g) b) (judged inputs g (Let x a b at))
    fault_is g (Lift f es at) =
        fault_of_two (judge inputs g f) (λ _. judge_all inputs g es) lift_type at (first_fault inputs g f) (first_fault_in inputs g es) (type_in inputs g (Lift f es at))
        (fault_is g f) (λ _ _. faults_are g es) (judged inputs g (Lift f es at))
    fault_is g (Foldp f b s at) =
        fault_of_three (judge inputs g f) (judge inputs g b) (judge inputs g s) foldp_type at (first_fault inputs g f) (first_fault inputs g b) (first_fault inputs g s)
        (type_in inputs g (Foldp f b s at)) (fault_is g f) (fault_is g b) (fault_is g s) (judged inputs g (Foldp f b s at))
    fault_is g (Async s at) =
        fault_of_one (judge inputs g s) async_type at (first_fault inputs g s) (type_in inputs g (Async s at)) (fault_is g s) (judged inputs g (Async s at))

    faults_are : (g : List Binder) (es : Expressions) → first_fault_in inputs g es ≡ result_err (judge_all inputs g es)
    faults_are g End = refl
    faults_are g (More e es) =
        fault_of_more (judge inputs g e) (judge_all inputs g es) (first_fault inputs g e) (first_fault_in inputs g es) (fault_is g e) (faults_are g es)

-- ---- programs

signal_fault : (u : CoreType) (f : TypeFault) (b : Bool) → earliest (unless b f ∷ []) ≡ result_err (if b then Ok u else Err f)
signal_fault u f true = refl
signal_fault u f false = refl

main_fault : (judged : Judged CoreType) (f : TypeFault)
    → earliest (result_err judged ∷ unless (is_main_type (result_ok judged)) f ∷ []) ≡ result_err (judged >>= λ u. if is_simple_signal u then Ok u else Err f)
main_fault (Ok u) f = signal_fault u f (is_simple_signal u)
main_fault (Err x) f = refl

program_fault_is : (program : Program) → program_fault program ≡ result_err (judge_main program.inputs program.main)
program_fault_is program =
    (λ i. earliest (
    fault_is program.inputs [] program.main i
    ∷ unless (is_main_type (sym (judged program.inputs [] program.main) i)) (fault.MainType (place_of program.main)) ∷ []
    )) ∙ main_fault (judge program.inputs [] program.main) (fault.MainType (place_of program.main))

pub first_of_program : {A : Type 0} (program : Program) (result : Result A TypeFault) → IfErr result (IsFaultOf (judge_main program.inputs program.main))
    → IfErr result (IsFirstFault program)
first_of_program program (Ok x) h = h
first_of_program program (Err f) h = λ ne. program_fault_is program ∙ ap result_err (h ne)

-- no fault is the first one exactly where there is a type
pub no_fault_typed : (inputs : List InputDecl) (g : List Binder) (e : Expression) → (first_fault inputs g e ≡ None) ↔ ((u : CoreType) × IsOfType inputs g e u)
no_fault_typed inputs g e = (
  λ h. let ok = ok_if (judge inputs g e) (sym (fault_is inputs g e) ∙ h) in (ok.0, judged_typed inputs g e ok.0 ok.1),
  λ typed. fault_is inputs g e ∙ ap result_err (typed_judged inputs g e typed.0 typed.1),
)

pub type_in_typed : (inputs : List InputDecl) (g : List Binder) (e : Expression) (u : CoreType) → (type_in inputs g e ≡ Some u) ↔ IsOfType inputs g e u
type_in_typed inputs g e u = (
  λ h. judged_typed inputs g e u (ok_is (judge inputs g e) u (judged inputs g e ∙ h)),
  λ typed. sym (judged inputs g e) ∙ ap result_ok (typed_judged inputs g e u typed),
)
