-- What is judged is typed.
use Rattle.std.proofs.Common.{◌≡◌, ℕ, Bool, true, false, ◌&&◌, List, [], ◌∷◌, length, Option, Some, None, Ok, Err, refl, sym, ap, ◌∙◌, arith, if◌then◌else◌}
use Rattle.std.specs.Result.{result_ok}
use Rattle.std.specs.Option.{option_map, option_and_then, ok_or}
use Rattle.felm_term.specs.CoreType.{CoreType, Arrow, Signal, is_simple, is_well_formed}
use Rattle.felm_term.specs.CoreTerm.{CoreTerm, CoreTerms, count}
use Rattle.felm_term.specs.CoreTerm as core
use Rattle.felm_term.specs.FoundType.{when, found_type, lifted_type, function_type, result_type, operation_type, branch_type, let_type, rest_type, foldp_type, async_type, is_liftable}
use Rattle.felm_term.proofs.FoundTypes.{found_has, has_found}
use Rattle.felm_term.specs.Inputs.{names_of, signal_types}
use Rattle.felm_term.specs.declared.input.InputDecl.{InputDecl}
use Rattle.felm_syntax.specs.Expression.{Expression, Expressions, Int, Name, Lam, App, Bin, If, Let, Lift, Foldp, Async, End, More}
use Rattle.felm_syntax.specs.Expression as expression
use Rattle.felm_types.specs.Binder.{Binder, names, types}
use Rattle.felm_types.specs.CoreTermOf.{named, core_term, core_terms, of_two, of_three}
use Rattle.felm_types.specs.Judgement.{Judged, ◌>>=◌, row, taken, is_one_to_nine, lift_type, judge, judge_all}
use Rattle.felm_types.specs.Typed.{IsOfType}
use Rattle.felm_types.specs.declared.fault.TypeFault.{TypeFault}
use Rattle.felm_types.specs.declared.fault.TypeFault.TheVariants as fault
use Rattle.felm_types.proofs.Lifts.{liftable_is, two_parts}

-- ---- steps

ok_step : {A B : Type 0} (first : Judged A) (next : A → Judged B) → result_ok (first >>= next) ≡ option_and_then (λ x. result_ok (next x)) (result_ok first)
ok_step (Ok x) next = refl
ok_step (Err f) next = refl

pub ok_is : {A : Type 0} (r : Judged A) (x : A) → result_ok r ≡ Some x → r ≡ Ok x
ok_is (Ok y) x h = cc
ok_is (Err f) x h = cc

ok_row : (at : ℕ) (found : Option CoreType) → result_ok (row at found) ≡ found
ok_row at None = refl
ok_row at (Some u) = refl

-- a last part and then a row
ok_last : {A : Type 0} (part : Judged A) (of_row : A → Option CoreType) (at : ℕ) → result_ok (part >>= λ x. row at (of_row x)) ≡ option_and_then of_row (result_ok part)
ok_last (Ok x) of_row at = ok_row at (of_row x)
ok_last (Err f) of_row at = refl

ok_two : {A : Type 0} (a : Judged CoreType) (b : CoreType → Judged A) (x : Option CoreType) (y : CoreType → Option A)
    (of_row : CoreType → A → Option CoreType) (at : ℕ) → result_ok a ≡ x → ((p : CoreType) → result_ok (b p) ≡ y p)
    → result_ok (a >>= λ p. b p >>= λ q. row at (of_row p q)) ≡ option_and_then (λ p. option_and_then (of_row p) (y p)) x
ok_two a b x y of_row at e f =
    ok_step a (λ p. b p >>= λ q. row at (of_row p q))
    ∙ (λ i. option_and_then (λ p. (ok_last (b p) (of_row p) at ∙ ap (option_and_then (of_row p)) (f p)) i) (e i))

ok_three : (a b c : Judged CoreType) (x y z : Option CoreType) (of_row : CoreType → CoreType → CoreType → Option CoreType) (at : ℕ)
    → result_ok a ≡ x → result_ok b ≡ y → result_ok c ≡ z
    → result_ok (a >>= λ p. b >>= λ q. c >>= λ r. row at (of_row p q r))
    ≡ option_and_then (λ p. option_and_then (λ q. option_and_then (of_row p q) z) y) x
ok_three a b c x y z of_row at e f g =
    ok_step a (λ p. b >>= λ q. c >>= λ r. row at (of_row p q r))
    ∙ (λ i. option_and_then (λ p. ok_two b (λ _. c) y (λ _. z) (of_row p) at f (λ _. g) i) (e i))

ok_more : (e : Judged CoreType) (es : Judged (List CoreType)) (x : Option CoreType) (y : Option (List CoreType)) → result_ok e ≡ x → result_ok es ≡ y
    → result_ok (e >>= λ s. es >>= λ signals. Ok (s ∷ signals)) ≡ of_two (λ s signals. s ∷ signals) x y
ok_more (Ok s) (Ok signals) x y e f = λ i. of_two (λ t others. t ∷ others) (e i) (f i)
ok_more (Ok s) (Err g) x y e f = λ i. of_two (λ t others. t ∷ others) (e i) (f i)
ok_more (Err g) es x y e f = ap (λ v. of_two (λ t others. t ∷ others) v y) e

none_either_way : {A B : Type 0} (a : Option A) → option_and_then (λ (x : A). let n : Option B = None in n) a ≡ None
none_either_way None = refl
none_either_way (Some x) = refl

-- ---- wholes by their parts, where `typed` finds the type of a whole

one : {S T : Type 0} (whole : S → CoreTerm) (found : S → Option T) (typed : CoreTerm → Option CoreType) (of_row : T → Option CoreType) (a : Option S)
    → ((x : S) → typed (whole x) ≡ option_and_then of_row (found x))
    → option_and_then of_row (option_and_then found a) ≡ option_and_then typed (option_map whole a)
one whole found typed of_row None h = refl
one whole found typed of_row (Some x) h = sym (h x)

two : {S T : Type 0} (whole : CoreTerm → S → CoreTerm) (first typed : CoreTerm → Option CoreType) (second : CoreType → S → Option T)
    (of_row : CoreType → T → Option CoreType) (a : Option CoreTerm) (b : Option S)
    → ((x : CoreTerm) (y : S) → typed (whole x y) ≡ option_and_then (λ p. option_and_then (of_row p) (second p y)) (first x))
    → option_and_then (λ p. option_and_then (of_row p) (option_and_then (second p) b)) (option_and_then first a) ≡ option_and_then typed (of_two whole a b)
two whole first typed second of_row None b h = refl
two whole first typed second of_row (Some x) None h = none_either_way (first x)
two whole first typed second of_row (Some x) (Some y) h = sym (h x y)

three : (whole : CoreTerm → CoreTerm → CoreTerm → CoreTerm) (found typed : CoreTerm → Option CoreType)
    (of_row : CoreType → CoreType → CoreType → Option CoreType) (a b c : Option CoreTerm)
    → ((x y z : CoreTerm) → typed (whole x y z) ≡ option_and_then (λ p. option_and_then (λ q. option_and_then (of_row p q) (found z)) (found y)) (found x))
    → option_and_then (λ p. option_and_then (λ q. option_and_then (of_row p q) (option_and_then found c)) (option_and_then found b)) (option_and_then found a)
    ≡ option_and_then typed (of_three whole a b c)
three whole found typed of_row None b c h = refl
three whole found typed of_row (Some x) None c h = none_either_way (found x)
three whole found typed of_row (Some x) (Some y) None h =
    (λ i. option_and_then (λ p. none_either_way {B = CoreType} (found y) i) (found x)) ∙ none_either_way (found x)
three whole found typed of_row (Some x) (Some y) (Some z) h = sym (h x y z)

-- ---- functions

formed_first : {A : Type 0} (formed : Bool) (t : CoreType) (f : TypeFault) (next : CoreType → Judged A)
    → result_ok ((if formed then Ok t else Err f) >>= next) ≡ (if formed then result_ok (next t) else None)
formed_first true t f next = refl
formed_first false t f next = refl

formed_row : (formed : Bool) (others : CoreType → Bool) (arrow : CoreType → CoreType) (body : Option CoreType)
    → (if formed then option_and_then (λ r. when (formed && others r) (arrow r)) body else None) ≡ option_and_then (λ r. when (formed && others r) (arrow r)) body
formed_row true others arrow body = refl
formed_row false others arrow body = sym (none_either_way body)

-- ---- lifts

rest_lifted : (rest : Option CoreType) (others : Option (List CoreType)) (lifted : CoreType → Option CoreType)
    → ((r : CoreType) → lifted r ≡ option_and_then (λ signals. option_map Signal (taken r signals)) others)
    → option_and_then lifted rest ≡ option_and_then (λ signals. option_map Signal (option_and_then (λ r. taken r signals) rest)) others
rest_lifted None others lifted h = sym (none_either_way others)
rest_lifted (Some r) others lifted h = h r

behind : (s : CoreType) (others : Option (List CoreType)) (k : List CoreType → Option CoreType)
    → option_and_then (λ signals. k (s ∷ signals)) others ≡ option_and_then k (option_map (λ signals. s ∷ signals) others)
behind s None k = refl
behind s (Some signals) k = refl

more_lifted : (p : CoreType) (first : Option CoreType) (others : Option (List CoreType)) (lifted : CoreType → Option CoreType)
    → ((r : CoreType) → lifted r ≡ option_and_then (λ signals. option_map Signal (taken r signals)) others)
    → option_and_then (λ s. option_and_then lifted (rest_type p s)) first
    ≡ option_and_then (λ signals. option_map Signal (taken p signals)) (of_two (λ s signals. s ∷ signals) first others)
more_lifted p None others lifted h = refl
more_lifted p (Some s) others lifted h =
    rest_lifted (rest_type p s) others lifted h ∙ behind s others (λ signals. option_map Signal (taken p signals))

none_still : (b : Bool) → (if b then (let n : Option CoreType = None in n) else None) ≡ None
none_still true = refl
none_still false = refl

row_of : (p : CoreType) (ts : CoreTerms) (found : Option (List CoreType)) (lifted : Option CoreType)
    → lifted ≡ option_and_then (λ signals. option_map Signal (taken p signals)) found
    → ((signals : List CoreType) → found ≡ Some signals → is_liftable ts ≡ is_one_to_nine signals)
    → (if is_simple p && is_liftable ts then lifted else None) ≡ option_and_then (lift_type p) found
row_of p ts None lifted h n = ap (λ o. if is_simple p && is_liftable ts then o else None) h ∙ none_still (is_simple p && is_liftable ts)
row_of p ts (Some signals) lifted h n = λ i. if is_simple p && n signals refl i then h i else None

module _ (inputs : List InputDecl) where
  abbrev find : List CoreType → CoreTerm → Option CoreType
  find g t = found_type (signal_types inputs) [] g t

  abbrev core_of : List Binder → Expression → Option CoreTerm
  core_of g e = core_term (names_of inputs) (names g) e

  abbrev find_all : List CoreType → CoreTerms → Option (List CoreType)
  find_all g core.End = Some []
  find_all g (core.More t ts) = of_two (λ s signals. s ∷ signals) (find g t) (find_all g ts)

  name_judged : (g : List Binder) (at : ℕ) (f : TypeFault) (meant : Option CoreTerm)
      → result_ok (ok_or meant f >>= λ t. row at (find (types g) t)) ≡ option_and_then (find (types g)) meant
  name_judged g at f None = refl
  name_judged g at f (Some t) = ok_row at (find (types g) t)

  as_many : (g : List CoreType) (ts : CoreTerms) (signals : List CoreType) → find_all g ts ≡ Some signals → count ts ≡ length signals
  as_many g core.End signals h = let e : [] ≡ signals = cc in ap length e
  as_many g (core.More t ts) signals h =
      let parts = two_parts (λ s others. s ∷ others) (find g t) (find_all g ts) signals h in
      let n = as_many g ts parts.1 parts.3 in
      let e : length (parts.0 ∷ parts.1) ≡ length signals = ap length parts.4 in
      omega (arith, n, e)

  lifted_all : (g : List CoreType) (p : CoreType) (ts : CoreTerms)
      → lifted_type (signal_types inputs) [] g p ts ≡ option_and_then (λ signals. option_map Signal (taken p signals)) (find_all g ts)
  lifted_all g p core.End = refl
  lifted_all g p (core.More t ts) = more_lifted p (find g t) (find_all g ts) (λ rest. lifted_type (signal_types inputs) [] g rest ts) (λ rest. lifted_all g rest ts)

  lift_row : (g : List CoreType) (p : CoreType) (ts : CoreTerms)
      → (if is_simple p && is_liftable ts then lifted_type (signal_types inputs) [] g p ts else None) ≡ option_and_then (lift_type p) (find_all g ts)
  lift_row g p ts =
      row_of p ts (find_all g ts) (lifted_type (signal_types inputs) [] g p ts) (lifted_all g p ts) (λ signals h. liftable_is ts signals (as_many g ts signals h))

  two_all : (g : List CoreType) (t : Option CoreTerm) (ts : Option CoreTerms)
      → of_two (λ s signals. s ∷ signals) (option_and_then (find g) t) (option_and_then (find_all g) ts) ≡ option_and_then (find_all g) (of_two core.More t ts)
  two_all g None ts = refl
  two_all g (Some x) None = none_either_way (find g x)
  two_all g (Some x) (Some y) = refl

  -- the type that is found of the core term
  abbrev of : List Binder → Expression → Option CoreType
  of g e = option_and_then (find (types g)) (core_of g e)

  mutual
    -- the type that is judged is the one that is found of the core term
    pub judged : (g : List Binder) (e : Expression) → result_ok (judge inputs g e) ≡ option_and_then (find (types g)) (core_of g e)
    judged g (expression.Unit at) = refl
    judged g (Int n at) = refl
    judged g (Name x at) = name_judged g at _ (named (names_of inputs) (names g) x)
    judged g (Lam x t t_at b at) =
        let body = judge inputs (record { name = x; ty = t } ∷ g) b in
        formed_first (is_well_formed t) t (fault.IllFormed t_at) (λ p. judge inputs (record { name = x; ty = p } ∷ g) b >>= λ r. row at (function_type p r))
        ∙ ap (λ o. if is_well_formed t then o else None) (ok_last body (function_type t) at)
        ∙ formed_row (is_well_formed t) (λ r. is_well_formed (Arrow t r)) (Arrow t) (result_ok body)
        ∙ ap (option_and_then (function_type t)) (judged (record { name = x; ty = t } ∷ g) b)
        ∙ one (core.Lam t) (find (t ∷ types g)) (find (types g)) (function_type t) (core_term (names_of inputs) (x ∷ names g) b) (λ y. refl)
    judged g (App f a at) =
        ok_two (judge inputs g f) (λ _. judge inputs g a) (of g f) (λ _. of g a) result_type at (judged g f) (λ _. judged g a)
        ∙ two core.App (find (types g)) (find (types g)) (λ _. find (types g)) result_type (core_of g f) (core_of g a) (λ x y. refl)
    judged g (Bin o a b at) =
        ok_two (judge inputs g a) (λ _. judge inputs g b) (of g a) (λ _. of g b) operation_type at (judged g a) (λ _. judged g b)
        ∙ two (core.Bin o) (find (types g)) (find (types g)) (λ _. find (types g)) operation_type (core_of g a) (core_of g b) (λ x y. refl)
    judged g (If c a b at) =
        ok_three (judge inputs g c) (judge inputs g a) (judge inputs g b) (of g c) (of g a) (of g b) branch_type at (judged g c) (judged g a) (judged g b)
        ∙ three core.If (find (types g)) (find (types g)) branch_type (core_of g c) (core_of g a) (core_of g b) (λ x y z. refl)
    judged g (Let x a b at) =
        ok_two (judge inputs g a) (λ p. judge inputs (record { name = x; ty = p } ∷ g) b) (of g a) (λ p. of (record { name = x; ty = p } ∷ g) b) let_type at
        (judged g a) (λ p. judged (record { name = x; ty = p } ∷ g) b)
        ∙ two core.Let (find (types g)) (find (types g)) (λ p. find (p ∷ types g)) let_type (core_of g a) (core_term (names_of inputs) (x ∷ names g) b) (λ y z. refl)
    judged g (Lift f es at) =
        ok_two (judge inputs g f) (λ _. judge_all inputs g es) (of g f) (λ _. option_and_then (find_all (types g)) (core_terms (names_of inputs) (names g) es)) lift_type at
        (judged g f) (λ _. judged_all g es)
        ∙ two core.Lift (find (types g)) (find (types g)) (λ _. find_all (types g)) lift_type (core_of g f) (core_terms (names_of inputs) (names g) es)
        (λ x ts i. option_and_then (λ p. lift_row (types g) p ts i) (find (types g) x))
    judged g (Foldp f b s at) =
        ok_three (judge inputs g f) (judge inputs g b) (judge inputs g s) (of g f) (of g b) (of g s) foldp_type at (judged g f) (judged g b) (judged g s)
        ∙ three core.Foldp (find (types g)) (find (types g)) foldp_type (core_of g f) (core_of g b) (core_of g s) (λ x y z. refl)
    judged g (Async s at) =
        ok_last (judge inputs g s) async_type at ∙ ap (option_and_then async_type) (judged g s)
        ∙ one core.Async (find (types g)) (find (types g)) async_type (core_of g s) (λ x. refl)

    judged_all : (g : List Binder) (es : Expressions)
        → result_ok (judge_all inputs g es) ≡ option_and_then (find_all (types g)) (core_terms (names_of inputs) (names g) es)
    judged_all g End = refl
    judged_all g (More e es) =
        ok_more (judge inputs g e) (judge_all inputs g es) (of g e) (option_and_then (find_all (types g)) (core_terms (names_of inputs) (names g) es)) (judged g e) (judged_all g es)
        ∙ two_all (types g) (core_of g e) (core_terms (names_of inputs) (names g) es)

  then_some : {A B : Type 0} (k : A → Option B) (a : Option A) (y : B) → option_and_then k a ≡ Some y → (x : A) × (a ≡ Some x) × (k x ≡ Some y)
  then_some k None y h = cc
  then_some k (Some x) y h = (x, refl, h)

  pub judged_typed : (g : List Binder) (e : Expression) (u : CoreType) → judge inputs g e ≡ Ok u → IsOfType inputs g e u
  judged_typed g e u h =
      let found = then_some (find (types g)) (core_of g e) u (sym (judged g e) ∙ ap result_ok h) in
      (found.0, found.1, found_has (signal_types inputs) [] (types g) found.0 u found.2)

  pub typed_judged : (g : List Binder) (e : Expression) (u : CoreType) → IsOfType inputs g e u → judge inputs g e ≡ Ok u
  typed_judged g e u (t, is, has) =
      ok_is (judge inputs g e) u (judged g e ∙ ap (option_and_then (find (types g))) is ∙ has_found (signal_types inputs) [] (types g) t u has)
