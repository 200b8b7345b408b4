-- The type that is found is the one that the term has.
use Rattle.std.proofs.Common.{◌≡◌, ℕ, zero, suc, ◌<◌, ◌≤◌, Bool, true, false, not, ◌&&◌, IsTrue, ◌↔◌, List, ◌∷◌, length, get_or, Option, Some, None, MatchOption, IfSome, Bor, refl, sym, ap, subst, ◌∙◌, arith, if◌then◌else◌}
use Rattle.std.specs.Prelude.{slice_get}
use Rattle.std.specs.Option.{option_copied, option_and_then}
use Rattle.std.specs.List.{HoldsAt}
use Rattle.std.proofs.lemmas.Option.{slice_get_past, slice_get_read}
use Rattle.felm_term.specs.CoreType.{CoreType, Unit, Int, Arrow, Signal, is_simple, is_signal, is_well_formed, is_simple_signal}
use Rattle.felm_term.specs.CoreTerm.{CoreTerm, CoreTerms, count}
use Rattle.felm_term.specs.CoreTerm as term
use Rattle.felm_term.specs.Typing.{HasType, AreTakenBy}
use Rattle.felm_term.specs.declared.op.Op.{Op}
use Rattle.felm_term.specs.FoundType.{same_type, when, function_type, result_type, is_int, operation_type, branch_type, let_type, is_signal_of, rest_type, keeps, folds, foldp_type, async_type, is_count_within, is_liftable, found_type, lifted_type, TypeIs}

-- an element that is lent, if there is one
pub lent_at : {X : Type 0} (xs : List X) (n : ℕ) (r : Option (Bor X))
    → MatchOption r (length xs ≤ n) (λ x. (n < length xs) × HoldsAt (λ y. x.now ≡ y) xs n)
    → IfSome r (λ x. x.now ≡ get_or xs n x.now) → option_copied r ≡ slice_get xs n
lent_at xs n None past read = sym (slice_get_past xs n past)
lent_at xs n (Some x) within read = sym (slice_get_read xs (length xs) n x.now refl within.0 read)

-- ---- equal types

both : (a b : Bool) → (a && b) ≡ true → (a ≡ true) × (b ≡ true)
both true true h = (refl, refl)
both true false h = cc
both false b h = cc

both_true : (a b : Bool) → a ≡ true → b ≡ true → (a && b) ≡ true
both_true true b h k = k
both_true false b h k = cc

pub same_type-refl : (t : CoreType) → same_type t t ≡ true
same_type-refl Unit = refl
same_type-refl Int = refl
same_type-refl (Arrow p r) = rw (same_type-refl p) (same_type-refl r)
same_type-refl (Signal t) = same_type-refl t

pub same_type-equal : (t u : CoreType) → same_type t u ≡ true → t ≡ u
same_type-equal Unit Unit h = refl
same_type-equal Int Int h = refl
same_type-equal (Arrow p r) (Arrow q s) h =
    let parts = both (same_type p q) (same_type r s) h in
    let e = same_type-equal p q parts.0 in
    let f = same_type-equal r s parts.1 in
    λ i. Arrow (e i) (f i)
same_type-equal (Signal t) (Signal u) h = ap Signal (same_type-equal t u h)
same_type-equal Unit Int h = cc
same_type-equal Unit (Arrow q s) h = cc
same_type-equal Unit (Signal u) h = cc
same_type-equal Int Unit h = cc
same_type-equal Int (Arrow q s) h = cc
same_type-equal Int (Signal u) h = cc
same_type-equal (Arrow p r) Unit h = cc
same_type-equal (Arrow p r) Int h = cc
same_type-equal (Arrow p r) (Signal u) h = cc
same_type-equal (Signal t) Unit h = cc
same_type-equal (Signal t) Int h = cc
same_type-equal (Signal t) (Arrow q s) h = cc

decided : (b c : Bool) → (b ≡ true → c ≡ true) → (c ≡ true → b ≡ true) → b ≡ c
decided true c h k = sym (h refl)
decided false true h k = k refl
decided false false h k = refl

pub same_type-test : (b : Bool) (t u : CoreType) → IsTrue b ↔ (t ≡ u) → b ≡ same_type t u
same_type-test b t u h =
    decided b (same_type t u) (λ e. subst (λ x. same_type t x ≡ true) (h.0 e) (same_type-refl t)) (λ e. h.1 (same_type-equal t u e))

-- ---- how many arguments a lift has

within_count : (n : ℕ) (ts : CoreTerms) → is_count_within n ts ≡ true → count ts ≤ n
within_count n term.End h = omega arith
within_count zero (term.More t ts) h = cc
within_count (suc n) (term.More t ts) h = omega (arith, within_count n ts h)

count_within : (n : ℕ) (ts : CoreTerms) → count ts ≤ n → is_count_within n ts ≡ true
count_within n term.End h = refl
count_within zero (term.More t ts) h = absurd (omega arith)
count_within (suc n) (term.More t ts) h = count_within n ts (omega arith)

liftable_count : (ts : CoreTerms) → is_liftable ts ≡ true → (1 ≤ count ts) × (count ts ≤ 9)
liftable_count term.End h = cc
liftable_count (term.More t ts) h = (omega arith, omega (arith, within_count 8 ts h))

count_liftable : (ts : CoreTerms) → 1 ≤ count ts → count ts ≤ 9 → is_liftable ts ≡ true
count_liftable term.End h k = absurd (omega arith)
count_liftable (term.More t ts) h k = count_within 8 ts (omega arith)

-- ---- what is found, part by part

then_some : {A B : Type 0} (k : A → Option B) (x : Option A) (u : B) → option_and_then k x ≡ Some u
    → (y : A) × (x ≡ Some y) × (k y ≡ Some u)
then_some k None u h = cc
then_some k (Some y) u h = (y, refl, h)

when_some : (b : Bool) (t u : CoreType) → when b t ≡ Some u → (b ≡ true) × (u ≡ t)
when_some true t u h = (refl, cc)
when_some false t u h = cc

when_true : (b : Bool) (t : CoreType) → b ≡ true → when b t ≡ Some t
when_true true t h = refl
when_true false t h = cc

if_some : (b : Bool) (x : Option CoreType) (u : CoreType) → (if b then x else None) ≡ Some u → (b ≡ true) × (x ≡ Some u)
if_some true x u h = (refl, h)
if_some false x u h = cc

int_only : (t : CoreType) → is_int t ≡ true → t ≡ Int
int_only t h = same_type-equal t Int h

not_both : (a b : Bool) → not (a && not b) ≡ true → a ≡ true → b ≡ true
not_both true true h e = refl
not_both true false h e = cc
not_both false b h e = cc

both_not : (a b : Bool) → (a ≡ true → b ≡ true) → not (a && not b) ≡ true
both_not true true h = refl
both_not true false h = let e = h refl in cc
both_not false b h = refl

signal_of : (s q : CoreType) → is_signal_of s q ≡ true → s ≡ Signal q
signal_of Unit q h = cc
signal_of Int q h = cc
signal_of (Arrow p r) q h = cc
signal_of (Signal t) q h = ap Signal (sym (same_type-equal q t h))

result_of : (p a u : CoreType) → result_type p a ≡ Some u → p ≡ Arrow a u
result_of Unit a u h = cc
result_of Int a u h = cc
result_of (Arrow q r) a u h =
    let w = when_some (same_type q a) r u h in
    let e = same_type-equal q a w.0 in
    λ i. Arrow (e i) (sym w.1 i)
result_of (Signal t) a u h = cc

rest_of : (p s rest : CoreType) → rest_type p s ≡ Some rest → (q : CoreType) × (p ≡ Arrow q rest) × (s ≡ Signal q)
rest_of Unit s rest h = cc
rest_of Int s rest h = cc
rest_of (Arrow q r) s rest h =
    let w = when_some (is_signal_of s q) r rest h in
    (q, ap (Arrow q) (sym w.1), signal_of s q w.0)
rest_of (Signal t) s rest h = cc

keeps_of : (f r : CoreType) → keeps f r ≡ true → f ≡ Arrow r r
keeps_of Unit r h = cc
keeps_of Int r h = cc
keeps_of (Arrow a b) r h =
    let parts = both (same_type a r) (same_type b r) h in
    let e = same_type-equal a r parts.0 in
    let f = same_type-equal b r parts.1 in
    λ i. Arrow (e i) (f i)
keeps_of (Signal t) r h = cc

folds_of : (f r s : CoreType) → folds f r s ≡ true → (t : CoreType) × (f ≡ Arrow t (Arrow r r)) × (s ≡ Signal t)
folds_of Unit r s h = cc
folds_of Int r s h = cc
folds_of (Arrow q rest) r s h =
    let parts = both (is_signal_of s q) (keeps rest r) h in
    (q, ap (Arrow q) (keeps_of rest r parts.1), signal_of s q parts.0)
folds_of (Signal t) r s h = cc

simple_signal : (s : CoreType) → is_simple_signal s ≡ true → (t : CoreType) × (s ≡ Signal t) × (is_simple t ≡ true)
simple_signal Unit h = cc
simple_signal Int h = cc
simple_signal (Arrow p r) h = cc
simple_signal (Signal t) h = (t, refl, h)

fold_found : (t r : CoreType) → IsTrue (is_simple (Arrow t (Arrow r r))) → foldp_type (Arrow t (Arrow r r)) r (Signal t) ≡ Some (Signal r)
fold_found t r h =
    let folding : folds (Arrow t (Arrow r r)) r (Signal t) ≡ true = rw (same_type-refl t, same_type-refl r) refl in
    when_true (is_simple (Arrow t (Arrow r r)) && folds (Arrow t (Arrow r r)) r (Signal t)) (Signal r) (both_true (is_simple (Arrow t (Arrow r r))) (folds (Arrow t (Arrow r r)) r (Signal t)) h folding)

module _ (inputs shared : List CoreType) where
  abbrev Has : List CoreType → CoreTerm → CoreType → Type 0
  Has g t u = HasType inputs shared g t u

  abbrev find : List CoreType → CoreTerm → Option CoreType
  find g t = found_type inputs shared g t

  -- a whole has the type that is found from its parts'
  lam_has : (g : List CoreType) (b : CoreTerm) (p r u : CoreType) → function_type p r ≡ Some u → Has (p ∷ g) b r → Has g (term.Lam p b) u
  lam_has g b p r u e h =
      let w = when_some (is_well_formed p && is_well_formed (Arrow p r)) (Arrow p r) u e in
      let formed = both (is_well_formed p) (is_well_formed (Arrow p r)) w.0 in
      (r, w.1, formed.0, formed.1, h)

  app_has : (g : List CoreType) (f a : CoreTerm) (p q u : CoreType) → result_type p q ≡ Some u → Has g f p → Has g a q → Has g (term.App f a) u
  app_has g f a p q u e h k = (q, subst (λ x. Has g f x) (result_of p q u e) h, k)

  bin_has : (g : List CoreType) (o : Op) (a b : CoreTerm) (p q u : CoreType) → operation_type p q ≡ Some u → Has g a p → Has g b q → Has g (term.Bin o a b) u
  bin_has g o a b p q u e h k =
      let w = when_some (is_int p && is_int q) Int u e in
      let ints = both (is_int p) (is_int q) w.0 in
      (w.1, subst (λ x. Has g a x) (int_only p ints.0) h, subst (λ x. Has g b x) (int_only q ints.1) k)

  if_has : (g : List CoreType) (c a b : CoreTerm) (p q r u : CoreType) → branch_type p q r ≡ Some u → Has g c p → Has g a q → Has g b r → Has g (term.If c a b) u
  if_has g c a b p q r u e h k l =
      let w = when_some (is_int p && same_type q r) q u e in
      let parts = both (is_int p) (same_type q r) w.0 in (
        subst (λ x. Has g c x) (int_only p parts.0) h,
        subst (λ x. Has g a x) (sym w.1) k,
        subst (λ x. Has g b x) (sym (same_type-equal q r parts.1) ∙ sym w.1) l,
      )

  let_has : (g : List CoreType) (a b : CoreTerm) (p q u : CoreType) → let_type p q ≡ Some u → Has g a p → Has (p ∷ g) b q → Has g (term.Let a b) u
  let_has g a b p q u e h k =
      let w = when_some (not (is_signal p && not (is_signal q))) q u e in
      (p, h, subst (λ x. Has (p ∷ g) b x) (sym w.1) k, λ s. subst (λ x. is_signal x ≡ true) (sym w.1) (not_both (is_signal p) (is_signal q) w.0 s))

  lift_has : (g : List CoreType) (f : CoreTerm) (ts : CoreTerms) (p r u : CoreType) → (is_simple p && is_liftable ts) ≡ true → u ≡ Signal r
      → Has g f p → AreTakenBy inputs shared g p ts r → Has g (term.Lift f ts) u
  lift_has g f ts p r u e is h k =
      let parts = both (is_simple p) (is_liftable ts) e in
      let few = liftable_count ts parts.1 in
      (p, r, is, parts.0, h, k, few.0, few.1)

  more_taken : (g : List CoreType) (t : CoreTerm) (ts : CoreTerms) (p s rest r : CoreType) → rest_type p s ≡ Some rest → Has g t s
      → AreTakenBy inputs shared g rest ts r → AreTakenBy inputs shared g p (term.More t ts) r
  more_taken g t ts p s rest r e h k =
      let first = rest_of p s rest e in
      (first.0, rest, first.1, subst (λ x. Has g t x) first.2 h, k)

  foldp_has : (g : List CoreType) (f b s : CoreTerm) (p q r u : CoreType) → foldp_type p q r ≡ Some u → Has g f p → Has g b q → Has g s r → Has g (term.Foldp f b s) u
  foldp_has g f b s p q r u e h k l =
      let w = when_some (is_simple p && folds p q r) (Signal q) u e in
      let parts = both (is_simple p) (folds p q r) w.0 in
      let fold = folds_of p q r parts.1 in
      (fold.0, q, w.1, subst (λ x. is_simple x ≡ true) fold.1 parts.0, subst (λ x. Has g f x) fold.1 h, k, subst (λ x. Has g s x) fold.2 l)

  async_has : (g : List CoreType) (s : CoreTerm) (p u : CoreType) → async_type p ≡ Some u → Has g s p → Has g (term.Async s) u
  async_has g s p u e h =
      let w = when_some (is_simple_signal p) p u e in
      let of = simple_signal p w.0 in
      (of.0, w.1 ∙ of.1, of.2, subst (λ x. Has g s x) of.1 h)

  mutual
    -- a type that is found is one of the term
    pub found_has : (g : List CoreType) (t : CoreTerm) (u : CoreType) → find g t ≡ Some u → Has g t u
    found_has g term.Unit u h = cc
    found_has g (term.Int n) u h = cc
    found_has g (term.Var n) u h = h
    found_has g (term.Input n) u h = h
    found_has g (term.Node n) u h = h
    found_has g (term.Lam p b) u h =
        let k = then_some (function_type p) (find (p ∷ g) b) u h in
        lam_has g b p k.0 u k.2 (found_has (p ∷ g) b k.0 k.1)
    found_has g (term.App f a) u h =
        let k = then_some (λ p. option_and_then (result_type p) (find g a)) (find g f) u h in
        let l = then_some (result_type k.0) (find g a) u k.2 in
        app_has g f a k.0 l.0 u l.2 (found_has g f k.0 k.1) (found_has g a l.0 l.1)
    found_has g (term.Bin o a b) u h =
        let k = then_some (λ p. option_and_then (operation_type p) (find g b)) (find g a) u h in
        let l = then_some (operation_type k.0) (find g b) u k.2 in
        bin_has g o a b k.0 l.0 u l.2 (found_has g a k.0 k.1) (found_has g b l.0 l.1)
    found_has g (term.If c a b) u h =
        let k = then_some (λ p. option_and_then (λ q. option_and_then (branch_type p q) (find g b)) (find g a)) (find g c) u h in
        let l = then_some (λ q. option_and_then (branch_type k.0 q) (find g b)) (find g a) u k.2 in
        let m = then_some (branch_type k.0 l.0) (find g b) u l.2 in
        if_has g c a b k.0 l.0 m.0 u m.2 (found_has g c k.0 k.1) (found_has g a l.0 l.1) (found_has g b m.0 m.1)
    found_has g (term.Let a b) u h =
        let k = then_some (λ p. option_and_then (let_type p) (find (p ∷ g) b)) (find g a) u h in
        let l = then_some (let_type k.0) (find (k.0 ∷ g) b) u k.2 in
        let_has g a b k.0 l.0 u l.2 (found_has g a k.0 k.1) (found_has (k.0 ∷ g) b l.0 l.1)
    found_has g (term.Lift f ts) u h =
        let k = then_some (λ p. if is_simple p && is_liftable ts then lifted_type inputs shared g p ts else None) (find g f) u h in
        let w = if_some (is_simple k.0 && is_liftable ts) (lifted_type inputs shared g k.0 ts) u k.2 in
        let taken = lifted_takes g k.0 ts u w.1 in
        lift_has g f ts k.0 taken.0 u w.0 taken.1 (found_has g f k.0 k.1) taken.2
    found_has g (term.Foldp f b s) u h =
        let k = then_some (λ p. option_and_then (λ r. option_and_then (foldp_type p r) (find g s)) (find g b)) (find g f) u h in
        let l = then_some (λ r. option_and_then (foldp_type k.0 r) (find g s)) (find g b) u k.2 in
        let m = then_some (foldp_type k.0 l.0) (find g s) u l.2 in
        foldp_has g f b s k.0 l.0 m.0 u m.2 (found_has g f k.0 k.1) (found_has g b l.0 l.1) (found_has g s m.0 m.1)
    found_has g (term.Async s) u h =
        let k = then_some async_type (find g s) u h in
        async_has g s k.0 u k.2 (found_has g s k.0 k.1)

    lifted_takes : (g : List CoreType) (p : CoreType) (ts : CoreTerms) (u : CoreType) → lifted_type inputs shared g p ts ≡ Some u
        → (r : CoreType) × (u ≡ Signal r) × AreTakenBy inputs shared g p ts r
    lifted_takes g p term.End u h = (p, cc, refl)
    lifted_takes g p (term.More t ts) u h =
        let k = then_some (λ s. option_and_then (λ rest. lifted_type inputs shared g rest ts) (rest_type p s)) (find g t) u h in
        let l = then_some (λ rest. lifted_type inputs shared g rest ts) (rest_type p k.0) u k.2 in
        let more = lifted_takes g l.0 ts u l.2 in
        (more.0, more.1, more_taken g t ts p k.0 l.0 more.0 l.1 (found_has g t k.0 k.1) more.2)

  mutual
    -- a type of the term is found
    pub has_found : (g : List CoreType) (t : CoreTerm) (u : CoreType) → Has g t u → find g t ≡ Some u
    has_found g term.Unit u h = ap Some (sym h)
    has_found g (term.Int n) u h = ap Some (sym h)
    has_found g (term.Var n) u h = h
    has_found g (term.Input n) u h = h
    has_found g (term.Node n) u h = h
    has_found g (term.Lam p b) u h =
        rw (has_found (p ∷ g) b h.0 h.4, h.1) (when_true (is_well_formed p && is_well_formed (Arrow p h.0)) (Arrow p h.0) (both_true (is_well_formed p) (is_well_formed (Arrow p h.0)) h.2 h.3))
    has_found g (term.App f a) u h =
        rw (has_found g f (Arrow h.0 u) h.1, has_found g a h.0 h.2) (when_true (same_type h.0 h.0) u (same_type-refl h.0))
    has_found g (term.Bin o a b) u h =
        rw (has_found g a Int h.1, has_found g b Int h.2) (ap Some (sym h.0))
    has_found g (term.If c a b) u h =
        rw (has_found g c Int h.0, has_found g a u h.1, has_found g b u h.2) (when_true (same_type u u) u (same_type-refl u))
    has_found g (term.Let a b) u h =
        rw (has_found g a h.0 h.1, has_found (h.0 ∷ g) b u h.2) (when_true (not (is_signal h.0 && not (is_signal u))) u (both_not (is_signal h.0) (is_signal u) h.3))
    has_found g (term.Lift f ts) u h =
        rw (has_found g f h.0 h.4, h.3, count_liftable ts h.6 h.7) (lifted_found g h.0 ts h.1 h.5 ∙ ap Some (sym h.2))
    has_found g (term.Foldp f b s) u h =
        rw (has_found g f (Arrow h.0 (Arrow h.1 h.1)) h.4, has_found g b h.1 h.5, has_found g s (Signal h.0) h.6, h.2) (fold_found h.0 h.1 h.3)
    has_found g (term.Async s) u h =
        rw (has_found g s (Signal h.0) h.3) (when_true (is_simple h.0) (Signal h.0) h.2 ∙ ap Some (sym h.1))

    lifted_found : (g : List CoreType) (p : CoreType) (ts : CoreTerms) (r : CoreType) → AreTakenBy inputs shared g p ts r
        → lifted_type inputs shared g p ts ≡ Some (Signal r)
    lifted_found g p term.End r h = ap (λ x. Some (Signal x)) h
    lifted_found g p (term.More t ts) r h =
        rw (has_found g t (Signal h.0) h.3, h.2, same_type-refl h.0) (lifted_found g h.1 ts r h.4)

  pub type_is : (g : List CoreType) (t : CoreTerm) (found : Option CoreType) → found ≡ find g t → TypeIs inputs shared g t found
  type_is g t (Some u) h = found_has g t u (sym h)
  type_is g t None h = λ u has. let e = has_found g t u has in cc
