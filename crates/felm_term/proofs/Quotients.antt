-- What std's division gives, in the words of the operators.
use Rattle.std.proofs.Common.{◌≡◌, ℕ, zero, suc, ◌-◌, ◌/◌, ◌%◌, ◌^◌, ◌<◌, ◌≤◌, w64, ℤ, pos, negsuc, neg_ℤ, ◌+ℤ◌, ◌-ℤ◌, ◌*ℤ◌, FitsSigned, to_z, of_z, arith, ap, ◌∙◌, sym, refl, subst, false}
use Rattle.std.specs.Prelude.{int_div, int_rem, unsigned_abs}
use Rattle.std.specs.Int.{int_wrap, int_wrapping_div}
use Rattle.std.specs.Int.Signed.{mag_rem}
use Rattle.std.proofs.Math.Nat.{mod-eq_of_lt, div-le_self}
use Rattle.std.proofs.lemmas.Int.{int_wrap-sub_right, int_wrap-mul_left, int_wrap_fits, to_z-of_z, quot-rem, ints}
use Rattle.felm_term.specs.Operators.{is_zero, truncated_quotient, quotient, remainder}

not_zero : (b : ℤ) → (of_z w64 b ≡ 0 → ⊥) → is_zero b ≡ false
not_zero (pos zero) h = absurd (h refl)
not_zero (pos (suc n)) h = grind (arith, ints)
not_zero (negsuc n) h = refl

truncated : (a b : ℤ) → int_div a b ≡ truncated_quotient a b
truncated (pos a) (pos b) = refl
truncated (pos a) (negsuc b) = refl
truncated (negsuc a) (pos b) = refl
truncated (negsuc a) (negsuc b) = refl

abs-neg : (n : ℕ) → unsigned_abs (neg_ℤ (pos n)) ≡ n
abs-neg zero = refl
abs-neg (suc n) = refl

quotient_shrinks : (a b : ℤ) → unsigned_abs (truncated_quotient a b) ≤ unsigned_abs a
quotient_shrinks (pos a) (pos b) = div-le_self a b
quotient_shrinks (pos a) (negsuc b) = rw (abs-neg (a / suc b)) (div-le_self a (suc b))
quotient_shrinks (negsuc a) (pos b) = rw (abs-neg (suc a / b)) (div-le_self (suc a) b)
quotient_shrinks (negsuc a) (negsuc b) = div-le_self (suc a) (suc b)

abs_fits : (a : ℤ) → FitsSigned w64 a → unsigned_abs a ≤ 2 ^ 63
abs_fits (pos n) f = let h = f.sfits in omega arith
abs_fits (negsuc n) f = let h = f.sfits in omega arith

-- a number of at most 2^63 in magnitude, stored in 64 bits
stored : (z : ℤ) → unsigned_abs z ≤ 2 ^ 63 → to_z w64 (of_z w64 z) ≡ int_wrap w64 z
unfolding int_wrap
stored (pos n) h =
    let small : n < 2 ^ 64 = omega arith in
    ap (to_z w64) (sym (mod-eq_of_lt small))
stored (negsuc n) h =
    let small : n < 2 ^ 64 = omega arith in
    let same = mod-eq_of_lt small in
    let e : 2 ^ 64 - suc n ≡ 2 ^ 64 - 1 - n % 2 ^ 64 = omega (arith, same) in
    ap (to_z w64) e

-- both operands as they are stored
as_stored : {X : Type 0} (f : ℤ → ℤ → X) (a b : ℤ) → FitsSigned w64 a → FitsSigned w64 b
    → f (to_z w64 (of_z w64 a)) (to_z w64 (of_z w64 b)) ≡ f a b
as_stored f a b fits_a fits_b =
    ap (λ x. f x (to_z w64 (of_z w64 b))) (to_z-of_z w64 a fits_a) ∙ ap (λ y. f a y) (to_z-of_z w64 b fits_b)

pub wrapping_div_is : (a b q : ℤ) → FitsSigned w64 a → FitsSigned w64 b → FitsSigned w64 q → (of_z w64 b ≡ 0 → ⊥)
    → q ≡ int_wrapping_div w64 (to_z w64 (of_z w64 a)) (to_z w64 (of_z w64 b)) → to_z w64 (of_z w64 q) ≡ quotient a b
wrapping_div_is a b q fits_a fits_b fits_q h e =
    let plain = e ∙ as_stored (int_wrapping_div w64) a b fits_a fits_b in
    let bound : unsigned_abs (truncated_quotient a b) ≤ 2 ^ 63 = omega (arith, quotient_shrinks a b, abs_fits a fits_a) in
    let wraps = ap (λ x. to_z w64 (of_z w64 x)) (truncated a b) ∙ stored (truncated_quotient a b) bound in
    rw (not_zero b h) (to_z-of_z w64 q fits_q ∙ plain ∙ wraps)

what_is_left : (a m r : ℤ) → m +ℤ r ≡ a → a -ℤ m ≡ r
what_is_left a m r h = omega (arith, ints)

rem_fits : (a b : ℤ) → FitsSigned w64 a → FitsSigned w64 (int_rem a b)
rem_fits a b f = let h = f.sfits in record { sfits = omega (arith, mag_rem a b) }

pub wrapping_rem_is : (a b r : ℤ) → FitsSigned w64 a → FitsSigned w64 b → FitsSigned w64 r → (of_z w64 b ≡ 0 → ⊥)
    → r ≡ int_rem (to_z w64 (of_z w64 a)) (to_z w64 (of_z w64 b)) → to_z w64 (of_z w64 r) ≡ remainder a b
wrapping_rem_is a b r fits_a fits_b fits_r h e =
    let t = truncated_quotient a b in
    let plain = e ∙ as_stored int_rem a b fits_a fits_b in
    let wraps : int_wrap w64 (a -ℤ int_wrap w64 t *ℤ b) ≡ int_wrap w64 (a -ℤ t *ℤ b) =
    sym (int_wrap-sub_right w64 a (int_wrap w64 t *ℤ b)) ∙ ap (λ x. int_wrap w64 (a -ℤ x)) (int_wrap-mul_left w64 t b) ∙ int_wrap-sub_right w64 a (t *ℤ b) in
    let left : a -ℤ t *ℤ b ≡ int_rem a b = subst (λ x. a -ℤ x *ℤ b ≡ int_rem a b) (truncated a b) (what_is_left a (int_div a b *ℤ b) (int_rem a b) (quot-rem a b)) in
    let whole = wraps ∙ ap (int_wrap w64) left ∙ int_wrap_fits w64 (int_rem a b) (rem_fits a b fits_a) in
    rw (not_zero b h) (to_z-of_z w64 r fits_r ∙ plain ∙ sym whole)
