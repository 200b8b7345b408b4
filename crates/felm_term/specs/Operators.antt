-- The operators on numbers of 64 bits.
use Rattle.std.specs.Prelude.{suc, ◌/◌, Bool, not, ◌&&◌, ◌||◌, if◌then◌else◌, ℤ, pos, negsuc, neg_ℤ, ◌+ℤ◌, ◌-ℤ◌, ◌*ℤ◌, int_lt}
use Rattle.std.specs.Int.{w64, int_wrap}
use Rattle.std.specs.Ordering.{int_eq}
use Rattle.felm_term.specs.declared.op.Op.{Op}
use Rattle.felm_term.specs.declared.op.Op.TheVariants as op

-- the number of 64 bits that is equal modulo 2^64
abbrev pub wrapped : ℤ → ℤ
wrapped n = int_wrap w64 n

-- a truth value as a number: 1 for true, 0 for false
abbrev pub truth : Bool → ℤ
truth holds = if holds then pos 1 else pos 0

-- the number that counts as false
abbrev pub is_zero : ℤ → Bool
is_zero n = int_eq n (pos 0)

-- the quotient of the magnitudes, negative where exactly one of the two numbers is: so it is truncated toward zero
abbrev pub truncated_quotient : ℤ → ℤ → ℤ
truncated_quotient (pos a) (pos b) = pos (a / b)
truncated_quotient (pos a) (negsuc b) = neg_ℤ (pos (a / suc b))
truncated_quotient (negsuc a) (pos b) = neg_ℤ (pos (suc a / b))
truncated_quotient (negsuc a) (negsuc b) = pos (suc a / suc b)

-- 0 for the divisor 0; the least number divided by -1 wraps to itself
abbrev pub quotient : ℤ → ℤ → ℤ
quotient a b = if is_zero b then pos 0 else wrapped (truncated_quotient a b)

-- what the quotient leaves of the dividend, and 0 for the divisor 0
abbrev pub remainder : ℤ → ℤ → ℤ
remainder a b = if is_zero b then pos 0 else wrapped (a -ℤ quotient a b *ℤ b)

-- the number that an operator gives
abbrev pub apply_op : Op → ℤ → ℤ → ℤ
apply_op op.Add a b = wrapped (a +ℤ b)
apply_op op.Sub a b = wrapped (a -ℤ b)
apply_op op.Mul a b = wrapped (a *ℤ b)
apply_op op.Div a b = quotient a b
apply_op op.Rem a b = remainder a b
apply_op op.Eq a b = truth (int_eq a b)
apply_op op.Ne a b = truth (not (int_eq a b))
apply_op op.Lt a b = truth (int_lt a b)
apply_op op.Le a b = truth (not (int_lt b a))
apply_op op.Gt a b = truth (int_lt b a)
apply_op op.Ge a b = truth (not (int_lt a b))
apply_op op.And a b = truth (not (is_zero a) && not (is_zero b))
apply_op op.Or a b = truth (not (is_zero a) || not (is_zero b))
