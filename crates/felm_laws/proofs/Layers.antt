-- The two layers of types.
use Rattle.std.proofs.Common.{◌≡◌, Bool, true, false, ◌&&◌, ◌||◌, IsTrue, refl, subst}
use Rattle.felm_term.specs.CoreType.{CoreType, Unit, Int, Arrow, Signal, is_simple, is_signal, is_well_formed, is_simple_signal}

pub both : (a b : Bool) → (a && b) ≡ true → (a ≡ true) × (b ≡ true)
both true true h = (refl, refl)
both true false h = cc
both false b h = cc

pub both_true : (a b : Bool) → a ≡ true → b ≡ true → (a && b) ≡ true
both_true true b h k = k
both_true false b h k = cc

right_false : (a b : Bool) → b ≡ false → (a && b) ≡ false
right_false true b h = h
right_false false b h = refl

pub left_true : (a b : Bool) → a ≡ true → (a || b) ≡ true
left_true true b h = refl
left_true false b h = cc

pub right_true : (a b : Bool) → b ≡ true → (a || b) ≡ true
right_true true b h = refl
right_true false b h = h

-- no type is in both layers
pub not_simple : (u : CoreType) → IsTrue (is_signal u) → is_simple u ≡ false
not_simple Unit h = cc
not_simple Int h = cc
not_simple (Arrow p r) h = right_false (is_simple p) (is_simple r) (not_simple r (both (is_simple p || is_signal p) (is_signal r) h).1)
not_simple (Signal t) h = refl

pub not_signal : (u : CoreType) → IsTrue (is_simple u) → is_signal u ≡ false
not_signal u h = go (is_signal u) refl
  where
    go : (b : Bool) → is_signal u ≡ b → is_signal u ≡ false
    go true e = let f = not_simple u e in cc
    go false e = e

-- no simple type is the signal of one
pub no_signal : (u : CoreType) → IsTrue (is_simple u) → IsTrue (is_simple_signal u) → ⊥
no_signal Unit h k = cc
no_signal Int h k = cc
no_signal (Arrow p r) h k = cc
no_signal (Signal t) h k = cc

pub no_signal_simple : (u r : CoreType) → IsTrue (is_simple u) → u ≡ Signal r → ⊥
no_signal_simple u r s e = let h : is_simple (Signal r) ≡ true = subst (λ x. is_simple x ≡ true) e s in cc

-- ---- functions, with a test for each layer of what they take (s, g) and give (t, h)

signal_given : (s g t h : Bool) → ((s && t) || ((s || g) && h)) ≡ true → s ≡ false → h ≡ true
signal_given true g t h e f = cc
signal_given false g t true e f = refl
signal_given false true t false e f = cc
signal_given false false t false e f = cc

formed_given : (s g t h : Bool) → ((s && t) || ((s || g) && h)) ≡ true → (t || h) ≡ true
formed_given s g true h e = refl
formed_given s g false true e = refl
formed_given true g false false e = cc
formed_given false true false false e = cc
formed_given false false false false e = cc

simple_taken : (s g t h : Bool) → ((s && t) || ((s || g) && h)) ≡ true → t ≡ true → h ≡ false → (s && t) ≡ true
simple_taken true g true h e k l = refl
simple_taken false true true false e k l = cc
simple_taken false false true false e k l = cc
simple_taken false g true true e k l = cc
simple_taken s g false h e k l = cc

simple_else : (s g : Bool) → (s || g) ≡ true → (g ≡ true → ⊥) → s ≡ true
simple_else true g h n = refl
simple_else false true h n = absurd (n refl)
simple_else false false h n = h

-- a function of a signal type gives a signal type
pub signal_result : (p r : CoreType) → IsTrue (is_well_formed (Arrow p r)) → IsTrue (is_signal p) → IsTrue (is_signal r)
signal_result p r w h = signal_given (is_simple p) (is_signal p) (is_simple r) (is_signal r) w (not_simple p h)

pub result_formed : (p r : CoreType) → IsTrue (is_well_formed (Arrow p r)) → IsTrue (is_well_formed r)
result_formed p r w = formed_given (is_simple p) (is_signal p) (is_simple r) (is_signal r) w

-- a function with a simple result is simple
pub simple_function : (p r : CoreType) → IsTrue (is_well_formed (Arrow p r)) → IsTrue (is_simple r) → IsTrue (is_simple (Arrow p r))
simple_function p r w h = simple_taken (is_simple p) (is_signal p) (is_simple r) (is_signal r) w h (not_signal r h)

-- what a let of a simple type binds is simple
pub simple_bound : (p u : CoreType) → IsTrue (is_well_formed p) → IsTrue (is_simple u) → (IsTrue (is_signal p) → IsTrue (is_signal u)) → IsTrue (is_simple p)
simple_bound p u w s k = simple_else (is_simple p) (is_signal p) w (λ e. let q = k e in let f = not_signal u s in cc)

pub from_arrow : {p r q s : CoreType} → Arrow p r ≡ Arrow q s → p ≡ q
from_arrow e = cc

pub to_arrow : {p r q s : CoreType} → Arrow p r ≡ Arrow q s → r ≡ s
to_arrow e = cc
