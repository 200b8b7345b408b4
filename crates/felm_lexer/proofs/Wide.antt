-- Numbers that are too wide.
use Rattle.std.proofs.Common.{◌≡◌, ℕ, ◌^◌, ◌<◌, ◌==◌, true, false, List, [], ◌∷◌, Some, None, pos, refl, arith, tests}
use Rattle.std.specs.Prelude.{nat_lt, if◌then◌else◌}
use Rattle.felm_term.specs.Bytes.{is_letter}
use Rattle.felm_term.specs.Decimal.{number_of}
use Rattle.felm_lexer.specs.declared.kind.TokenKind.TheVariants as kind
use Rattle.felm_lexer.specs.Spellings.{number_kind, kind_of, IsTooWide}

-- a number has a kind unless it is over 2 ^ 63
pub above_from_kind : (n : ℕ) → number_kind n ≡ None → 2 ^ 63 < n
above_from_kind n e =
    (elim (nat_lt n (2 ^ 63)) as (λ q. nat_lt n (2 ^ 63) ≡ q → (if q then Some (kind.Int (pos n)) else (if n == 2 ^ 63 then Some kind.Big else None)) ≡ None → 2 ^ 63 < n) [
      | true ↦ λ f g. absurd (cc)
      | false ↦ λ f g. (elim (n == 2 ^ 63) as (λ q. (n == 2 ^ 63) ≡ q → (if q then Some kind.Big else None) ≡ None → 2 ^ 63 < n) [
        | true ↦ λ h k. absurd (cc)
        | false ↦ λ h k. grind (arith, tests, f, h)
      ]) refl g
    ]) refl e

-- a number over 2 ^ 63 has no kind
kind_from_above : (n : ℕ) → 2 ^ 63 < n → number_kind n ≡ None
kind_from_above n above =
    let below : nat_lt n (2 ^ 63) ≡ false = grind (arith, tests) in
    let other : (n == 2 ^ 63) ≡ false = grind (arith, tests) in
    rw (below, other) refl

-- a number that is too wide has no kind
pub no_kind : (bytes : List ℕ) → IsTooWide bytes → kind_of bytes ≡ None
unfolding kind_of
no_kind [] wide = absurd (let none = wide.number in cc)
no_kind (c ∷ cs) wide =
    let number = wide.number in
    let letter : is_letter c ≡ false = grind (arith, tests, number) in
    rw (letter, number) (kind_from_above (number_of (c ∷ cs)) wide.above)
