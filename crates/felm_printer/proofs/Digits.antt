-- The bytes of numbers in decimal.
use Rattle.std.proofs.Common.{◌≡◌, ℕ, suc, zero, ◌+◌, ◌<◌, ◌/◌, ◌%◌, Bool, true, false, eqb, List, [], ◌∷◌, refl, ap, ◌∙◌, arith}
use Rattle.std.specs.List.{list_all}
use Rattle.std.specs.Fmt.{digits, digits_onto, digit_glyph, decimal, signed_decimal}
use Rattle.std.proofs.Math.IntN.{ℤ, pos, negsuc}
use Rattle.std.proofs.lemmas.Bool.{and_from, cond_both, lt-ltb}

-- what holds of each digit holds of each byte of a number
module _ (p : ℕ → Bool) (digit : (d : ℕ) → d < 10 → p (48 + d) ≡ true) where
  last : (n : ℕ) → p (digit_glyph false (n % 10)) ≡ true
  last n =
      let small : n % 10 < 10 = omega arith in
      let shown : digit_glyph false (n % 10) ≡ 48 + n % 10 = rw (lt-ltb (n % 10) 10 small) refl in
      ap p shown ∙ digit (n % 10) small

  onto : (k n : ℕ) (behind : List ℕ) → list_all p behind ≡ true → list_all p (digits_onto k 10 false n behind) ≡ true
  onto zero n behind h = h
  onto (suc k) n behind h =
      let more : list_all p (digit_glyph false (n % 10) ∷ behind) ≡ true = and_from _ _ (last n) h in
      cond_both (eqb (n / 10) 0) (digit_glyph false (n % 10) ∷ behind) (digits_onto k 10 false (n / 10) (digit_glyph false (n % 10) ∷ behind))
      (λ bytes. list_all p bytes ≡ true) (λ _. more) (λ _. onto k (n / 10) (digit_glyph false (n % 10) ∷ behind) more)

  pub all_digits : (n : ℕ) → list_all p (decimal n) ≡ true
  unfolding digits
  all_digits n = onto 64 n [] refl

  -- a minus sign may come first
  pub all_signed : p 45 ≡ true → (z : ℤ) → list_all p (signed_decimal z) ≡ true
  all_signed minus (pos n) = all_digits n
  all_signed minus (negsuc n) = and_from _ _ minus (all_digits (suc n))
