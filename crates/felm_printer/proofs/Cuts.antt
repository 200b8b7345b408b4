-- Bytes, cut at the first one of a kind.
use Rattle.std.proofs.Common.{◌≡◌, ℕ, Bool, true, not, eqb, List, [], ◌∷◌, ◌++◌, refl}
use Rattle.std.specs.List.{list_all}
use Rattle.std.proofs.lemmas.Bool.{and_parts, not-true, eqb-false}

-- none of the bytes is this one
abbrev pub lacks : ℕ → List ℕ → Bool
lacks c bytes = list_all (λ b. not (eqb b c)) bytes

apart : (c b : ℕ) (more : List ℕ) → lacks c (b ∷ more) ≡ true → b ≡ c → ⊥
apart c b more h = eqb-false b c (not-true (eqb b c) (and_parts (not (eqb b c)) (lacks c more) h).0)

-- the first such byte ends what stands before it, and what stands behind it begins there
pub cut : (c : ℕ) (front front' rest rest' : List ℕ) → lacks c front ≡ true → lacks c front' ≡ true → front ++ c ∷ rest ≡ front' ++ c ∷ rest'
    → (front ≡ front') × (rest ≡ rest')
cut c [] [] rest rest' h i e = (refl, cc)
cut c [] (y ∷ ys) rest rest' h i e = absurd (apart c y ys i (cc))
cut c (x ∷ xs) [] rest rest' h i e = absurd (apart c x xs h (cc))
cut c (x ∷ xs) (y ∷ ys) rest rest' h i e =
    let tails : xs ++ c ∷ rest ≡ ys ++ c ∷ rest' = cc in
    let more : (xs ≡ ys) × (rest ≡ rest') =
    cut c xs ys rest rest' (and_parts (not (eqb x c)) (lacks c xs) h).1 (and_parts (not (eqb y c)) (lacks c ys) i).1 tails in
    (cc more.0, more.1)
