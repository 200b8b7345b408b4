-- A list that is copied item by item.
use Rattle.std.proofs.Common.{◌≡◌, List, [], ◌∷◌, ◌++◌, length, take, Some, None, refl, ap}
use Rattle.std.specs.Prelude.{slice_get}

pub one_more : {X : Type 0} (xs ys : List X) (y : X) → xs ≡ take (length xs) ys → slice_get ys (length xs) ≡ Some y
    → xs ++ y ∷ [] ≡ take (length (xs ++ y ∷ [])) ys
one_more [] [] y front at = cc
one_more [] (z ∷ zs) y front at = let same : z ≡ y = cc in rw same refl
one_more (x ∷ xs) [] y front at = cc
one_more (x ∷ xs) (z ∷ zs) y front at =
    let same : x ≡ z = cc in
    let rest : xs ≡ take (length xs) zs = cc in
    rw same (ap (λ l. z ∷ l) (one_more xs zs y rest at))

pub all_taken : {X : Type 0} (xs ys : List X) → xs ≡ take (length xs) ys → slice_get ys (length xs) ≡ None → xs ≡ ys
all_taken [] [] front at = refl
all_taken [] (z ∷ zs) front at = cc
all_taken (x ∷ xs) [] front at = cc
all_taken (x ∷ xs) (z ∷ zs) front at =
    let same : x ≡ z = cc in
    let rest : xs ≡ take (length xs) zs = cc in
    rw same (ap (λ l. z ∷ l) (all_taken xs zs rest at))
