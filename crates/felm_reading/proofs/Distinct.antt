-- A name that stands twice.
use Rattle.std.proofs.Common.{◌≡◌, ℕ, List, [], ◌∷◌, ◌++◌, true, false, sym, ap, ◌∙◌, subst}
use Rattle.std.specs.Prelude.{◌||◌, bytes_eq}
use Rattle.std.specs.List.{AllByRecursion, IsDistinct, list_any}
use Rattle.std.specs.Cmp.Lexicographic.{nat_list_eq_equiv}
use Rattle.std.proofs.lemmas.List.{map-append}
use Rattle.felm_term.specs.Inputs.{names_of}
use Rattle.felm_term.specs.declared.input.InputDecl.{InputDecl}

pub all_at : {X : Type 0} (P : X → Type 0) (xs : List X) (y : X) (ys : List X) → AllByRecursion P (xs ++ y ∷ ys) → P y
all_at P [] y ys h = h.0
all_at P (x ∷ xs) y ys h = all_at P xs y ys h.1

found_twice : (xs : List (List ℕ)) (y : List ℕ) (ys : List (List ℕ)) → list_any (bytes_eq y) xs ≡ true → IsDistinct bytes_eq (xs ++ y ∷ ys) → ⊥
unfolding IsDistinct
found_twice [] y ys h distinct = cc
found_twice (x ∷ xs) y ys h distinct =
    let differs : bytes_eq x y ≡ false = all_at (λ z. bytes_eq x z ≡ false) xs y ys distinct.0 in
    found_twice xs y ys (sym (ap (λ b. b || list_any (bytes_eq y) xs) (nat_list_eq_equiv.symm y x ∙ differs)) ∙ h) distinct.1

-- names are not distinct where a name that was seen is declared
pub seen_twice : (seen : List InputDecl) (d : InputDecl) (ds : List InputDecl) → list_any (bytes_eq d.name) (names_of seen) ≡ true →
    IsDistinct bytes_eq (names_of (seen ++ d ∷ ds)) → ⊥
seen_twice seen d ds h distinct =
    found_twice (names_of seen) d.name (names_of ds) h
    (subst (IsDistinct bytes_eq) (map-append (λ (i : InputDecl). i.name) seen (d ∷ ds)) distinct)
