-- A name is among those seen where it has a position among them.
use Rattle.std.proofs.Common.{◌≡◌, ℕ, suc, ◌+◌, List, [], ◌∷◌, length, Bool, true, false, not, cond, refl, ◌∙◌, arith}
use Rattle.std.specs.Prelude.{◌||◌, nat_lt, position, Some, None}
use Rattle.std.specs.Option.{is_some}
use Rattle.std.specs.List.{list_any, position_or_len}
use Rattle.std.proofs.lemmas.Bool.Decides.{leb_tells}

-- one element more
one_more : (found any : Bool) (n l : ℕ) → nat_lt n l ≡ any → nat_lt (cond (not found) (1 + n) 0) (suc l) ≡ (found || any)
one_more true any n l h = grind (arith, leb_tells)
one_more false any n l h = grind (arith, leb_tells)

before_the_end : {X : Type 0} (p : X → Bool) (xs : List X) → nat_lt (position_or_len p xs) (length xs) ≡ list_any p xs
before_the_end p [] = refl
before_the_end p (x ∷ xs) = one_more (p x) (list_any p xs) (position_or_len p xs) (length xs) (before_the_end p xs)

has_place : (b : Bool) (n : ℕ) → is_some (cond b (Some n) None) ≡ b
has_place true n = refl
has_place false n = refl

-- a list has a position of an element that passes exactly where it has such an element
pub is_some-position : {X : Type 0} (p : X → Bool) (xs : List X) → is_some (position p xs) ≡ list_any p xs
is_some-position p xs = has_place (nat_lt (position_or_len p xs) (length xs)) (position_or_len p xs) ∙ before_the_end p xs

pub ruleset seen = (is_some-position)
