use Rattle.std.proofs.Common.{List, [], ◌∷◌, ◌≡◌, Option, refl}
use Rattle.felm_term.specs.CoreType.{CoreType}
use Rattle.felm_term.specs.CoreTerm.{CoreTerm}
use Rattle.felm_term.specs.FoundType.{found_type}
use Rattle.felm_term.proofs.FoundTypes.{type_is}
use Rattle.felm_laws.specs.Rows.{inputs, HaveTypesOfRows, typing_rows}
use Rattle.felm_laws.proofs.rows.rows_of_types.Goals as goal

-- each row's type is the one that is found
abbrev found_in : List (CoreTerm × Option CoreType) → List (Option CoreType)
found_in [] = []
found_in (row ∷ rows) = found_type inputs [] [] row.0 ∷ found_in rows

abbrev stated_in : List (CoreTerm × Option CoreType) → List (Option CoreType)
stated_in [] = []
stated_in (row ∷ rows) = row.1 ∷ stated_in rows

first_is : {A : Type 0} {x y : A} {xs ys : List A} → x ∷ xs ≡ y ∷ ys → x ≡ y
first_is h = cc

rest_is : {A : Type 0} {x y : A} {xs ys : List A} → x ∷ xs ≡ y ∷ ys → xs ≡ ys
rest_is h = cc

rows_hold : (rows : List (CoreTerm × Option CoreType)) → stated_in rows ≡ found_in rows → HaveTypesOfRows rows
rows_hold [] h = tt
rows_hold (row ∷ rows) h = (type_is inputs [] [] row.0 row.1 (first_is h), rows_hold rows (rest_is h))

pub returns : goal.returns
returns c = rows_hold typing_rows refl
