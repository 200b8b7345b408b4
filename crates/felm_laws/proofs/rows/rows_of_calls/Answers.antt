use Rattle.std.proofs.Common.{List, [], ◌∷◌, ◌≡◌, Option, refl, sym, subst}
use Rattle.std.specs.Int.{int_wrap}
use Rattle.felm_term.specs.CoreTerm.{CoreTerm}
use Rattle.felm_term.specs.Call.{CallGives}
use Rattle.felm_laws.specs.Calls.{call}
use Rattle.felm_laws.specs.Rows.{CallRow, AreCalls, call_rows}
use Rattle.felm_laws.proofs.CallLaws.{call_gives}
use Rattle.felm_laws.proofs.rows.rows_of_calls.Goals as goal

abbrev computed_in : List CallRow → List (Option CoreTerm)
computed_in [] = []
computed_in (r ∷ rows) = call r.function r.arguments r.budget ∷ computed_in rows

abbrev stated_in : List CallRow → List (Option CoreTerm)
stated_in [] = []
stated_in (r ∷ rows) = r.value ∷ stated_in rows

first_is : {A : Type 0} {x y : A} {xs ys : List A} → x ∷ xs ≡ y ∷ ys → x ≡ y
first_is h = cc

rest_is : {A : Type 0} {x y : A} {xs ys : List A} → x ∷ xs ≡ y ∷ ys → xs ≡ ys
rest_is h = cc

rows_hold : (rows : List CallRow) → stated_in rows ≡ computed_in rows → AreCalls rows
rows_hold [] h = tt
rows_hold (r ∷ rows) h =
    (subst (CallGives r.function r.arguments r.budget) (sym (first_is h)) (call_gives r.function r.arguments r.budget), rows_hold rows (rest_is h))

pub returns : goal.returns
unfolding int_wrap
returns c = rows_hold call_rows refl
