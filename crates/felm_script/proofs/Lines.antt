-- How lines and fields end.
use Rattle.std.proofs.Common.{◌≡◌, ℕ, ◌==◌, ◌||◌, ◌&&◌, Bool, true, false, not, cond, List, [], ◌∷◌, ◌++◌, filter, refl, ap, ◌∙◌}
use Rattle.std.specs.List.{list_any, list_all, slice_split, onto_first}
use Rattle.felm_term.specs.Bytes.{is_blank}
use Rattle.felm_script.specs.Lines.{lines_of, is_filled, fields_of}
use Rattle.felm_script.specs.Laws.{LinesEndWithLineFeeds, LastLinesMayEndWithTheText, BlanksComeBeforeFields, FieldsEndWithBlanks, LastFieldsMayEndWithTheLine}

-- no item passes: neither the first one nor one of the others
first_fails : (a b : Bool) → not (a || b) ≡ true → a ≡ false
first_fails true b h = cc
first_fails false b h = refl

others_fail : (a b : Bool) → not (a || b) ≡ true → not b ≡ true
others_fail true b h = cc
others_fail false b h = h

both : (a b : Bool) → a && b ≡ true → (a ≡ true) × (b ≡ true)
both true b h = (refl, h)
both false b h = cc

pub lines_end : LinesEndWithLineFeeds
lines_end [] rest none = refl
lines_end (b ∷ line) rest none =
    let again = lines_end line rest (others_fail (b == 10) (list_any (λ c. c == 10) line) none) in
    ap (λ q. cond q ([] ∷ lines_of (line ++ 10 ∷ rest)) (onto_first b (lines_of (line ++ 10 ∷ rest)))) (first_fails (b == 10) (list_any (λ c. c == 10) line) none)
    ∙ ap (onto_first b) again

pub last_line_ends : LastLinesMayEndWithTheText
last_line_ends [] none some = cc
last_line_ends (b ∷ []) none some = ap (λ q. cond q ([] ∷ []) (onto_first b [])) (first_fails (b == 10) false none)
last_line_ends (b ∷ c ∷ line) none some =
    let again = last_line_ends (c ∷ line) (others_fail (b == 10) (list_any (λ d. d == 10) (c ∷ line)) none) refl in
    ap (λ q. cond q ([] ∷ lines_of (c ∷ line)) (onto_first b (lines_of (c ∷ line)))) (first_fails (b == 10) (list_any (λ d. d == 10) (c ∷ line)) none)
    ∙ ap (onto_first b) again

pub blanks_come_before : BlanksComeBeforeFields
blanks_come_before [] line blank = refl
blanks_come_before (b ∷ blanks) line blank =
    let each = both (is_blank b) (list_all is_blank blanks) blank in
    let more = slice_split is_blank (blanks ++ line) in
    ap (λ q. filter is_filled (cond q ([] ∷ more) (onto_first b more))) each.0 ∙ blanks_come_before blanks line each.1

split_behind : (field rest : List ℕ) (blank : ℕ) → not (list_any is_blank field) ≡ true → is_blank blank ≡ true
    → slice_split is_blank (field ++ blank ∷ rest) ≡ field ∷ slice_split is_blank rest
split_behind [] rest blank none ends = ap (λ q. cond q ([] ∷ slice_split is_blank rest) (onto_first blank (slice_split is_blank rest))) ends
split_behind (b ∷ field) rest blank none ends =
    let more = slice_split is_blank (field ++ blank ∷ rest) in
    ap (λ q. cond q ([] ∷ more) (onto_first b more)) (first_fails (is_blank b) (list_any is_blank field) none)
    ∙ ap (onto_first b) (split_behind field rest blank (others_fail (is_blank b) (list_any is_blank field) none) ends)

unsplit : (field : List ℕ) → not (list_any is_blank field) ≡ true → slice_split is_blank field ≡ field ∷ []
unsplit [] none = refl
unsplit (b ∷ field) none =
    let more = slice_split is_blank field in
    ap (λ q. cond q ([] ∷ more) (onto_first b more)) (first_fails (is_blank b) (list_any is_blank field) none)
    ∙ ap (onto_first b) (unsplit field (others_fail (is_blank b) (list_any is_blank field) none))

pub fields_end : FieldsEndWithBlanks
fields_end field rest blank is ends =
    let each = both (is_filled field) (not (list_any is_blank field)) is in
    ap (filter is_filled) (split_behind field rest blank each.1 ends)
    ∙ ap (λ q. cond q (field ∷ fields_of rest) (fields_of rest)) each.0

pub last_field_ends : LastFieldsMayEndWithTheLine
last_field_ends field is =
    let each = both (is_filled field) (not (list_any is_blank field)) is in
    ap (filter is_filled) (unsplit field each.1) ∙ ap (λ q. cond q (field ∷ []) []) each.0
