-- The lines of a script, and their fields.
use Rattle.std.specs.Prelude.{ℕ, Bool, true, false, ◌==◌, List, [], ◌∷◌, filter, if◌then◌else◌}
use Rattle.std.specs.List.{slice_split, onto_first}
use Rattle.felm_term.specs.Bytes.{is_blank}

-- the lines of a text: each ends with a line feed, and the last one may end with the text
abbrev pub lines_of : List ℕ → List (List ℕ)
lines_of [] = []
lines_of (b ∷ rest) = if b == 10 then [] ∷ lines_of rest else onto_first b (lines_of rest)

-- whether a list has an item
abbrev pub is_filled : {T : Type 0} → List T → Bool
is_filled [] = false
is_filled (x ∷ xs) = true

-- the fields of a line: the longest runs of bytes that are no blanks
abbrev pub fields_of : List ℕ → List (List ℕ)
fields_of line = filter is_filled (slice_split is_blank line)
