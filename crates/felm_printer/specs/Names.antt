-- The names of inputs.
use Rattle.std.specs.Prelude.{◌≡◌, ℕ, ◌&&◌, Bool, true, false, List, [], ◌∷◌, All, bytes_eq}
use Rattle.std.specs.List.{list_all, IsDistinct}
use Rattle.felm_term.specs.Bytes.{is_letter, is_word_byte}
use Rattle.felm_term.specs.Inputs.{names_of}
use Rattle.felm_term.specs.declared.input.InputDecl.{InputDecl}

-- a letter, and then letters and digits
abbrev pub is_word : List ℕ → Bool
is_word [] = false
is_word (c ∷ cs) = is_letter c && list_all is_word_byte cs

-- no two inputs have one name, and each name is a word
pub record AreNames (inputs : List InputDecl) : Type 0 where
  pub distinct : IsDistinct bytes_eq (names_of inputs)
  pub words : All (λ name. is_word name ≡ true) (names_of inputs)
