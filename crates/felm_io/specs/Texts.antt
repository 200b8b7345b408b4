-- Texts in memory by name.
use Rattle.std.specs.Prelude.{ℕ, List, [], map, Option, unwrap_or, bytes_eq}
use Rattle.std.specs.Map.{lookup}
use Rattle.felm_io.specs.declared.texts.NamedText.{NamedText}

-- names with their texts, the newest first
abbrev pub Texts : Type 0
Texts = List (List ℕ × List ℕ)

-- what is kept, without where it lies in memory
abbrev pub texts_of : List NamedText → Texts
texts_of texts = map (λ text. (text.name, text.bytes.items)) texts

-- the newest text under a name
abbrev pub text_under : Texts → List ℕ → Option (List ℕ)
text_under texts name = lookup (bytes_eq name) texts

-- the newest text under a name, and no bytes where there is none
abbrev pub text_or_empty : Texts → List ℕ → List ℕ
text_or_empty texts name = unwrap_or (text_under texts name) []
