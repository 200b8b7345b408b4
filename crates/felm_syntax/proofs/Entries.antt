-- The entries of a map of inputs as declarations.
use Rattle.std.proofs.Common.{◌≡◌, ℕ, ◌+◌, ◌||◌, not, Bool, false, cond, List, [], ◌∷◌, ◌++◌, map, refl, ap, ◌∙◌, Option, Some, None, is_some, true≢false}
use Rattle.std.specs.Prelude.{bytes_eq, position, string_bytes, string_eq}
use Rattle.std.specs.List.{list_any, prefix_len}
use Rattle.std.specs.Map.{keys_of, lookup}
use Rattle.std.specs.declared.string.String.{String}
use Rattle.std.proofs.lemmas.List.{length-map, map-append}
use Rattle.std.proofs.lemmas.Map.Made.{is_some-lookup}
use Rattle.indexmap.specs.IndexMap.{IndexMap, insert_entry}
use Rattle.indexmap.proofs.CallerLemmas.{insert_entry-new}
use Rattle.felm_term.specs.Inputs.{names_of}
use Rattle.felm_syntax.specs.declared.inputs.Declared.{Declared}
use Rattle.felm_syntax.specs.InputMap.{declaration, declarations}

prefix_len-map : {X Y : Type 0} (p : Y → Bool) (f : X → Y) (xs : List X) → prefix_len p (map f xs) ≡ prefix_len (λ x. p (f x)) xs
prefix_len-map p f [] = refl
prefix_len-map p f (x ∷ xs) = ap (λ n. cond (p (f x)) (1 + n) 0) (prefix_len-map p f xs)

position-map : {X Y : Type 0} (p : Y → Bool) (f : X → Y) (xs : List X) → position (λ x. p (f x)) xs ≡ position p (map f xs)
position-map p f xs = rw (prefix_len-map (λ y. not (p y)) f xs, length-map xs f) refl

list_any-map : {X Y : Type 0} (p : Y → Bool) (f : X → Y) (xs : List X) → list_any (λ x. p (f x)) xs ≡ list_any p (map f xs)
list_any-map p f [] = refl
list_any-map p f (x ∷ xs) = ap (λ b. p (f x) || b) (list_any-map p f xs)

none_if : {X : Type 0} (found : Option X) → is_some found ≡ false → found ≡ None
none_if None h = refl
none_if (Some x) h = absurd (true≢false h)

module _ {A : Type 0} where
  -- the keys are the names
  keys_are_names : (es : List (String A × Declared)) → map string_bytes (keys_of es) ≡ names_of (declarations es)
  keys_are_names [] = refl
  keys_are_names (e ∷ es) = ap (λ names. string_bytes e.0 ∷ names) (keys_are_names es)

  -- a name's number is that of its key
  pub number_of_name : (es : List (String A × Declared)) (name : List ℕ)
      → position (λ key. bytes_eq name (string_bytes key)) (keys_of es) ≡ position (bytes_eq name) (names_of (declarations es))
  number_of_name es name = position-map (bytes_eq name) string_bytes (keys_of es) ∙ ap (position (bytes_eq name)) (keys_are_names es)

  -- a new name has no entry
  absent : (es : List (String A × Declared)) (key : String A) → list_any (bytes_eq (string_bytes key)) (names_of (declarations es)) ≡ false
      → lookup (string_eq key) es ≡ None
  absent es key fresh =
      none_if (lookup (string_eq key) es)
      (is_some-lookup (string_eq key) es ∙ list_any-map (bytes_eq (string_bytes key)) string_bytes (keys_of es)
      ∙ ap (list_any (bytes_eq (string_bytes key))) (keys_are_names es) ∙ fresh)

  -- a new name goes last
  pub declared_last : {S : Type 0} (map : IndexMap (String A) Declared S) (key : String A) (name : List ℕ) (d : Declared) (after : List (String A × Declared))
      → string_bytes key ≡ name → list_any (bytes_eq name) (names_of (declarations map.entries)) ≡ false
      → after ≡ insert_entry string_eq map.entries key d → declarations after ≡ declarations map.entries ++ declaration name d ∷ []
  declared_last entries key name d after is fresh put =
      let none = absent entries.entries key (ap (λ n. list_any (bytes_eq n) (names_of (declarations entries.entries))) is ∙ fresh) in
      ap declarations (put ∙ insert_entry-new string_eq entries key d none)
      ∙ map-append (λ e. declaration (string_bytes e.0) e.1) entries.entries ((key, d) ∷ [])
      ∙ ap (λ n. declarations entries.entries ++ declaration n d ∷ []) is
