-- A search through texts by name.
use Rattle.std.proofs.Common.{◌≡◌, ◌<◌, ◌+◌, ℕ, List, ◌∷◌, length, get_or, drop, cond, Some, sym, ap, ◌∙◌}
use Rattle.std.specs.Prelude.{bytes_eq}
use Rattle.std.proofs.lemmas.List.{at_drop_more}
use Rattle.felm_io.specs.declared.texts.NamedText.{NamedText}
use Rattle.felm_io.specs.Texts.{texts_of, text_under}

-- the text under a name is the next one's, or that among the texts behind it
pub text_under_rest : (texts : List NamedText) (i : ℕ) (text : NamedText) (name : List ℕ) → i < length texts → text ≡ get_or texts i text
    → text_under (texts_of (drop i texts)) name ≡ cond (bytes_eq name text.name) (Some text.bytes.items) (text_under (texts_of (drop (i + 1) texts)) name)
text_under_rest texts i text name below is =
    at_drop_more (λ rest. text_under (texts_of rest) name) texts i text below
    ∙ ap (λ (t : NamedText). text_under (texts_of (t ∷ drop (i + 1) texts)) name) (sym is)
