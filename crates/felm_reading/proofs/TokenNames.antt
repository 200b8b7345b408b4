-- The name tokens of a text are names.
use Rattle.std.proofs.Common.{◌≡◌, ℕ, ◌≤◌, ◌<◌, List, [], ◌∷◌, length, Bool, true, refl, ◌∙◌, ap, arith}
use Rattle.std.specs.Prelude.{Some, None, ◌&&◌, if◌then◌else◌}
use Rattle.std.specs.List.{All}
use Rattle.std.proofs.lemmas.Bool.{le-leb}
use Rattle.std.proofs.lemmas.List.Elements.{All-nil, All-cons}
use Rattle.felm_lexer.specs.declared.kind.TokenKind.TheVariants.{Name}
use Rattle.felm_lexer.specs.declared.token.Token.{Token}
use Rattle.felm_lexer.specs.Spellings.{kind_of}
use Rattle.felm_lexer.specs.Readings.{StandInOrder}
use Rattle.felm_lexer.proofs.Names.{name_from_kind}
use Rattle.felm_lexer.proofs.Spans.{in_order}
use Rattle.felm_syntax.specs.Kinds.{text_of, is_named, name_of}
use Rattle.felm_reading.specs.Laws.{TokenNames}

and_true : (a b : Bool) → a ≡ true → b ≡ true → (a && b) ≡ true
and_true a b h k = rw (h, k) refl

-- a slice of the text that spells a name is the token's name
named : (text : List ℕ) (t : Token) → t.start < t.end → t.end ≤ length text → kind_of (text_of text t) ≡ Some t.kind → t.kind ≡ Name →
    name_of text t ≡ Some (text_of text t)
unfolding name_of
named text t order within spelled k =
    let is : is_named text t ≡ true =
    and_true _ _ (and_true _ _ (and_true _ _ (rw k refl) (le-leb t.start t.end (omega (arith, order)))) (le-leb t.end (length text) within))
    (name_from_kind (text_of text t) (spelled ∙ ap Some k)) in
    ap (λ b. if b then Some (text_of text t) else None) is

-- tokens in order stand within the text
within_text : (text : List ℕ) (from : ℕ) (ts : List Token) → StandInOrder text from ts → from ≤ length text
within_text text from [] order = order
within_text text from (t ∷ ts) order = omega (arith, order.0, order.1, within_text text t.end ts order.3)

abbrev IsNamed : List ℕ → Token → Type 0
IsNamed text t = t.kind ≡ Name → name_of text t ≡ Some (text_of text t)

all_named : (text : List ℕ) (from : ℕ) (ts : List Token) → StandInOrder text from ts →
    All (IsNamed text) ts
all_named text from [] order = All-nil (IsNamed text)
all_named text from (t ∷ ts) order =
    All-cons (IsNamed text) t ts (named text t order.1 (within_text text t.end ts order.3) order.2) (all_named text t.end ts order.3)

pub token_names : TokenNames
token_names text tokens reads = all_named text 0 tokens (in_order text tokens reads)
