-- The name that a token is.
use Rattle.std.proofs.Common.{◌≡◌, ℕ, ◌≤◌, List, length, true, refl, sym, ap}
use Rattle.std.specs.Prelude.{Some, Result, Ok, Err, MatchResult}
use Rattle.std.specs.Option.{option_map}
use Rattle.std.specs.Result.{result_ok}
use Rattle.std.specs.Str.{IsUtf8}
use Rattle.std.proofs.lemmas.Bool.{le-leb}
use Rattle.felm_lexer.specs.Spellings.{is_name}
use Rattle.felm_lexer.specs.declared.kind.TokenKind.TheVariants as kind
use Rattle.felm_lexer.specs.declared.token.Token.{Token}
use Rattle.felm_lexer.proofs.Names.{name_is_text}
use Rattle.felm_syntax.specs.Kinds.{name_of, is_name_kind, text_of}

-- a token of the kind of names, within the text and spelled as a name
pub name_is : (text : List ℕ) (t : Token) (spelling : List ℕ) → t.kind ≡ kind.Name → t.start ≤ t.end → t.end ≤ length text
    → spelling ≡ text_of text t → is_name spelling ≡ true → name_of text t ≡ Some spelling
unfolding name_of
name_is text t spelling is before within slice spelled =
    let name : is_name_kind t.kind ≡ true = rw is refl in
    let text_is_name : is_name (text_of text t) ≡ true = rw (← slice) spelled in
    rw (name, le-leb t.start t.end before, le-leb t.end (length text) within, text_is_name) (ap Some (sym slice))

-- the bytes of a name can be taken as text
pub read_as_text : {B E : Type 0} (now : B → List ℕ) (Q : E → Type 0) (spelling : List ℕ) (taken : Result B E) → is_name spelling ≡ true
    → MatchResult taken (λ s. (now s ≡ spelling) × IsUtf8 spelling) (λ e. (IsUtf8 spelling → ⊥) × Q e) → option_map now (result_ok taken) ≡ Some spelling
read_as_text now Q spelling (Ok s) is h = ap Some h.0
read_as_text now Q spelling (Err e) is h = absurd (h.0 (name_is_text spelling is))
