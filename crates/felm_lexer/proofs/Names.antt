-- Which tokens are names.
use Rattle.std.proofs.Common.{◌≡◌, ℕ, ◌<◌, ◌^◌, ◌==◌, true, false, List, [], ◌∷◌, Option, Some, None, pos, refl, arith, tests}
use Rattle.std.specs.Prelude.{nat_lt, if◌then◌else◌}
use Rattle.std.specs.List.{list_all}
use Rattle.std.specs.Option.{option_map}
use Rattle.std.specs.Str.{IsUtf8}
use Rattle.std.proofs.lemmas.List.Sums.{AllPass-from_list_all}
use Rattle.std.proofs.lemmas.Str.{IsUtf8-from_ascii}
use Rattle.std.proofs.lemmas.Str.Ascii.{IsAscii-from_all}
use Rattle.felm_term.specs.Bytes.{is_word_byte}
use Rattle.felm_term.specs.Decimal.{number_of, is_number}
use Rattle.felm_lexer.specs.declared.kind.Symbol.{Symbol}
use Rattle.felm_lexer.specs.declared.kind.TokenKind.TheVariants as kind
use Rattle.felm_lexer.specs.Spellings.{is_word, is_name, keyword_of, symbol_of, word_kind, number_kind, kind_of}

-- no number and no symbol is a name
no_number : (n : ℕ) → number_kind n ≡ Some kind.Name → ⊥
no_number n e =
    (elim (nat_lt n (2 ^ 63)) as (λ q. (if q then Some (kind.Int (pos n)) else (if n == 2 ^ 63 then Some kind.Big else None)) ≡ Some kind.Name → ⊥) [
      | true ↦ λ f. cc
      | false ↦ λ f. (elim (n == 2 ^ 63) as (λ q. (if q then Some kind.Big else None) ≡ Some kind.Name → ⊥) [
        | true ↦ λ g. cc
        | false ↦ λ g. cc
      ]) f
    ]) e

-- no symbol's kind is that of a name
no_symbol : (found : Option Symbol) → option_map kind.Mark found ≡ Some kind.Name → ⊥
no_symbol None e = cc
no_symbol (Some symbol) e = cc

-- a name's kind is a name's alone
pub name_from_kind : (bytes : List ℕ) → kind_of bytes ≡ Some kind.Name → is_name bytes ≡ true
unfolding kind_of
name_from_kind bytes e =
    (elim (is_word bytes) as (λ q. is_word bytes ≡ q → (if q then Some (word_kind (keyword_of bytes)) else (if is_number bytes then number_kind (number_of bytes) else option_map kind.Mark (symbol_of bytes))) ≡ Some kind.Name → is_name bytes ≡ true) [
      | true ↦ λ w f. (elim (keyword_of bytes) as (λ q. keyword_of bytes ≡ q → Some (word_kind q) ≡ Some kind.Name → is_name bytes ≡ true) [
        | None ↦ λ k g. rw (w, k) refl
        | Some keyword ↦ λ k g. absurd (cc)
      ]) refl f
      | false ↦ λ w f. (elim (is_number bytes) as (λ q. (if q then number_kind (number_of bytes) else option_map kind.Mark (symbol_of bytes)) ≡ Some kind.Name → is_name bytes ≡ true) [
        | true ↦ λ g. absurd (no_number (number_of bytes) g)
        | false ↦ λ g. absurd (no_symbol (symbol_of bytes) g)
      ]) f
    ]) refl e

-- a name's kind
pub kind_from_name : (bytes : List ℕ) → is_name bytes ≡ true → kind_of bytes ≡ Some kind.Name
unfolding kind_of
kind_from_name bytes e =
    (elim (is_word bytes) as (λ q. is_word bytes ≡ q → kind_of bytes ≡ Some kind.Name) [
      | true ↦ λ w. (elim (keyword_of bytes) as (λ q. keyword_of bytes ≡ q → kind_of bytes ≡ Some kind.Name) [
        | None ↦ λ k. rw (w, k) refl
        | Some keyword ↦ λ k. absurd (let f : is_name bytes ≡ false = rw (w, k) refl in cc)
      ]) refl
      | false ↦ λ w. absurd (let f : is_name bytes ≡ false = rw w refl in cc)
    ]) refl

-- a word byte is one of ASCII
word_byte_is_ascii : (b : ℕ) → is_word_byte b ≡ true → b < 128
word_byte_is_ascii b word = grind (arith, tests, word)

-- the bytes of a name are text
pub name_is_text : (bytes : List ℕ) → is_name bytes ≡ true → IsUtf8 bytes
name_is_text [] e = absurd (cc)
name_is_text (c ∷ cs) e =
    let all : list_all is_word_byte (c ∷ cs) ≡ true = grind (arith, tests, e) in
    IsUtf8-from_ascii (c ∷ cs) (IsAscii-from_all (c ∷ cs) (λ k d h. word_byte_is_ascii _ (AllPass-from_list_all is_word_byte (c ∷ cs) all k d h)))
