-- Which bytes a text that reads whole may hold.
use Rattle.std.proofs.Common.{◌≡◌, ℕ, ◌&&◌, ◌||◌, Bool, true, false, cond, List, [], ◌∷◌, ◌++◌, length, Some, None, refl, sym, ap, ◌∙◌, subst, inl, inr, arith, tests}
use Rattle.std.specs.Prelude.{bytes_eq, is_some}
use Rattle.std.specs.List.{list_all}
use Rattle.std.specs.Map.{lookup}
use Rattle.std.proofs.lemmas.List.Folds.{list_all-append}
use Rattle.std.proofs.lemmas.Slice.Eq.{bytes_eq-Decides}
use Rattle.felm_term.specs.Bytes.{is_digit, is_word_byte, is_allowed}
use Rattle.felm_term.specs.Decimal.{is_number}
use Rattle.felm_lexer.specs.declared.kind.Symbol.{Symbol}
use Rattle.felm_lexer.specs.declared.token.Token.{Token}
use Rattle.felm_lexer.specs.Spellings.{symbols, symbol_of, is_word, is_spelling}
use Rattle.felm_lexer.specs.Fronts.{beginning, is_space, is_comment_byte, IsGap}
use Rattle.felm_lexer.specs.Readings.{Reading, Whole, NoToken, TooWide, first_token, moved, behind, Reads, end, gap, token, wide, stuck}
use Rattle.felm_lexer.proofs.Faults.{space_byte}

-- bytes of a class are allowed where each byte of the class is
all_allowed : (class : ℕ → Bool) → ((b : ℕ) → class b ≡ true → is_allowed b ≡ true) → (bytes : List ℕ) → list_all class bytes ≡ true → list_all is_allowed bytes ≡ true
all_allowed class allowed [] all = refl
all_allowed class allowed (b ∷ bytes) all =
    let here : class b ≡ true = grind (arith, all) in
    let rest : list_all class bytes ≡ true = grind (arith, all) in
    rw (allowed b here, all_allowed class allowed bytes rest) refl

-- each class that a text is read by holds allowed bytes alone
space_allowed : (b : ℕ) → is_space b ≡ true → is_allowed b ≡ true
space_allowed b space = grind (arith, tests)

comment_byte_allowed : (b : ℕ) → is_comment_byte b ≡ true → is_allowed b ≡ true
comment_byte_allowed b comment = grind (arith, tests)

word_byte_allowed : (b : ℕ) → is_word_byte b ≡ true → is_allowed b ≡ true
word_byte_allowed b word = grind (arith, tests)

digit_allowed : (b : ℕ) → is_digit b ≡ true → is_allowed b ≡ true
digit_allowed b digit = grind (arith, tests)

-- the symbols hold allowed bytes alone
all_symbols_allowed : list_all (λ e. list_all is_allowed e.0) symbols ≡ true
unfolding symbols
all_symbols_allowed = refl

-- what is found in a table of allowed bytes is allowed
found_allowed : (bytes : List ℕ) (symbol : Symbol) (table : List (List ℕ × Symbol)) → list_all (λ e. list_all is_allowed e.0) table ≡ true
    → lookup (bytes_eq bytes) table ≡ Some symbol → list_all is_allowed bytes ≡ true
found_allowed bytes symbol [] all found = absurd (cc)
found_allowed bytes symbol (e ∷ table) all found =
    let here : list_all is_allowed e.0 ≡ true = grind (arith, all) in
    let rest : list_all (λ e. list_all is_allowed e.0) table ≡ true = grind (arith, all) in
    (elim (bytes_eq bytes e.0) as (λ q. bytes_eq bytes e.0 ≡ q → cond q (Some e.1) (lookup (bytes_eq bytes) table) ≡ Some symbol → list_all is_allowed bytes ≡ true) [
      | true ↦ λ f g. subst (λ l. list_all is_allowed l ≡ true) (sym ((bytes_eq-Decides bytes e.0).0 f)) here
      | false ↦ λ f g. found_allowed bytes symbol table rest g
    ]) refl found

-- a symbol holds allowed bytes alone
symbol_allowed : (bytes : List ℕ) (symbol : Symbol) → symbol_of bytes ≡ Some symbol → list_all is_allowed bytes ≡ true
unfolding symbol_of
symbol_allowed bytes symbol found = found_allowed bytes symbol symbols all_symbols_allowed found

-- so does a word
word_allowed : (bytes : List ℕ) → is_word bytes ≡ true → list_all is_allowed bytes ≡ true
word_allowed [] word = absurd (cc)
word_allowed (c ∷ cs) word =
    let all : list_all is_word_byte (c ∷ cs) ≡ true = grind (arith, tests, word) in
    all_allowed is_word_byte word_byte_allowed (c ∷ cs) all

-- so does a number
number_allowed : (bytes : List ℕ) → is_number bytes ≡ true → list_all is_allowed bytes ≡ true
number_allowed [] number = absurd (cc)
number_allowed (c ∷ cs) number = all_allowed is_digit digit_allowed (c ∷ cs) number

-- so does every spelling of a token
spelling_allowed : (bytes : List ℕ) → is_spelling bytes ≡ true → list_all is_allowed bytes ≡ true
spelling_allowed bytes spelled =
    (elim (is_word bytes) as (λ q. is_word bytes ≡ q → ((q || is_number bytes) || is_some (symbol_of bytes)) ≡ true → list_all is_allowed bytes ≡ true) [
      | true ↦ λ e f. word_allowed bytes e
      | false ↦ λ e f. (elim (is_number bytes) as (λ q. is_number bytes ≡ q → ((false || q) || is_some (symbol_of bytes)) ≡ true → list_all is_allowed bytes ≡ true) [
        | true ↦ λ g h. number_allowed bytes g
        | false ↦ λ g h. (elim (symbol_of bytes) as (λ q. symbol_of bytes ≡ q → is_some q ≡ true → list_all is_allowed bytes ≡ true) [
          | Some symbol ↦ λ i j. symbol_allowed bytes symbol i
          | None ↦ λ i j. absurd (cc)
        ]) refl h
      ]) refl f
    ]) refl spelled

-- so does what stands between tokens
gap_allowed : (bytes rest : List ℕ) → IsGap bytes rest → list_all is_allowed bytes ≡ true
gap_allowed bytes rest (inl is) =
    let space = space_byte is.byte rest (ap (λ l. beginning (l ++ rest)) (sym is.one) ∙ is.begins) in
    subst (λ l. list_all is_allowed l ≡ true) (sym is.one) (rw (space_allowed is.byte space) refl)
gap_allowed bytes rest (inr is) = all_allowed is_comment_byte comment_byte_allowed bytes is.all

-- two parts of allowed bytes make a text of allowed bytes
both_allowed : (text bytes rest : List ℕ) → text ≡ bytes ++ rest → list_all is_allowed bytes ≡ true → list_all is_allowed rest ≡ true → list_all is_allowed text ≡ true
both_allowed text bytes rest e first others =
    ap (list_all is_allowed) e ∙ list_all-append is_allowed bytes rest ∙ ap (λ q. q && list_all is_allowed rest) first ∙ others

-- a reading of all tokens
record IsWhole (reading : Reading) : Type 0 where
  tokens : List Token
  is : reading ≡ Whole tokens

-- a reading that is moved to a whole one is whole
whole_from_moved : (n : ℕ) (reading : Reading) (ts : List Token) → moved n reading ≡ Whole ts → IsWhole reading
whole_from_moved n (Whole tokens) ts e = record { tokens = tokens; is = refl }
whole_from_moved n (NoToken at) ts e = absurd (cc)
whole_from_moved n (TooWide at) ts e = absurd (cc)

-- a reading that a token makes whole is whole
whole_from_behind : (t : Token) (reading : Reading) (ts : List Token) → behind t reading ≡ Whole ts → IsWhole reading
whole_from_behind t (Whole tokens) ts e = record { tokens = tokens; is = refl }
whole_from_behind t (NoToken at) ts e = absurd (cc)
whole_from_behind t (TooWide at) ts e = absurd (cc)

-- a text that reads whole holds allowed bytes alone
pub whole_allowed : (text : List ℕ) (reading : Reading) → Reads text reading → (ts : List Token) → reading ≡ Whole ts → list_all is_allowed text ≡ true
whole_allowed text reading end ts is = refl
whole_allowed text reading (gap {bytes = bytes} {rest = rest} {reading = later} e g reads w) ts is =
    let whole = whole_from_moved (length bytes) later ts (sym w ∙ is) in
    both_allowed text bytes rest e (gap_allowed bytes rest g) (whole_allowed rest later reads whole.tokens whole.is)
whole_allowed text reading (token {bytes = bytes} {rest = rest} {kind = kind} {reading = later} e g k reads w) ts is =
    let moved_whole = whole_from_behind (first_token bytes kind) (moved (length bytes) later) ts (sym w ∙ is) in
    let whole = whole_from_moved (length bytes) later moved_whole.tokens moved_whole.is in
    both_allowed text bytes rest e (spelling_allowed bytes g.spelled) (whole_allowed rest later reads whole.tokens whole.is)
whole_allowed text reading (wide e g k w) ts is = absurd (let f = sym w ∙ is in cc)
whole_allowed text reading (stuck e g w) ts is = absurd (let f = sym w ∙ is in cc)
