-- How tokens are spelled.
use Rattle.std.specs.Prelude.{◌≡◌, ℕ, ◌^◌, ◌<◌, ◌==◌, ◌&&◌, ◌||◌, Bool, true, false, List, [], ◌∷◌, Option, Some, None, codes, bytes_eq, nat_lt, pos, if◌then◌else◌}
use Rattle.std.specs.List.{list_all}
use Rattle.std.specs.Option.{is_some, is_none, option_map}
use Rattle.std.specs.Map.{lookup}
use Rattle.felm_term.specs.Bytes.{is_letter, is_word_byte}
use Rattle.felm_term.specs.Decimal.{number_of, is_number}
use Rattle.felm_lexer.specs.declared.kind.WordKind.{WordKind}
use Rattle.felm_lexer.specs.declared.kind.WordKind.TheVariants as word
use Rattle.felm_lexer.specs.declared.kind.Symbol.{Symbol}
use Rattle.felm_lexer.specs.declared.kind.Symbol.TheVariants as symbol
use Rattle.felm_lexer.specs.declared.kind.TokenKind.{TokenKind}
use Rattle.felm_lexer.specs.declared.kind.TokenKind.TheVariants as kind

-- the keywords, and behind them the reserved keywords
unfoldable pub keywords : List (List ℕ × WordKind)
keywords =
    (codes "input", word.Input)
    ∷ (codes "main", word.Main)
    ∷ (codes "let", word.Let)
    ∷ (codes "in", word.In)
    ∷ (codes "if", word.If)
    ∷ (codes "then", word.Then)
    ∷ (codes "else", word.Else)
    ∷ (codes "int", word.Int)
    ∷ (codes "unit", word.Unit)
    ∷ (codes "signal", word.Signal)
    ∷ (codes "foldp", word.Foldp)
    ∷ (codes "async", word.Async)
    ∷ (codes "lift1", word.Lift1)
    ∷ (codes "lift2", word.Lift2)
    ∷ (codes "lift3", word.Lift3)
    ∷ (codes "lift4", word.Lift4)
    ∷ (codes "lift5", word.Lift5)
    ∷ (codes "lift6", word.Lift6)
    ∷ (codes "lift7", word.Lift7)
    ∷ (codes "lift8", word.Lift8)
    ∷ (codes "lift9", word.Lift9)
    ∷ (codes "merge", word.Merge)
    ∷ (codes "sampleOn", word.SampleOn)
    ∷ (codes "dropRepeats", word.DropRepeats)
    ∷ (codes "keepIf", word.KeepIf)
    ∷ (codes "output", word.Output)
    ∷ []

-- the symbols
unfoldable pub symbols : List (List ℕ × Symbol)
symbols =
    (codes "\\", symbol.Backslash)
    ∷ (codes ":", symbol.Colon)
    ∷ (codes ".", symbol.Dot)
    ∷ (codes "=", symbol.Equals)
    ∷ (codes "->", symbol.Arrow)
    ∷ (codes "(", symbol.OpenBracket)
    ∷ (codes ")", symbol.CloseBracket)
    ∷ (codes "+", symbol.Plus)
    ∷ (codes "-", symbol.Minus)
    ∷ (codes "*", symbol.Star)
    ∷ (codes "//", symbol.DoubleSlash)
    ∷ (codes "%", symbol.Percent)
    ∷ (codes "==", symbol.DoubleEquals)
    ∷ (codes "/=", symbol.SlashEquals)
    ∷ (codes "<", symbol.Less)
    ∷ (codes "<=", symbol.LessEquals)
    ∷ (codes ">", symbol.Greater)
    ∷ (codes ">=", symbol.GreaterEquals)
    ∷ (codes "&&", symbol.DoubleAmpersand)
    ∷ (codes "||", symbol.DoubleBar)
    ∷ []

-- the keyword with this spelling
unfoldable pub keyword_of : List ℕ → Option WordKind
keyword_of bytes = lookup (bytes_eq bytes) keywords

-- the symbol with this spelling
unfoldable pub symbol_of : List ℕ → Option Symbol
symbol_of bytes = lookup (bytes_eq bytes) symbols

-- a word: a letter, and then letters and digits
abbrev pub is_word : List ℕ → Bool
is_word [] = false
is_word (c ∷ cs) = is_letter c && list_all is_word_byte cs

-- a name: a word that is no keyword
abbrev pub is_name : List ℕ → Bool
is_name bytes = is_word bytes && is_none (keyword_of bytes)

-- a token's spelling: a word, one or more digits of any value, or a symbol
abbrev pub is_spelling : List ℕ → Bool
is_spelling bytes = is_word bytes || is_number bytes || is_some (symbol_of bytes)

-- the kind of a word, given the keyword that it is
abbrev pub word_kind : Option WordKind → TokenKind
word_kind None = kind.Name
word_kind (Some keyword) = kind.Word keyword

-- the kind of a number: Int below 2 ^ 63, Big at 2 ^ 63, and none above
abbrev pub number_kind : ℕ → Option TokenKind
number_kind n =
    if nat_lt n (2 ^ 63) then Some (kind.Int (pos n))
    else (if n == 2 ^ 63 then Some kind.Big else None)

-- the kind of the token with this spelling
unfoldable pub kind_of : List ℕ → Option TokenKind
kind_of bytes =
    if is_word bytes then Some (word_kind (keyword_of bytes))
    else (if is_number bytes then number_kind (number_of bytes)
    else option_map kind.Mark (symbol_of bytes))

-- a number that is too wide to be a token
pub record IsTooWide (bytes : List ℕ) : Type 0 where
  pub number : is_number bytes ≡ true
  pub above : 2 ^ 63 < number_of bytes
