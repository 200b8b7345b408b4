-- What tokens are: symbols, words, numbers, names, operators.
use Rattle.std.specs.Prelude.{ℕ, ◌^◌, Bool, true, false, ◌==◌, ◌&&◌, ℤ, pos, negsuc, Option, Some, None, List, [], ◌∷◌, length, slice_range, nat_le, if◌then◌else◌}
use Rattle.std.proofs.Math.IntN.{neg_ℤ}
use Rattle.std.specs.Map.{lookup}
use Rattle.felm_term.specs.declared.op.Op.{Op}
use Rattle.felm_term.specs.declared.op.Op.TheVariants as op
use Rattle.felm_lexer.specs.Spellings.{is_name}
use Rattle.felm_lexer.specs.declared.kind.Symbol.{Symbol}
use Rattle.felm_lexer.specs.declared.kind.Symbol.TheVariants as symbol
use Rattle.felm_lexer.specs.declared.kind.WordKind.{WordKind}
use Rattle.felm_lexer.specs.declared.kind.WordKind.TheVariants as word
use Rattle.felm_lexer.specs.declared.kind.TokenKind.{TokenKind}
use Rattle.felm_lexer.specs.declared.kind.TokenKind.TheVariants as kind
use Rattle.felm_lexer.specs.declared.token.Token.{Token}
use Rattle.felm_syntax.specs.declared.level.Level.{Level}
use Rattle.felm_syntax.specs.declared.level.Level.TheVariants as level

-- a number for each symbol, by which symbols are told apart
abbrev symbol_number : Symbol → ℕ
symbol_number symbol.Backslash = 0
symbol_number symbol.Colon = 1
symbol_number symbol.Dot = 2
symbol_number symbol.Equals = 3
symbol_number symbol.Arrow = 4
symbol_number symbol.OpenBracket = 5
symbol_number symbol.CloseBracket = 6
symbol_number symbol.Plus = 7
symbol_number symbol.Minus = 8
symbol_number symbol.Star = 9
symbol_number symbol.DoubleSlash = 10
symbol_number symbol.Percent = 11
symbol_number symbol.DoubleEquals = 12
symbol_number symbol.SlashEquals = 13
symbol_number symbol.Less = 14
symbol_number symbol.LessEquals = 15
symbol_number symbol.Greater = 16
symbol_number symbol.GreaterEquals = 17
symbol_number symbol.DoubleAmpersand = 18
symbol_number symbol.DoubleBar = 19

-- a number for each word, by which words are told apart
abbrev word_number : WordKind → ℕ
word_number word.Input = 0
word_number word.Main = 1
word_number word.Let = 2
word_number word.In = 3
word_number word.If = 4
word_number word.Then = 5
word_number word.Else = 6
word_number word.Int = 7
word_number word.Unit = 8
word_number word.Signal = 9
word_number word.Foldp = 10
word_number word.Async = 11
word_number word.Lift1 = 12
word_number word.Lift2 = 13
word_number word.Lift3 = 14
word_number word.Lift4 = 15
word_number word.Lift5 = 16
word_number word.Lift6 = 17
word_number word.Lift7 = 18
word_number word.Lift8 = 19
word_number word.Lift9 = 20
word_number word.Merge = 21
word_number word.SampleOn = 22
word_number word.DropRepeats = 23
word_number word.KeepIf = 24
word_number word.Output = 25

-- whether two symbols are one
abbrev pub same_symbol : Symbol → Symbol → Bool
same_symbol a b = symbol_number a == symbol_number b

-- whether two words are one
abbrev pub same_word : WordKind → WordKind → Bool
same_word a b = word_number a == word_number b

-- the operators that join the parts of a chain of each level
abbrev pub operators : Level → List (Symbol × Op)
operators level.Or = (symbol.DoubleBar, op.Or) ∷ []
operators level.And = (symbol.DoubleAmpersand, op.And) ∷ []
operators level.Sum = (symbol.Plus, op.Add) ∷ (symbol.Minus, op.Sub) ∷ []
operators level.Product = (symbol.Star, op.Mul) ∷ (symbol.DoubleSlash, op.Div) ∷ (symbol.Percent, op.Rem) ∷ []

-- the operators that compare
abbrev pub comparisons : List (Symbol × Op)
comparisons =
    (symbol.DoubleEquals, op.Eq) ∷ (symbol.SlashEquals, op.Ne) ∷ (symbol.Less, op.Lt) ∷ (symbol.LessEquals, op.Le)
    ∷ (symbol.Greater, op.Gt) ∷ (symbol.GreaterEquals, op.Ge) ∷ []

-- how many signals each lift takes
abbrev pub lifts : List (WordKind × ℕ)
lifts =
    (word.Lift1, 1) ∷ (word.Lift2, 2) ∷ (word.Lift3, 3) ∷ (word.Lift4, 4) ∷ (word.Lift5, 5) ∷ (word.Lift6, 6)
    ∷ (word.Lift7, 7) ∷ (word.Lift8, 8) ∷ (word.Lift9, 9) ∷ []

-- whether a kind is this symbol
abbrev pub is_mark : Symbol → TokenKind → Bool
is_mark s (kind.Mark m) = same_symbol m s
is_mark s kind.Name = false
is_mark s (kind.Int n) = false
is_mark s kind.Big = false
is_mark s (kind.Word w) = false

-- whether a kind is this keyword
abbrev pub is_keyword : WordKind → TokenKind → Bool
is_keyword w (kind.Word v) = same_word v w
is_keyword w kind.Name = false
is_keyword w (kind.Int n) = false
is_keyword w kind.Big = false
is_keyword w (kind.Mark m) = false

-- the operator of this level that a kind is
abbrev pub operator : Level → TokenKind → Option Op
operator l (kind.Mark m) = lookup (same_symbol m) (operators l)
operator l kind.Name = None
operator l (kind.Int n) = None
operator l kind.Big = None
operator l (kind.Word w) = None

-- the comparison that a kind is
abbrev pub comparison : TokenKind → Option Op
comparison (kind.Mark m) = lookup (same_symbol m) comparisons
comparison kind.Name = None
comparison (kind.Int n) = None
comparison kind.Big = None
comparison (kind.Word w) = None

-- how many signals the lift takes that a kind is
abbrev pub lift_count : TokenKind → Option ℕ
lift_count (kind.Word w) = lookup (same_word w) lifts
lift_count kind.Name = None
lift_count (kind.Int n) = None
lift_count kind.Big = None
lift_count (kind.Mark m) = None

-- the number that a kind is without a minus sign before it
abbrev pub unsigned_number : TokenKind → Option ℤ
unsigned_number (kind.Int n) = Some n
unsigned_number kind.Name = None
unsigned_number kind.Big = None
unsigned_number (kind.Word w) = None
unsigned_number (kind.Mark m) = None

-- the number that a kind is behind a minus sign; only there may the greatest magnitude stand
abbrev pub negated : TokenKind → Option ℤ
negated (kind.Int (pos n)) = Some (neg_ℤ (pos n))
negated (kind.Int (negsuc n)) = None
negated kind.Big = Some (neg_ℤ (pos (2 ^ 63)))
negated kind.Name = None
negated (kind.Word w) = None
negated (kind.Mark m) = None

-- whether a kind is that of names
abbrev pub is_name_kind : TokenKind → Bool
is_name_kind kind.Name = true
is_name_kind (kind.Int n) = false
is_name_kind kind.Big = false
is_name_kind (kind.Word w) = false
is_name_kind (kind.Mark m) = false

-- the text of a token: its slice of the whole text
abbrev pub text_of : List ℕ → Token → List ℕ
text_of text t = slice_range text t.start t.end

-- whether a token lies within the text, is of the kind of names, and is spelled as one
abbrev pub is_named : List ℕ → Token → Bool
is_named text t = is_name_kind t.kind && nat_le t.start t.end && nat_le t.end (length text) && is_name (text_of text t)

-- the name that a token is
unfoldable pub name_of : List ℕ → Token → Option (List ℕ)
name_of text t = if is_named text t then Some (text_of text t) else None
