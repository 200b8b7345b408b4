-- How tightly a token would bind to a phrase before it.
use Rattle.std.specs.Prelude.{ℕ, List, [], ◌∷◌}
use Rattle.felm_lexer.specs.declared.kind.Symbol.{Symbol}
use Rattle.felm_lexer.specs.declared.kind.Symbol.TheVariants as symbol
use Rattle.felm_lexer.specs.declared.kind.TokenKind.{TokenKind}
use Rattle.felm_lexer.specs.declared.kind.TokenKind.TheVariants as kind
use Rattle.felm_lexer.specs.declared.token.Token.{Token}
use Rattle.felm_syntax.specs.declared.level.Level.{Level}
use Rattle.felm_syntax.specs.declared.level.Level.TheVariants as level
use Rattle.felm_syntax.specs.Grammar.{Phrase}
use Rattle.felm_syntax.specs.Grammar as g

abbrev pub symbol_rank : Symbol → ℕ
symbol_rank symbol.OpenBracket = 6
symbol_rank symbol.Star = 5
symbol_rank symbol.DoubleSlash = 5
symbol_rank symbol.Percent = 5
symbol_rank symbol.Plus = 4
symbol_rank symbol.Minus = 4
symbol_rank symbol.DoubleEquals = 3
symbol_rank symbol.SlashEquals = 3
symbol_rank symbol.Less = 3
symbol_rank symbol.LessEquals = 3
symbol_rank symbol.Greater = 3
symbol_rank symbol.GreaterEquals = 3
symbol_rank symbol.DoubleAmpersand = 2
symbol_rank symbol.DoubleBar = 1
symbol_rank _ = 0

abbrev pub kind_rank : TokenKind → ℕ
kind_rank kind.Name = 6
kind_rank (kind.Int _) = 6
kind_rank kind.Big = 0
kind_rank (kind.Word _) = 0
kind_rank (kind.Mark m) = symbol_rank m

abbrev pub rank : List Token → ℕ
rank [] = 0
rank (t ∷ _) = kind_rank t.kind

abbrev pub level_rank : Level → ℕ
level_rank level.Or = 1
level_rank level.And = 2
level_rank level.Sum = 4
level_rank level.Product = 5

-- Tokens of a smaller rank end the phrase.
abbrev pub power : Phrase → ℕ
power g.expr = 1
power (g.chain l) = level_rank l
power g.cmp = 3
power g.operand = 6
power g.app = 6
power g.atom = 7
