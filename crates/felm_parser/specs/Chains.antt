-- A chain at any level.
use Rattle.std.specs.Prelude.{ℕ, List}
use Rattle.felm_syntax.specs.Expression.{Expression}
use Rattle.felm_lexer.specs.declared.token.Token.{Token}
use Rattle.felm_syntax.specs.declared.level.Level.{Level}
use Rattle.felm_reading.specs.Reading.{◌>>=◌, Answer, Reader, part_of, continues}

-- a part, and how the chain goes on behind it
abbrev pub chain_of : List ℕ → Reader → Level → List Token → Answer Expression
chain_of text inner l ts = part_of text inner l ts >>= λ a. continues text inner l a.0 a.1
