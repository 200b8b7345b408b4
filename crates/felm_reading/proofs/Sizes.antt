-- A program's inputs and binders are no more than its tokens.
use Rattle.std.proofs.Common.{ℕ, ◌+◌, ◌≤◌, ◌<◌, List, length, arith}
use Rattle.felm_term.specs.CoreType.{CoreType}
use Rattle.felm_lexer.specs.declared.token.Token.{Token}
use Rattle.felm_syntax.specs.declared.level.Level.{Level}
use Rattle.felm_syntax.specs.Binders.{binders, binders_of_all}
use Rattle.felm_syntax.specs.Expression.{Expression, Expressions}
use Rattle.felm_syntax.specs.Grammar.{TypePhrase, ReadsType, Phrase, Reads, Continues, Applies, ReadsAll, ReadsProgram}
use Rattle.felm_syntax.specs.Grammar as g
use Rattle.felm_reading.specs.Laws.{ProgramSize}
use Rattle.felm_reading.proofs.Declared.{shorter}

type_size : {p : TypePhrase} {ts rest : List Token} {t : CoreType} → ReadsType p ts rest t → length rest < length ts
type_size (g.arrow from _ to) = omega (arith, type_size from, type_size to)
type_size (g.no_arrow d) = type_size d
type_size (g.signal_of _ d) = omega (arith, type_size d)
type_size (g.no_signal d) = type_size d
type_size (g.int_type _) = omega arith
type_size (g.unit_type _) = omega arith
type_size (g.type_brackets _ d _) = omega (arith, type_size d)

mutual
  size : {text : List ℕ} {p : Phrase} {ts rest : List Token} {e : Expression} → Reads text p ts rest e → binders e + length rest ≤ length ts
  size (g.function _ _ _ t _ body) = omega (arith, type_size t, size body)
  size (g.binding _ _ _ bound _ body) = omega (arith, size bound, size body)
  size (g.choice _ c _ a _ b) = omega (arith, size c, size a, size b)
  size (g.plain d) = size d
  size (g.chained first others) = omega (arith, size first, size_on others)
  size (g.compared a _ b) = omega (arith, size a, size b)
  size (g.alone d) = size d
  size (g.negative _ _) = omega arith
  size (g.unsigned_operand d) = size d
  size (g.applied f others) = omega (arith, size f, size_of_arguments others)
  size (g.lift _ f others) = omega (arith, size f, size_of_all others)
  size (g.foldp _ f b s) = omega (arith, size f, size b, size s)
  size (g.async _ s) = omega (arith, size s)
  size (g.name _) = omega arith
  size (g.number _) = omega arith
  size (g.unit _ _) = omega arith
  size (g.brackets _ d _) = omega (arith, size d)

  size_on : {text : List ℕ} {l : Level} {left e : Expression} {ts rest : List Token} → Continues text l left ts rest e →
      binders e + length rest ≤ binders left + length ts
  size_on g.ended = omega arith
  size_on (g.operated _ right others) = omega (arith, size right, size_on others)

  size_of_arguments : {text : List ℕ} {f e : Expression} {ts rest : List Token} → Applies text f ts rest e →
      binders e + length rest ≤ binders f + length ts
  size_of_arguments g.no_argument = omega arith
  size_of_arguments (g.argument a others) = omega (arith, size a, size_of_arguments others)

  size_of_all : {text : List ℕ} {n : ℕ} {ts rest : List Token} {es : Expressions} → ReadsAll text n ts rest es →
      binders_of_all es + length rest ≤ length ts
  size_of_all g.none = omega arith
  size_of_all (g.more a others) = omega (arith, size a, size_of_all others)

pub program_size : ProgramSize
program_size text ts ds main (g.declared {us} {ds = more} d others) = omega (arith, shorter d, program_size text us more main others)
program_size text ts ds main (g.main_is _ _ e) = omega (arith, size e)
