-- Fronts: the lists of tokens with which a phrase may begin.
--
-- The rules of the grammar stand here by their parts. A front of a phrase is empty, or the whole phrase, or it goes into one
-- of its rules: some whole first parts in order, which may be none, and then a front of the part that stands next. What may
-- be left out or repeated is a part of its own, so any number of whole repeats may stand before that next part.
use Rattle.std.specs.Prelude.{◌≡◌, ℕ, suc, ℤ, List, [], ◌∷◌, Some}
use Rattle.felm_term.specs.CoreType.{CoreType}
use Rattle.felm_term.specs.declared.op.Op.{Op}
use Rattle.felm_term.specs.declared.input.InputDecl.{InputDecl}
use Rattle.felm_lexer.specs.declared.kind.Symbol.{Symbol}
use Rattle.felm_lexer.specs.declared.kind.Symbol.TheVariants as symbol
use Rattle.felm_lexer.specs.declared.kind.WordKind.{WordKind}
use Rattle.felm_lexer.specs.declared.kind.WordKind.TheVariants as word
use Rattle.felm_lexer.specs.declared.token.Token.{Token}
use Rattle.felm_syntax.specs.declared.level.Level.{Level}
use Rattle.felm_syntax.specs.declared.level.Level.TheVariants as level
use Rattle.felm_syntax.specs.Kinds.{operator, comparison, lift_count}
use Rattle.felm_syntax.specs.Expression.{Expression}
use Rattle.felm_syntax.specs.Grammar.{IsMark, IsWord, IsName, IsNumber, IsNegated, TypePhrase, ReadsType, Phrase, part, Reads, ReadsLiteral, ReadsDeclaration}
use Rattle.felm_syntax.specs.Grammar as g

-- the parts of rules
pub data Part : Type 0 where
  -- a token
  mark : Symbol → Part
  word_of : WordKind → Part
  name : Part
  number : Part
  negated : Part
  operator_of : Level → Part
  comparison_sign : Part
  lift_of : ℕ → Part
  -- a phrase
  type : TypePhrase → Part
  phrase : Phrase → Part
  literal : Part
  declaration : Part
  program : Part
  -- what may follow, or may be repeated: an arrow and a type, operators with their right sides, a comparison, arguments
  arrowed : Part
  operations : Level → Part
  comparing : Part
  arguments : Part
  -- the right side of an operator with the operations behind it, and the arguments behind an argument
  right : Level → Part
  others : Part
  -- so many atoms
  atoms : ℕ → Part

-- the token is this part
abbrev pub IsToken : List ℕ → Part → Token → Type 0
IsToken text (mark s) t = IsMark s t
IsToken text (word_of w) t = IsWord w t
IsToken text name t = (x : List ℕ) × IsName text x t
IsToken text number t = (n : ℤ) × IsNumber n t
IsToken text negated t = (n : ℤ) × IsNegated n t
IsToken text (operator_of l) t = (sign : Op) × (operator l t.kind ≡ Some sign)
IsToken text comparison_sign t = (sign : Op) × (comparison t.kind ≡ Some sign)
IsToken text (lift_of n) t = lift_count t.kind ≡ Some n
IsToken text _ t = ⊥

-- whether what stands in a phrase by a rule nests as the phrase does, or deeper by one
pub data Nest : Type 0 where
  along : Nest
  below : Nest

-- The rules, by their parts in order. What stands in an `expr` or a `type` nests deeper, and so does what stands behind an
-- operator of a chain or behind an argument.
pub data Rule : Nest → Part → List Part → Type 0 where
  -- program = { decl } "main" "=" expr
  declared : Rule along program (declaration ∷ program ∷ [])
  main_is : Rule along program (word_of word.Main ∷ mark symbol.Equals ∷ phrase g.expr ∷ [])
  -- decl
  int_input : Rule along declaration (word_of word.Input ∷ name ∷ mark symbol.Colon ∷ word_of word.Int ∷ mark symbol.Equals ∷ literal ∷ [])
  unit_input : Rule along declaration (word_of word.Input ∷ name ∷ mark symbol.Colon ∷ word_of word.Unit ∷ mark symbol.Equals
      ∷ mark symbol.OpenBracket ∷ mark symbol.CloseBracket ∷ [])
  -- literal
  unsigned : Rule along literal (number ∷ [])
  signed : Rule along literal (mark symbol.Minus ∷ negated ∷ [])
  -- expr
  function : Rule below (phrase g.expr) (mark symbol.Backslash ∷ name ∷ mark symbol.Colon ∷ type g.whole ∷ mark symbol.Dot ∷ phrase g.expr ∷ [])
  binding : Rule below (phrase g.expr) (word_of word.Let ∷ name ∷ mark symbol.Equals ∷ phrase g.expr ∷ word_of word.In ∷ phrase g.expr ∷ [])
  choice : Rule below (phrase g.expr) (word_of word.If ∷ phrase g.expr ∷ word_of word.Then ∷ phrase g.expr ∷ word_of word.Else ∷ phrase g.expr ∷ [])
  plain : Rule below (phrase g.expr) (phrase (g.chain level.Or) ∷ [])
  -- or, and, sum, product: a part, and then operators with their right sides
  chained : {l : Level} → Rule along (phrase (g.chain l)) (phrase (part l) ∷ operations l ∷ [])
  operated : {l : Level} → Rule along (operations l) (operator_of l ∷ right l ∷ [])
  right_is : {l : Level} → Rule below (right l) (phrase (part l) ∷ operations l ∷ [])
  -- cmp = sum [ comparison sum ]
  compared : Rule along (phrase g.cmp) (phrase (g.chain level.Sum) ∷ comparing ∷ [])
  compares : Rule along comparing (comparison_sign ∷ phrase (g.chain level.Sum) ∷ [])
  -- operand
  negative : Rule along (phrase g.operand) (mark symbol.Minus ∷ negated ∷ [])
  unsigned_operand : Rule along (phrase g.operand) (phrase g.app ∷ [])
  -- app
  applied : Rule along (phrase g.app) (phrase g.atom ∷ arguments ∷ [])
  argument : Rule along arguments (phrase g.atom ∷ others ∷ [])
  another : Rule below others (phrase g.atom ∷ others ∷ [])
  lift : {n : ℕ} → Rule along (phrase g.app) (lift_of n ∷ phrase g.atom ∷ atoms n ∷ [])
  one_more : {n : ℕ} → Rule along (atoms (suc n)) (phrase g.atom ∷ atoms n ∷ [])
  foldp : Rule along (phrase g.app) (word_of word.Foldp ∷ phrase g.atom ∷ phrase g.atom ∷ phrase g.atom ∷ [])
  async : Rule along (phrase g.app) (word_of word.Async ∷ phrase g.atom ∷ [])
  -- atom
  named : Rule along (phrase g.atom) (name ∷ [])
  numbered : Rule along (phrase g.atom) (number ∷ [])
  unit : Rule along (phrase g.atom) (mark symbol.OpenBracket ∷ mark symbol.CloseBracket ∷ [])
  brackets : Rule along (phrase g.atom) (mark symbol.OpenBracket ∷ phrase g.expr ∷ mark symbol.CloseBracket ∷ [])
  -- type = tapp [ "->" type ]
  arrow : Rule below (type g.whole) (type g.signal ∷ arrowed ∷ [])
  arrow_to : Rule along arrowed (mark symbol.Arrow ∷ type g.whole ∷ [])
  -- tapp
  signal_of : Rule along (type g.signal) (word_of word.Signal ∷ type g.closed ∷ [])
  no_signal : Rule along (type g.signal) (type g.closed ∷ [])
  -- tatom
  int_type : Rule along (type g.closed) (word_of word.Int ∷ [])
  unit_type : Rule along (type g.closed) (word_of word.Unit ∷ [])
  type_brackets : Rule along (type g.closed) (mark symbol.OpenBracket ∷ type g.whole ∷ mark symbol.CloseBracket ∷ [])

-- the tokens begin with the whole part, and the rest follows it
pub data Whole (text : List ℕ) : Part → List Token → List Token → Type 0 where
  whole_token : {p : Part} {t : Token} {rest : List Token} → IsToken text p t → Whole text p (t ∷ rest) rest
  whole_type : {p : TypePhrase} {ts rest : List Token} {ty : CoreType} → ReadsType p ts rest ty → Whole text (type p) ts rest
  whole_phrase : {p : Phrase} {ts rest : List Token} {e : Expression} → Reads text p ts rest e → Whole text (phrase p) ts rest
  whole_literal : {ts rest : List Token} {n : ℤ} → ReadsLiteral ts rest n → Whole text literal ts rest
  whole_declaration : {ts rest : List Token} {d : InputDecl} → ReadsDeclaration text ts rest d → Whole text declaration ts rest

-- The tokens, all of them, are a front of these parts in order: of the first part, or of others behind it.
pub data Fronts (text : List ℕ) : List Part → List Token → Type 0 where
  -- no tokens are a front
  nothing : {ps : List Part} → Fronts text ps []
  -- a front of a rule's parts is one of its phrase
  within : {nest : Nest} {p : Part} {parts ps : List Part} {ts : List Token} →
      Rule nest p parts → Fronts text parts ts → Fronts text (p ∷ ps) ts
  -- a whole part, and then a front of what stands next
  behind : {p : Part} {ps : List Part} {ts us : List Token} →
      Whole text p ts us → Fronts text ps us → Fronts text (p ∷ ps) ts

-- The tokens are a front of a program.
abbrev pub IsFront : List ℕ → List Token → Type 0
IsFront text ts = Fronts text (program ∷ []) ts
