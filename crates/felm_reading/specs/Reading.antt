-- Reading from left to right, with the first fault that is met.
--
-- The room is how many levels of nesting are left: each inner expression and type takes one, and so does each operator of a chain
-- and each argument behind the first one. A token for which there is no room is refused for its nesting.
use Rattle.std.specs.Prelude.{ℕ, zero, suc, ℤ, pos, Bool, true, false, ◌||◌, List, [], ◌∷◌, ◌++◌, drop, length, bytes_eq, Option, Some, None, Result, Ok, Err, if◌then◌else◌}
use Rattle.std.specs.List.{list_any}
use Rattle.felm_term.specs.CoreType.{CoreType}
use Rattle.felm_term.specs.CoreType as type
use Rattle.felm_term.specs.Inputs.{names_of}
use Rattle.felm_term.specs.declared.op.Op.{Op}
use Rattle.felm_term.specs.declared.input.InputDecl.{InputDecl}
use Rattle.felm_term.specs.declared.input.InputTy.TheVariants as input
use Rattle.felm_lexer.specs.declared.kind.Symbol.{Symbol}
use Rattle.felm_lexer.specs.declared.kind.Symbol.TheVariants as symbol
use Rattle.felm_lexer.specs.declared.kind.WordKind.{WordKind}
use Rattle.felm_lexer.specs.declared.kind.WordKind.TheVariants as word
use Rattle.felm_lexer.specs.declared.kind.TokenKind.{TokenKind}
use Rattle.felm_lexer.specs.declared.kind.TokenKind.TheVariants as kind
use Rattle.felm_lexer.specs.declared.token.Token.{Token}
use Rattle.felm_syntax.specs.declared.level.Level.{Level}
use Rattle.felm_syntax.specs.declared.level.Level.TheVariants as level
use Rattle.felm_syntax.specs.FirstFaults.{Fault, Syntax, Depth, Twice}
use Rattle.felm_syntax.specs.Kinds.{is_mark, is_keyword, operator, comparison, lift_count, unsigned_number, negated, name_of}
use Rattle.felm_syntax.specs.Expression.{Expression, Expressions}
use Rattle.felm_syntax.specs.Expression as expression

-- what is read after something was, if it was
infixl 10 ◌>>=◌
abbrev pub ◌>>=◌ : {A B : Type 0} → Result A Fault → (A → Result B Fault) → Result B Fault
(Ok x) >>= f = f x
(Err e) >>= f = Err e

-- something read, and the tokens behind it
abbrev pub Answer : Type 0 → Type 0
Answer A = Result (A × List Token) Fault

-- the first token's place, or where the text stops
abbrev pub place : List ℕ → List Token → ℕ
place text [] = length text
place text (t ∷ _) = t.start

-- whether the first token is this symbol
abbrev pub has_mark : Symbol → List Token → Bool
has_mark s [] = false
has_mark s (t ∷ _) = is_mark s t.kind

-- whether the first token is this keyword
abbrev pub has_word : WordKind → List Token → Bool
has_word w [] = false
has_word w (t ∷ _) = is_keyword w t.kind

-- the first tokens of an atom, an operand, an expression and a type
abbrev pub kind_starts_atom : TokenKind → Bool
kind_starts_atom kind.Name = true
kind_starts_atom (kind.Int _) = true
kind_starts_atom kind.Big = false
kind_starts_atom (kind.Word _) = false
kind_starts_atom (kind.Mark m) = is_mark symbol.OpenBracket (kind.Mark m)

abbrev pub starts_atom : List Token → Bool
starts_atom [] = false
starts_atom (t ∷ _) = kind_starts_atom t.kind

-- how many signals the lift takes that stands first
abbrev pub lift_at : List Token → Option ℕ
lift_at [] = None
lift_at (t ∷ _) = lift_count t.kind

abbrev pub is_some : {A : Type 0} → Option A → Bool
is_some (Some _) = true
is_some None = false

abbrev pub starts_operand : List Token → Bool
starts_operand ts = starts_atom ts || has_mark symbol.Minus ts || has_word word.Foldp ts || has_word word.Async ts || is_some (lift_at ts)

abbrev pub starts_expr : List Token → Bool
starts_expr ts = starts_operand ts || has_mark symbol.Backslash ts || has_word word.Let ts || has_word word.If ts

abbrev pub starts_type : List Token → Bool
starts_type ts = has_word word.Int ts || has_word word.Unit ts || has_word word.Signal ts || has_mark symbol.OpenBracket ts

-- A token for which there is no room left is refused for its nesting, if it may stand there.
abbrev pub refused : List ℕ → Bool → List Token → Fault
refused text true ts = Depth (place text ts)
refused text false ts = Syntax (place text ts)

-- the tokens behind this symbol
unfoldable pub expect : List ℕ → Symbol → List Token → Result (List Token) Fault
expect text s ts = if has_mark s ts then Ok (drop 1 ts) else Err (Syntax (place text ts))

-- the tokens behind this keyword
unfoldable pub expect_word : List ℕ → WordKind → List Token → Result (List Token) Fault
expect_word text w ts = if has_word w ts then Ok (drop 1 ts) else Err (Syntax (place text ts))

-- a name
unfoldable pub name : List ℕ → List Token → Answer (List ℕ)
name text [] = Err (Syntax (length text))
name text (t ∷ ts) = elim (name_of text t) [ Some x ↦ Ok (x, ts) | None ↦ Err (Syntax t.start) ]

-- one token that is a number, by this test
unfoldable pub numeral : (TokenKind → Option ℤ) → List ℕ → List Token → Answer ℤ
numeral test text [] = Err (Syntax (length text))
numeral test text (t ∷ ts) = elim (test t.kind) [ Some n ↦ Ok (n, ts) | None ↦ Err (Syntax t.start) ]

-- types, by how to read one that nests deeper
unfoldable pub closed_type : List ℕ → (List Token → Answer CoreType) → List Token → Answer CoreType
closed_type text inner ts =
    if has_word word.Int ts then Ok (type.Int, drop 1 ts) else (
    if has_word word.Unit ts then Ok (type.Unit, drop 1 ts) else (
    if has_mark symbol.OpenBracket ts then (do
      t ← inner (drop 1 ts)
      rest ← expect text symbol.CloseBracket t.1
      Ok (t.0, rest)) else Err (Syntax (place text ts))))

unfoldable pub signal_type : List ℕ → (List Token → Answer CoreType) → List Token → Answer CoreType
signal_type text inner ts =
    if has_word word.Signal ts then (do
      t ← closed_type text inner (drop 1 ts)
      Ok (type.Signal t.0, t.1)) else closed_type text inner ts

unfoldable pub whole_type : List ℕ → (List Token → Answer CoreType) → List Token → Answer CoreType
whole_type text inner ts = do
  from ← signal_type text inner ts
  if has_mark symbol.Arrow from.1 then (do
    to ← inner (drop 1 from.1)
    Ok (type.Arrow from.0 to.0, to.1)) else Ok from

-- A type with so much room, in which the first token nests deeper by one.
unfoldable pub type_in : List ℕ → ℕ → List Token → Answer CoreType
type_in text zero ts = Err (refused text (starts_type ts) ts)
type_in text (suc room) ts = whole_type text (type_in text room) ts

-- what is read with the tokens nesting deeper by one
pub data Deeper : Type 0 where
  -- an expression
  Whole : Deeper
  -- the part behind an operator, and how the chain goes on
  Right : (l : Level) (sign : Op) (at : ℕ) (left : Expression) → Deeper
  -- the arguments behind the first one
  Arguments : (function : Expression) → Deeper

-- how to read what nests deeper
abbrev pub Reader : Type 0
Reader = Deeper → List Token → Answer Expression

-- what stands behind an opening bracket
unfoldable pub bracketed : List ℕ → Reader → ℕ → List Token → Answer Expression
bracketed text inner at ts =
    if has_mark symbol.CloseBracket ts then Ok (expression.Unit at, drop 1 ts) else (do
      e ← inner Whole ts
      rest ← expect text symbol.CloseBracket e.1
      Ok (e.0, rest))

unfoldable pub atom : List ℕ → Reader → List Token → Answer Expression
atom text inner [] = Err (Syntax (length text))
atom text inner (t ∷ ts) = elim t.kind [
  | kind.Name ↦ elim (name_of text t) [ Some x ↦ Ok (expression.Name x t.start, ts) | None ↦ Err (Syntax t.start) ]
  | kind.Int n ↦ Ok (expression.Int n t.start, ts)
  | kind.Big ↦ Err (Syntax t.start)
  | kind.Word _ ↦ Err (Syntax t.start)
  | kind.Mark m ↦ (if is_mark symbol.OpenBracket (kind.Mark m) then bracketed text inner t.start ts else Err (Syntax t.start))
]

unfoldable pub atoms : List ℕ → Reader → ℕ → List Token → Answer Expressions
atoms text inner zero ts = Ok (expression.End, ts)
atoms text inner (suc n) ts = do
  a ← atom text inner ts
  others ← atoms text inner n a.1
  Ok (expression.More a.0 others.0, others.1)

-- the arguments of a function
unfoldable pub applies : List ℕ → Reader → Expression → List Token → Answer Expression
applies text inner f ts =
    if starts_atom ts then (do
      a ← atom text inner ts
      inner (Arguments (expression.App f a.0 (place text ts))) a.1) else Ok (f, ts)

unfoldable pub lift : List ℕ → Reader → ℕ → List Token → Answer Expression
lift text inner n ts = do
  f ← atom text inner (drop 1 ts)
  others ← atoms text inner n f.1
  Ok (expression.Lift f.0 others.0 (place text ts), others.1)

unfoldable pub foldp : List ℕ → Reader → List Token → Answer Expression
foldp text inner ts = do
  f ← atom text inner (drop 1 ts)
  b ← atom text inner f.1
  s ← atom text inner b.1
  Ok (expression.Foldp f.0 b.0 s.0 (place text ts), s.1)

unfoldable pub async_of : List ℕ → Reader → List Token → Answer Expression
async_of text inner ts = do
  s ← atom text inner (drop 1 ts)
  Ok (expression.Async s.0 (place text ts), s.1)

unfoldable pub applied : List ℕ → Reader → List Token → Answer Expression
applied text inner ts = do
  f ← atom text inner ts
  applies text inner f.0 f.1

unfoldable pub negative : List ℕ → List Token → Answer Expression
negative text ts = do
  n ← numeral negated text (drop 1 ts)
  Ok (expression.Int n.0 (place text ts), n.1)

unfoldable pub operand : List ℕ → Reader → List Token → Answer Expression
operand text inner ts =
    if has_mark symbol.Minus ts then negative text ts else (
    if has_word word.Foldp ts then foldp text inner ts else (
    if has_word word.Async ts then async_of text inner ts else
    elim (lift_at ts) [ Some n ↦ lift text inner n ts | None ↦ applied text inner ts ]))

-- the operator of a level, or the comparison, that stands first
abbrev pub operator_at : Level → List Token → Option Op
operator_at l [] = None
operator_at l (t ∷ _) = operator l t.kind

abbrev pub comparison_at : List Token → Option Op
comparison_at [] = None
comparison_at (t ∷ _) = comparison t.kind

-- how a chain goes on
unfoldable pub continues : List ℕ → Reader → Level → Expression → List Token → Answer Expression
continues text inner l left ts =
    elim (operator_at l ts) [ Some sign ↦ inner (Right l sign (place text ts) left) (drop 1 ts) | None ↦ Ok (left, ts) ]

unfoldable pub product : List ℕ → Reader → List Token → Answer Expression
product text inner ts = do
  a ← operand text inner ts
  continues text inner level.Product a.0 a.1

unfoldable pub sum : List ℕ → Reader → List Token → Answer Expression
sum text inner ts = do
  a ← product text inner ts
  continues text inner level.Sum a.0 a.1

unfoldable pub compared : List ℕ → Reader → Expression → List Token → Answer Expression
compared text inner left ts =
    elim (comparison_at ts) [
      | Some sign ↦ (do
        b ← sum text inner (drop 1 ts)
        Ok (expression.Bin sign left b.0 (place text ts), b.1))
      | None ↦ Ok (left, ts)
    ]

unfoldable pub cmp : List ℕ → Reader → List Token → Answer Expression
cmp text inner ts = do
  a ← sum text inner ts
  compared text inner a.0 a.1

unfoldable pub conjunction : List ℕ → Reader → List Token → Answer Expression
conjunction text inner ts = do
  a ← cmp text inner ts
  continues text inner level.And a.0 a.1

unfoldable pub disjunction : List ℕ → Reader → List Token → Answer Expression
disjunction text inner ts = do
  a ← conjunction text inner ts
  continues text inner level.Or a.0 a.1

-- the part of a chain
unfoldable pub part_of : List ℕ → Reader → Level → List Token → Answer Expression
part_of text inner level.Or ts = conjunction text inner ts
part_of text inner level.And ts = cmp text inner ts
part_of text inner level.Sum ts = product text inner ts
part_of text inner level.Product ts = operand text inner ts

-- a chain
unfoldable pub chained : List ℕ → Reader → Level → List Token → Answer Expression
chained text inner level.Or ts = disjunction text inner ts
chained text inner level.And ts = conjunction text inner ts
chained text inner level.Sum ts = sum text inner ts
chained text inner level.Product ts = product text inner ts

unfoldable pub function : List ℕ → Reader → (List Token → Answer CoreType) → List Token → Answer Expression
function text inner types ts = do
  x ← name text (drop 1 ts)
  us ← expect text symbol.Colon x.1
  t ← types us
  vs ← expect text symbol.Dot t.1
  body ← inner Whole vs
  Ok (expression.Lam x.0 t.0 (place text us) body.0 (place text ts), body.1)

unfoldable pub binding : List ℕ → Reader → List Token → Answer Expression
binding text inner ts = do
  x ← name text (drop 1 ts)
  us ← expect text symbol.Equals x.1
  bound ← inner Whole us
  vs ← expect_word text word.In bound.1
  body ← inner Whole vs
  Ok (expression.Let x.0 bound.0 body.0 (place text ts), body.1)

unfoldable pub choice : List ℕ → Reader → List Token → Answer Expression
choice text inner ts = do
  condition ← inner Whole (drop 1 ts)
  us ← expect_word text word.Then condition.1
  first ← inner Whole us
  vs ← expect_word text word.Else first.1
  second ← inner Whole vs
  Ok (expression.If condition.0 first.0 second.0 (place text ts), second.1)

unfoldable pub expr : List ℕ → Reader → (List Token → Answer CoreType) → List Token → Answer Expression
expr text inner types ts =
    if has_mark symbol.Backslash ts then function text inner types ts else (
    if has_word word.Let ts then binding text inner ts else (
    if has_word word.If ts then choice text inner ts else disjunction text inner ts))

-- What is read with so much room.
unfoldable pub reads_in : List ℕ → ℕ → Deeper → List Token → Answer Expression
reads_in text zero Whole ts = Err (refused text (starts_expr ts) ts)
reads_in text zero (Right l sign at left) ts = Err (refused text (starts_operand ts) ts)
reads_in text zero (Arguments f) ts = if starts_atom ts then Err (Depth (place text ts)) else Ok (f, ts)
reads_in text (suc room) Whole ts = expr text (reads_in text room) (type_in text room) ts
reads_in text (suc room) (Right l sign at left) ts = do
  b ← part_of text (reads_in text room) l ts
  continues text (reads_in text room) l (expression.Bin sign left b.0 at) b.1
reads_in text (suc room) (Arguments f) ts = applies text (reads_in text room) f ts

-- all of the tokens
unfoldable pub all_of : List ℕ → ℕ → List Token → Result Expression Fault
all_of text room ts = do
  e ← reads_in text room Whole ts
  elim e.1 [ [] ↦ Ok e.0 | t ∷ _ ↦ Err (Syntax t.start) ]

-- a literal of a number
unfoldable pub literal : List ℕ → List Token → Answer ℤ
literal text ts = if has_mark symbol.Minus ts then numeral negated text (drop 1 ts) else numeral unsigned_number text ts

-- a name that none of these inputs has
unfoldable pub new_name : List ℕ → List InputDecl → List Token → Answer (List ℕ)
new_name text seen ts = do
  x ← name text ts
  if list_any (bytes_eq x.0) (names_of seen) then Err (Twice (place text ts)) else Ok x

unfoldable pub int_input : List ℕ → List ℕ → List Token → Answer InputDecl
int_input text x ts = do
  us ← expect text symbol.Equals (drop 1 ts)
  n ← literal text us
  Ok (record { name = x; ty = input.Int; default = n.0 }, n.1)

unfoldable pub unit_input : List ℕ → List ℕ → List Token → Answer InputDecl
unit_input text x ts = do
  us ← expect text symbol.Equals (drop 1 ts)
  vs ← expect text symbol.OpenBracket us
  ws ← expect text symbol.CloseBracket vs
  Ok (record { name = x; ty = input.Unit; default = pos 0 }, ws)

-- what is declared of a name, behind the colon
unfoldable pub described : List ℕ → List ℕ → List Token → Answer InputDecl
described text x ts =
    if has_word word.Int ts then int_input text x ts else (
    if has_word word.Unit ts then unit_input text x ts else Err (Syntax (place text ts)))

-- a declaration, after these
unfoldable pub declaration : List ℕ → List InputDecl → List Token → Answer InputDecl
declaration text seen ts = do
  x ← new_name text seen (drop 1 ts)
  us ← expect text symbol.Colon x.1
  described text x.0 us

-- the expression of `main`, to the end of the tokens
unfoldable pub main_of : List ℕ → ℕ → List Token → Result Expression Fault
main_of text room ts = do
  us ← expect_word text word.Main ts
  vs ← expect text symbol.Equals us
  all_of text room vs

-- a program after these declarations, with at most so many more
unfoldable pub program_in : List ℕ → ℕ → ℕ → List InputDecl → List Token → Result (List InputDecl × Expression) Fault
program_in text room zero seen ts = do
  main ← main_of text room ts
  Ok (seen, main)
program_in text room (suc more) seen ts =
    if has_word word.Input ts then (do
      d ← declaration text seen ts
      program_in text room more (seen ++ d.0 ∷ []) d.1)
    else (do
      main ← main_of text room ts
      Ok (seen, main))

-- a program after these declarations: there are no more of them than tokens
unfoldable pub program_after : List ℕ → ℕ → List InputDecl → List Token → Result (List InputDecl × Expression) Fault
program_after text room seen ts = program_in text room (length ts) seen ts
