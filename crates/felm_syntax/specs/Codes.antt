-- Expressions as codes, by which the checker tells values apart.
use Rattle.std.specs.Prelude.{◌≡◌, ℕ, List, [], ◌∷◌, if◌then◌else◌, ◌==◌, refl}
use Rattle.std.specs.Coded.{Coded, code_by}
use base.Stored.{Gv, gnil, gnum, gcons, num}
use denote.Struct.Codes.{itself}
use Rattle.felm_term.specs.Codes.{code_type, read_type, read_type-code_type, code_op, read_op, read_op-code_op, code_int, read_int, read_int-code_int}
use Rattle.felm_syntax.specs.Expression.{Expression, Expressions}
use Rattle.felm_syntax.specs.Expression as expression

abbrev code_name : List ℕ → Gv
code_name [] = gnil
code_name (b ∷ bs) = gcons (gnum b) (code_name bs)

abbrev read_name : Gv → List ℕ
read_name (gcons b bs) = num b ∷ read_name bs
read_name _ = []

read_name-code_name : (bytes : List ℕ) → read_name (code_name bytes) ≡ bytes
read_name-code_name [] = refl
read_name-code_name (b ∷ bs) = λ i. b ∷ read_name-code_name bs i

-- a kind, a place and four parts
abbrev node : ℕ → ℕ → Gv → Gv → Gv → Gv → Gv
node kind at a b c d = gcons (gnum kind) (gcons (gnum at) (gcons a (gcons b (gcons c d))))

abbrev mutual
  code_expression : Expression → Gv
  code_expression (expression.Unit p) = node 0 p gnil gnil gnil gnil
  code_expression (expression.Int a p) = node 1 p (code_int a) gnil gnil gnil
  code_expression (expression.Name a p) = node 2 p (code_name a) gnil gnil gnil
  code_expression (expression.Lam a b c d p) = node 3 p (code_name a) (code_type b) (gnum c) (code_expression d)
  code_expression (expression.App a b p) = node 4 p (code_expression a) (code_expression b) gnil gnil
  code_expression (expression.Bin a b c p) = node 5 p (code_op a) (code_expression b) (code_expression c) gnil
  code_expression (expression.If a b c p) = node 6 p (code_expression a) (code_expression b) (code_expression c) gnil
  code_expression (expression.Let a b c p) = node 7 p (code_name a) (code_expression b) (code_expression c) gnil
  code_expression (expression.Lift a b p) = node 8 p (code_expression a) gnil gnil (code_expressions b)
  code_expression (expression.Foldp a b c p) = node 9 p (code_expression a) (code_expression b) (code_expression c) gnil
  code_expression (expression.Async a p) = node 10 p (code_expression a) gnil gnil gnil

  code_expressions : Expressions → Gv
  code_expressions expression.End = gnil
  code_expressions (expression.More t ts) = gcons (code_expression t) (code_expressions ts)

-- the parts as they stand, and read as expressions
abbrev read_node : ℕ → ℕ → Gv → Gv → Gv → Gv → Expression → Expression → Expression → Expression → Expressions → Expression
read_node k p g1 g2 g3 g4 a b c d ds =
    if k == 0 then expression.Unit p else (
    if k == 1 then expression.Int (read_int g1) p else (
    if k == 2 then expression.Name (read_name g1) p else (
    if k == 3 then expression.Lam (read_name g1) (read_type g2) (num g3) d p else (
    if k == 4 then expression.App a b p else (
    if k == 5 then expression.Bin (read_op g1) b c p else (
    if k == 6 then expression.If a b c p else (
    if k == 7 then expression.Let (read_name g1) b c p else (
    if k == 8 then expression.Lift a ds p else (
    if k == 9 then expression.Foldp a b c p else (
    expression.Async a p))))))))))

abbrev mutual
  read_expression : Gv → Expression
  read_expression (gcons k (gcons p (gcons a (gcons b (gcons c d))))) = read_node (num k) (num p) a b c d (read_expression a) (read_expression b) (read_expression c) (read_expression d) (read_expressions d)
  read_expression _ = expression.Unit 0

  read_expressions : Gv → Expressions
  read_expressions (gcons t ts) = expression.More (read_expression t) (read_expressions ts)
  read_expressions _ = expression.End

mutual
  pub read_expression-code_expression : (t : Expression) → read_expression (code_expression t) ≡ t
  read_expression-code_expression (expression.Unit p) = refl
  read_expression-code_expression (expression.Int a p) = λ i. expression.Int (read_int-code_int a i) p
  read_expression-code_expression (expression.Name a p) = λ i. expression.Name (read_name-code_name a i) p
  read_expression-code_expression (expression.Lam a b c d p) = λ i. expression.Lam (read_name-code_name a i) (read_type-code_type b i) c (read_expression-code_expression d i) p
  read_expression-code_expression (expression.App a b p) = λ i. expression.App (read_expression-code_expression a i) (read_expression-code_expression b i) p
  read_expression-code_expression (expression.Bin a b c p) = λ i. expression.Bin (read_op-code_op a i) (read_expression-code_expression b i) (read_expression-code_expression c i) p
  read_expression-code_expression (expression.If a b c p) = λ i. expression.If (read_expression-code_expression a i) (read_expression-code_expression b i) (read_expression-code_expression c i) p
  read_expression-code_expression (expression.Let a b c p) = λ i. expression.Let (read_name-code_name a i) (read_expression-code_expression b i) (read_expression-code_expression c i) p
  read_expression-code_expression (expression.Lift a b p) = λ i. expression.Lift (read_expression-code_expression a i) (read_expressions-code_expressions b i) p
  read_expression-code_expression (expression.Foldp a b c p) = λ i. expression.Foldp (read_expression-code_expression a i) (read_expression-code_expression b i) (read_expression-code_expression c i) p
  read_expression-code_expression (expression.Async a p) = λ i. expression.Async (read_expression-code_expression a i) p

  pub read_expressions-code_expressions : (ts : Expressions) → read_expressions (code_expressions ts) ≡ ts
  read_expressions-code_expressions expression.End = refl
  read_expressions-code_expressions (expression.More t ts) = λ i. expression.More (read_expression-code_expression t i) (read_expressions-code_expressions ts i)

abbrev pub coded_expression : Coded Expression
coded_expression = code_by Gv itself code_expression read_expression read_expression-code_expression

abbrev pub coded_expressions : Coded Expressions
coded_expressions = code_by Gv itself code_expressions read_expressions read_expressions-code_expressions
