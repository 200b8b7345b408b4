-- Types and terms as codes, by which the checker tells values apart.
use Rattle.std.specs.Prelude.{◌≡◌, ℕ, ℤ, pos, negsuc, if◌then◌else◌, ◌==◌, refl}
use Rattle.std.specs.Coded.{Coded, code_by}
use base.Stored.{Gv, gnil, gnum, gcons, num}
use denote.Struct.Codes.{itself}
use Rattle.felm_term.specs.CoreType.{CoreType}
use Rattle.felm_term.specs.CoreType as type
use Rattle.felm_term.specs.CoreTerm.{CoreTerm, CoreTerms}
use Rattle.felm_term.specs.CoreTerm as term
use Rattle.felm_term.specs.declared.op.Op.{Op}
use Rattle.felm_term.specs.declared.op.Op.TheVariants as op

abbrev pub code_type : CoreType → Gv
code_type type.Unit = gnil
code_type type.Int = gnum 0
code_type (type.Arrow a b) = gcons gnil (gcons (code_type a) (code_type b))
code_type (type.Signal a) = gcons (gnum 0) (code_type a)

abbrev pub read_type : Gv → CoreType
read_type gnil = type.Unit
read_type (gnum n) = type.Int
read_type (gcons gnil (gcons a b)) = type.Arrow (read_type a) (read_type b)
read_type (gcons (gnum n) a) = type.Signal (read_type a)
read_type _ = type.Unit

pub read_type-code_type : (t : CoreType) → read_type (code_type t) ≡ t
read_type-code_type type.Unit = refl
read_type-code_type type.Int = refl
read_type-code_type (type.Arrow a b) = λ i. type.Arrow (read_type-code_type a i) (read_type-code_type b i)
read_type-code_type (type.Signal a) = λ i. type.Signal (read_type-code_type a i)

abbrev pub coded_type : Coded CoreType
coded_type = code_by Gv itself code_type read_type read_type-code_type

abbrev pub code_op : Op → Gv
code_op op.Add = gnum 0
code_op op.Sub = gnum 1
code_op op.Mul = gnum 2
code_op op.Div = gnum 3
code_op op.Rem = gnum 4
code_op op.Eq = gnum 5
code_op op.Ne = gnum 6
code_op op.Lt = gnum 7
code_op op.Le = gnum 8
code_op op.Gt = gnum 9
code_op op.Ge = gnum 10
code_op op.And = gnum 11
code_op op.Or = gnum 12

abbrev op_numbered : ℕ → Op
op_numbered n =
    if n == 0 then op.Add else (if n == 1 then op.Sub else (if n == 2 then op.Mul else (if n == 3 then op.Div else (
    if n == 4 then op.Rem else (if n == 5 then op.Eq else (if n == 6 then op.Ne else (if n == 7 then op.Lt else (
    if n == 8 then op.Le else (if n == 9 then op.Gt else (if n == 10 then op.Ge else (if n == 11 then op.And else op.Or)))))))))))

abbrev pub read_op : Gv → Op
read_op g = op_numbered (num g)

pub read_op-code_op : (o : Op) → read_op (code_op o) ≡ o
read_op-code_op op.Add = refl
read_op-code_op op.Sub = refl
read_op-code_op op.Mul = refl
read_op-code_op op.Div = refl
read_op-code_op op.Rem = refl
read_op-code_op op.Eq = refl
read_op-code_op op.Ne = refl
read_op-code_op op.Lt = refl
read_op-code_op op.Le = refl
read_op-code_op op.Gt = refl
read_op-code_op op.Ge = refl
read_op-code_op op.And = refl
read_op-code_op op.Or = refl

abbrev pub code_int : ℤ → Gv
code_int (pos n) = gnum n
code_int (negsuc n) = gcons gnil (gnum n)

abbrev pub read_int : Gv → ℤ
read_int (gcons a (gnum n)) = negsuc n
read_int (gnum n) = pos n
read_int _ = pos 0

pub read_int-code_int : (z : ℤ) → read_int (code_int z) ≡ z
read_int-code_int (pos n) = refl
read_int-code_int (negsuc n) = refl

-- a kind and three parts
abbrev node : ℕ → Gv → Gv → Gv → Gv
node kind a b c = gcons (gnum kind) (gcons a (gcons b c))

abbrev mutual
  code_term : CoreTerm → Gv
  code_term term.Unit = node 0 gnil gnil gnil
  code_term (term.Int n) = node 1 (code_int n) gnil gnil
  code_term (term.Var n) = node 2 (gnum n) gnil gnil
  code_term (term.Lam p b) = node 3 (code_type p) (code_term b) gnil
  code_term (term.App f a) = node 4 gnil (code_term f) (code_term a)
  code_term (term.Bin o a b) = node 5 (code_op o) (code_term a) (code_term b)
  code_term (term.If c a b) = node 6 (code_term c) (code_term a) (code_term b)
  code_term (term.Let a b) = node 7 gnil (code_term a) (code_term b)
  code_term (term.Input n) = node 8 (gnum n) gnil gnil
  code_term (term.Node n) = node 9 (gnum n) gnil gnil
  code_term (term.Lift f ts) = node 10 (code_terms ts) (code_term f) gnil
  code_term (term.Foldp f b s) = node 11 (code_term f) (code_term b) (code_term s)
  code_term (term.Async s) = node 12 gnil (code_term s) gnil

  code_terms : CoreTerms → Gv
  code_terms term.End = gnil
  code_terms (term.More t ts) = gcons (code_term t) (code_terms ts)

-- the parts as they stand, and read as terms
abbrev read_node : ℕ → Gv → CoreTerm → CoreTerms → CoreTerm → CoreTerm → CoreTerm
read_node n g a as' b c =
    if n == 0 then term.Unit else (if n == 1 then term.Int (read_int g) else (if n == 2 then term.Var (num g) else (
    if n == 3 then term.Lam (read_type g) b else (if n == 4 then term.App b c else (if n == 5 then term.Bin (read_op g) b c else (
    if n == 6 then term.If a b c else (if n == 7 then term.Let b c else (if n == 8 then term.Input (num g) else (
    if n == 9 then term.Node (num g) else (if n == 10 then term.Lift b as' else (if n == 11 then term.Foldp a b c else term.Async b)))))))))))

abbrev mutual
  read_term : Gv → CoreTerm
  read_term (gcons k (gcons a (gcons b c))) = read_node (num k) a (read_term a) (read_terms a) (read_term b) (read_term c)
  read_term _ = term.Unit

  read_terms : Gv → CoreTerms
  read_terms (gcons t ts) = term.More (read_term t) (read_terms ts)
  read_terms _ = term.End

mutual
  pub read_term-code_term : (t : CoreTerm) → read_term (code_term t) ≡ t
  read_term-code_term term.Unit = refl
  read_term-code_term (term.Int n) = λ i. term.Int (read_int-code_int n i)
  read_term-code_term (term.Var n) = refl
  read_term-code_term (term.Lam p b) = λ i. term.Lam (read_type-code_type p i) (read_term-code_term b i)
  read_term-code_term (term.App f a) = λ i. term.App (read_term-code_term f i) (read_term-code_term a i)
  read_term-code_term (term.Bin o a b) = λ i. term.Bin (read_op-code_op o i) (read_term-code_term a i) (read_term-code_term b i)
  read_term-code_term (term.If c a b) = λ i. term.If (read_term-code_term c i) (read_term-code_term a i) (read_term-code_term b i)
  read_term-code_term (term.Let a b) = λ i. term.Let (read_term-code_term a i) (read_term-code_term b i)
  read_term-code_term (term.Input n) = refl
  read_term-code_term (term.Node n) = refl
  read_term-code_term (term.Lift f ts) = λ i. term.Lift (read_term-code_term f i) (read_terms-code_terms ts i)
  read_term-code_term (term.Foldp f b s) = λ i. term.Foldp (read_term-code_term f i) (read_term-code_term b i) (read_term-code_term s i)
  read_term-code_term (term.Async s) = λ i. term.Async (read_term-code_term s i)

  pub read_terms-code_terms : (ts : CoreTerms) → read_terms (code_terms ts) ≡ ts
  read_terms-code_terms term.End = refl
  read_terms-code_terms (term.More t ts) = λ i. term.More (read_term-code_term t i) (read_terms-code_terms ts i)

abbrev pub coded_term : Coded CoreTerm
coded_term = code_by Gv itself code_term read_term read_term-code_term

abbrev pub coded_terms : Coded CoreTerms
coded_terms = code_by Gv itself code_terms read_terms read_terms-code_terms
