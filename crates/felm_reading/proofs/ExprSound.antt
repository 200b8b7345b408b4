-- What is read as an expression is one by the grammar.
use Rattle.std.proofs.Common.{◌≡◌, ℕ, zero, suc, refl, inl, inr, List, [], ◌∷◌, drop, ◌∙◌, true}
use Rattle.std.specs.Prelude.{ℤ, Ok, Err, Option, Some, None, if◌then◌else◌}
use Rattle.felm_syntax.specs.Kinds.{is_mark, negated, name_of}
use Rattle.felm_term.specs.CoreType.{CoreType}
use Rattle.felm_syntax.specs.Expression.{Expression, Expressions}
use Rattle.felm_syntax.specs.Expression as expression
use Rattle.felm_lexer.specs.declared.kind.Symbol.TheVariants as symbol
use Rattle.felm_lexer.specs.declared.kind.WordKind.TheVariants as word
use Rattle.felm_lexer.specs.declared.kind.TokenKind.TheVariants as kind
use Rattle.felm_lexer.specs.declared.token.Token.{Token}
use Rattle.felm_syntax.specs.declared.level.Level.{Level}
use Rattle.felm_syntax.specs.declared.level.Level.TheVariants as level
use Rattle.felm_term.specs.declared.op.Op.{Op}
use Rattle.felm_lexer.specs.declared.kind.TokenKind.{TokenKind}
use Rattle.felm_syntax.specs.Grammar.{TypePhrase, Phrase, part, ReadsType, Reads, Continues, Applies, ReadsAll}
use Rattle.felm_syntax.specs.Grammar as g
use Rattle.felm_syntax.specs.FirstFaults.{Syntax}
use Rattle.felm_reading.specs.Reading.{◌>>=◌, Answer, Reader, Deeper, Whole, Right, Arguments, place, has_mark, has_word, starts_atom, operator_at, comparison_at, lift_at, expect, expect_word, name, type_in, atom, bracketed, atoms, applies, applied, lift, foldp, async_of, numeral, negative, operand, continues, product, sum, compared, cmp, conjunction, disjunction, part_of, function, binding, choice, expr, reads_in}
use Rattle.felm_reading.proofs.Tokens.{Took, took, TookName, took_name, TookNumber, took_number, mark-is, mark_took, word_took, expect_took, expect_word_took, name_took, numeral_took, chosen, bind_ok, ok_move, no_ok}
use Rattle.felm_reading.proofs.TypeSound.{AreTypes, types_sound}

abbrev pub Read : Type 0
Read = Expression × List Token

-- what an answer about tokens that nest deeper means
abbrev pub Means : List ℕ → Deeper → List Token → Read → Type 0
Means text Whole ts x = Reads text g.expr ts x.1 x.0
Means text (Right l sign at left) ts x =
    (right : Read) × Reads text (part l) ts right.1 right.0 × Continues text l (expression.Bin sign left right.0 at) right.1 x.1 x.0
Means text (Arguments f) ts x = Applies text f ts x.1 x.0

abbrev pub IsSound : List ℕ → Reader → Type 0
IsSound text inner = (d : Deeper) (ts : List Token) (x : Read) → inner d ts ≡ Ok x → Means text d ts x

-- the tokens aren't empty
data Some_tokens : List Token → Type 0 where
  some : {t : Token} {ts : List Token} → Some_tokens (t ∷ ts)

atom_some : {text : List ℕ} {ts rest : List Token} {e : Expression} → Reads text g.atom ts rest e → Some_tokens ts
atom_some (g.name _) = some
atom_some (g.number _) = some
atom_some (g.unit _ _) = some
atom_some (g.brackets _ _ _) = some

type_some : {p : TypePhrase} {ts rest : List Token} {t : CoreType} → ReadsType p ts rest t → Some_tokens ts
type_some (g.arrow f _ _) = type_some f
type_some (g.no_arrow d) = type_some d
type_some (g.signal_of _ _) = some
type_some (g.no_signal d) = type_some d
type_some (g.int_type _) = some
type_some (g.unit_type _) = some
type_some (g.type_brackets _ _ _) = some

-- the rules, over tokens that were taken
unit_of : {text : List ℕ} {o : Token} {us rest : List Token} → o.kind ≡ kind.Mark symbol.OpenBracket → Took (kind.Mark symbol.CloseBracket) us rest → Reads text g.atom (o ∷ us) rest (expression.Unit o.start)
unit_of ho (took hc) = g.unit ho hc

brackets_of : {text : List ℕ} {o : Token} {us vs rest : List Token} {e : Expression} → o.kind ≡ kind.Mark symbol.OpenBracket → Reads text g.expr us vs e → Took (kind.Mark symbol.CloseBracket) vs rest →
    Reads text g.atom (o ∷ us) rest e
brackets_of ho d (took hc) = g.brackets ho d hc

argument_of : (text : List ℕ) {ts us rest : List Token} {f a e : Expression} → Some_tokens ts → Reads text g.atom ts us a →
    Applies text (expression.App f a (place text ts)) us rest e → Applies text f ts rest e
argument_of text some d others = g.argument d others

foldp_of : (text : List ℕ) {ts us vs ws rest : List Token} {f b s : Expression} → Took (kind.Word word.Foldp) ts us →
    Reads text g.atom us vs f → Reads text g.atom vs ws b → Reads text g.atom ws rest s → Reads text g.app ts rest (expression.Foldp f b s (place text ts))
foldp_of text (took h) f b s = g.foldp h f b s

async_of_word : (text : List ℕ) {ts us rest : List Token} {s : Expression} → Took (kind.Word word.Async) ts us → Reads text g.atom us rest s → Reads text g.app ts rest (expression.Async s (place text ts))
async_of_word text (took h) s = g.async h s

function_of : (text : List ℕ) {ts us vs ws xs ys rest : List Token} {x : List ℕ} {ty : CoreType} {body : Expression} →
    Took (kind.Mark symbol.Backslash) ts us → TookName text x us vs → Took (kind.Mark symbol.Colon) vs ws → Some_tokens ws →
    ReadsType g.whole ws xs ty → Took (kind.Mark symbol.Dot) xs ys → Reads text g.expr ys rest body →
    Reads text g.expr ts rest (expression.Lam x ty (place text ws) body (place text ts))
function_of text (took a) (took_name b) (took c) some t (took d) body = g.function a b c t d body

binding_of : (text : List ℕ) {ts us vs ws xs ys rest : List Token} {x : List ℕ} {bound body : Expression} →
    Took (kind.Word word.Let) ts us → TookName text x us vs → Took (kind.Mark symbol.Equals) vs ws → Reads text g.expr ws xs bound →
    Took (kind.Word word.In) xs ys → Reads text g.expr ys rest body → Reads text g.expr ts rest (expression.Let x bound body (place text ts))
binding_of text (took a) (took_name b) (took c) bound (took d) body = g.binding a b c bound d body

choice_of : (text : List ℕ) {ts us vs ws xs ys rest : List Token} {c y n : Expression} →
    Took (kind.Word word.If) ts us → Reads text g.expr us vs c → Took (kind.Word word.Then) vs ws → Reads text g.expr ws xs y →
    Took (kind.Word word.Else) xs ys → Reads text g.expr ys rest n → Reads text g.expr ts rest (expression.If c y n (place text ts))
choice_of text (took a) c (took b) y (took d) n = g.choice a c b y d n

-- atoms
bracketed_sound : (text : List ℕ) (inner : Reader) → IsSound text inner → (o : Token) (ts : List Token) (x : Read) → o.kind ≡ kind.Mark symbol.OpenBracket →
    bracketed text inner o.start ts ≡ Ok x → Reads text g.atom (o ∷ ts) x.1 x.0
unfolding bracketed
bracketed_sound text inner sound o ts x ho h =
    let P : Read → Type 0 = λ y. Reads text g.atom (o ∷ ts) y.1 y.0 in
    elim (chosen (has_mark symbol.CloseBracket ts) _ _ (Ok x) h) as (λ _. P x) [
      | inl (m, q) ↦ ok_move P (expression.Unit o.start, drop 1 ts) x q (unit_of ho (mark_took symbol.CloseBracket ts m))
      | inr (m, q) ↦ (
          let a = bind_ok (inner Whole ts) _ x q in
          let b = bind_ok (expect text symbol.CloseBracket a.0.1) _ x a.2 in
          ok_move P (a.0.0, b.0) x b.2 (brackets_of ho (sound Whole ts a.0 a.1) (expect_took text symbol.CloseBracket a.0.1 b.0 b.1)))
    ]

abbrev pub named_or : List Token → Token → Option (List ℕ) → Answer Expression
named_or ts t (Some x) = Ok (expression.Name x t.start, ts)
named_or ts t None = Err (Syntax t.start)

named_sound : (text : List ℕ) (t : Token) (ts : List Token) (m : Option (List ℕ)) (x : Read) → name_of text t ≡ m → named_or ts t m ≡ Ok x →
    Reads text g.atom (t ∷ ts) x.1 x.0
named_sound text t ts (Some n) x e h = ok_move (λ (y : Read). Reads text g.atom (t ∷ ts) y.1 y.0) (expression.Name n t.start, ts) x h (g.name e)
named_sound text t ts None x e h = absurd (no_ok _ x h)

abbrev pub atom_at : List ℕ → Reader → Token → List Token → TokenKind → Answer Expression
atom_at text inner t ts kind.Name = named_or ts t (name_of text t)
atom_at text inner t ts (kind.Int n) = Ok (expression.Int n t.start, ts)
atom_at text inner t ts kind.Big = Err (Syntax t.start)
atom_at text inner t ts (kind.Word _) = Err (Syntax t.start)
atom_at text inner t ts (kind.Mark m) = if is_mark symbol.OpenBracket (kind.Mark m) then bracketed text inner t.start ts else Err (Syntax t.start)

atom_by : (text : List ℕ) (inner : Reader) → IsSound text inner → (t : Token) (ts : List Token) (k : TokenKind) (x : Read) → t.kind ≡ k →
    atom_at text inner t ts k ≡ Ok x → Reads text g.atom (t ∷ ts) x.1 x.0
atom_by text inner sound t ts kind.Name x e h = named_sound text t ts (name_of text t) x refl h
atom_by text inner sound t ts (kind.Int n) x e h =
    ok_move (λ (y : Read). Reads text g.atom (t ∷ ts) y.1 y.0) (expression.Int n t.start, ts) x h (g.number (rw e refl))
atom_by text inner sound t ts kind.Big x e h = absurd (no_ok _ x h)
atom_by text inner sound t ts (kind.Word _) x e h = absurd (no_ok _ x h)
atom_by text inner sound t ts (kind.Mark m) x e h =
    elim (chosen (is_mark symbol.OpenBracket (kind.Mark m)) _ _ (Ok x) h) as (λ _. Reads text g.atom (t ∷ ts) x.1 x.0) [
      | inl (o, q) ↦ bracketed_sound text inner sound t ts x (e ∙ mark-is symbol.OpenBracket (kind.Mark m) o) q
      | inr (o, q) ↦ absurd (no_ok _ x q)
    ]

pub atom_sound : (text : List ℕ) (inner : Reader) → IsSound text inner → (ts : List Token) (x : Read) → atom text inner ts ≡ Ok x → Reads text g.atom ts x.1 x.0
unfolding atom
atom_sound text inner sound [] x h = absurd (no_ok _ x h)
atom_sound text inner sound (t ∷ ts) x h = atom_by text inner sound t ts t.kind x refl h

pub atoms_sound : (text : List ℕ) (inner : Reader) → IsSound text inner → (n : ℕ) (ts : List Token) (x : Expressions × List Token) → atoms text inner n ts ≡ Ok x → ReadsAll text n ts x.1 x.0
unfolding atoms
atoms_sound text inner sound zero ts x h = ok_move (λ (y : Expressions × List Token). ReadsAll text zero ts y.1 y.0) (expression.End, ts) x h g.none
atoms_sound text inner sound (suc n) ts x h =
    let a = bind_ok (atom text inner ts) _ x h in
    let b = bind_ok (atoms text inner n a.0.1) _ x a.2 in
    ok_move (λ (y : Expressions × List Token). ReadsAll text (suc n) ts y.1 y.0) (expression.More a.0.0 b.0.0, b.0.1) x b.2
    (g.more (atom_sound text inner sound ts a.0 a.1) (atoms_sound text inner sound n a.0.1 b.0 b.1))

-- applications
applies_sound : (text : List ℕ) (inner : Reader) → IsSound text inner → (f : Expression) (ts : List Token) (x : Read) → applies text inner f ts ≡ Ok x → Applies text f ts x.1 x.0
unfolding applies
applies_sound text inner sound f ts x h =
    elim (chosen (starts_atom ts) _ _ (Ok x) h) as (λ _. Applies text f ts x.1 x.0) [
      | inl (m, q) ↦ (
          let a = bind_ok (atom text inner ts) _ x q in
          let d = atom_sound text inner sound ts a.0 a.1 in
          argument_of text (atom_some d) d (sound (Arguments (expression.App f a.0.0 (place text ts))) a.0.1 x a.2))
      | inr (m, q) ↦ ok_move (λ (y : Read). Applies text f ts y.1 y.0) (f, ts) x q g.no_argument
    ]

applied_sound : (text : List ℕ) (inner : Reader) → IsSound text inner → (ts : List Token) (x : Read) → applied text inner ts ≡ Ok x → Reads text g.app ts x.1 x.0
unfolding applied
applied_sound text inner sound ts x h =
    let a = bind_ok (atom text inner ts) _ x h in
    g.applied (atom_sound text inner sound ts a.0 a.1) (applies_sound text inner sound a.0.0 a.0.1 x a.2)

lift_sound : (text : List ℕ) (inner : Reader) → IsSound text inner → (n : ℕ) (ts : List Token) (x : Read) → lift_at ts ≡ Some n → lift text inner n ts ≡ Ok x →
    Reads text g.app ts x.1 x.0
unfolding lift
lift_sound text inner sound n [] x m h = cc
lift_sound text inner sound n (t ∷ ts) x m h =
    let a = bind_ok (atom text inner ts) _ x h in
    let b = bind_ok (atoms text inner n a.0.1) _ x a.2 in
    ok_move (λ (y : Read). Reads text g.app (t ∷ ts) y.1 y.0) (expression.Lift a.0.0 b.0.0 t.start, b.0.1) x b.2
    (g.lift m (atom_sound text inner sound ts a.0 a.1) (atoms_sound text inner sound n a.0.1 b.0 b.1))

foldp_sound : (text : List ℕ) (inner : Reader) → IsSound text inner → (ts : List Token) (x : Read) → has_word word.Foldp ts ≡ true → foldp text inner ts ≡ Ok x →
    Reads text g.app ts x.1 x.0
unfolding foldp
foldp_sound text inner sound ts x m h =
    let a = bind_ok (atom text inner (drop 1 ts)) _ x h in
    let b = bind_ok (atom text inner a.0.1) _ x a.2 in
    let c = bind_ok (atom text inner b.0.1) _ x b.2 in
    ok_move (λ (y : Read). Reads text g.app ts y.1 y.0) (expression.Foldp a.0.0 b.0.0 c.0.0 (place text ts), c.0.1) x c.2
    (foldp_of text (word_took word.Foldp ts m) (atom_sound text inner sound (drop 1 ts) a.0 a.1) (atom_sound text inner sound a.0.1 b.0 b.1)
    (atom_sound text inner sound b.0.1 c.0 c.1))

async_sound : (text : List ℕ) (inner : Reader) → IsSound text inner → (ts : List Token) (x : Read) → has_word word.Async ts ≡ true → async_of text inner ts ≡ Ok x →
    Reads text g.app ts x.1 x.0
unfolding async_of
async_sound text inner sound ts x m h =
    let a = bind_ok (atom text inner (drop 1 ts)) _ x h in
    ok_move (λ (y : Read). Reads text g.app ts y.1 y.0) (expression.Async a.0.0 (place text ts), a.0.1) x a.2
    (async_of_word text (word_took word.Async ts m) (atom_sound text inner sound (drop 1 ts) a.0 a.1))

abbrev lift_or : List ℕ → Reader → List Token → Option ℕ → Answer Expression
lift_or text inner ts (Some n) = lift text inner n ts
lift_or text inner ts None = applied text inner ts

lift_or_sound : (text : List ℕ) (inner : Reader) → IsSound text inner → (ts : List Token) (x : Read) (m : Option ℕ) → lift_at ts ≡ m → lift_or text inner ts m ≡ Ok x →
    Reads text g.app ts x.1 x.0
lift_or_sound text inner sound ts x (Some n) m h = lift_sound text inner sound n ts x m h
lift_or_sound text inner sound ts x None m h = applied_sound text inner sound ts x h

negative_of : (text : List ℕ) {ts us rest : List Token} {n : ℤ} → Took (kind.Mark symbol.Minus) ts us → TookNumber negated n us rest →
    Reads text g.operand ts rest (expression.Int n (place text ts))
negative_of text (took h) (took_number k) = g.negative h k

negative_sound : (text : List ℕ) (ts : List Token) (x : Read) → has_mark symbol.Minus ts ≡ true → negative text ts ≡ Ok x →
    Reads text g.operand ts x.1 x.0
unfolding negative
negative_sound text ts x m h =
    let n = bind_ok (numeral negated text (drop 1 ts)) _ x h in
    ok_move (λ (y : Read). Reads text g.operand ts y.1 y.0) (expression.Int n.0.0 (place text ts), n.0.1) x n.2
    (negative_of text (mark_took symbol.Minus ts m) (numeral_took negated text (drop 1 ts) n.0 n.1))

pub operand_sound : (text : List ℕ) (inner : Reader) → IsSound text inner → (ts : List Token) (x : Read) → operand text inner ts ≡ Ok x → Reads text g.operand ts x.1 x.0
unfolding operand
operand_sound text inner sound ts x h =
    let P : Type 0 = Reads text g.operand ts x.1 x.0 in
    elim (chosen (has_mark symbol.Minus ts) _ _ (Ok x) h) as (λ _. P) [
      | inl (m, q) ↦ negative_sound text ts x m q
      | inr (m, q) ↦ elim (chosen (has_word word.Foldp ts) _ _ (Ok x) q) as (λ _. P) [
        | inl (n, r) ↦ g.unsigned_operand (foldp_sound text inner sound ts x n r)
        | inr (n, r) ↦ elim (chosen (has_word word.Async ts) _ _ (Ok x) r) as (λ _. P) [
          | inl (o, s) ↦ g.unsigned_operand (async_sound text inner sound ts x o s)
          | inr (o, s) ↦ g.unsigned_operand (lift_or_sound text inner sound ts x (lift_at ts) refl s)
        ]
      ]
    ]

-- chains
abbrev goes_on : List ℕ → Reader → Level → Expression → List Token → Option Op → Answer Expression
goes_on text inner l left ts (Some sign) = inner (Right l sign (place text ts) left) (drop 1 ts)
goes_on text inner l left ts None = Ok (left, ts)

goes_on_sound : (text : List ℕ) (inner : Reader) → IsSound text inner → (l : Level) (left : Expression) (ts : List Token) (x : Read) (m : Option Op) → operator_at l ts ≡ m →
    goes_on text inner l left ts m ≡ Ok x → Continues text l left ts x.1 x.0
goes_on_sound text inner sound l left ts x None e h = ok_move (λ (y : Read). Continues text l left ts y.1 y.0) (left, ts) x h g.ended
goes_on_sound text inner sound l left [] x (Some sign) e h = cc
goes_on_sound text inner sound l left (o ∷ ts) x (Some sign) e h =
    let m = sound (Right l sign o.start left) ts x h in
    g.operated e m.1 m.2

continues_sound : (text : List ℕ) (inner : Reader) → IsSound text inner → (l : Level) (left : Expression) (ts : List Token) (x : Read) →
    continues text inner l left ts ≡ Ok x → Continues text l left ts x.1 x.0
unfolding continues
continues_sound text inner sound l left ts x h = goes_on_sound text inner sound l left ts x (operator_at l ts) refl h

chain_of_sound : (text : List ℕ) (inner : Reader) → IsSound text inner → (l : Level) (reader : List Token → Answer Expression) →
    ((ts : List Token) (x : Read) → reader ts ≡ Ok x → Reads text (part l) ts x.1 x.0) → (ts : List Token) (x : Read) →
    (reader ts >>= λ a. continues text inner l a.0 a.1) ≡ Ok x → Reads text (g.chain l) ts x.1 x.0
chain_of_sound text inner sound l reader part_sound ts x h =
    let a = bind_ok (reader ts) (λ a. continues text inner l a.0 a.1) x h in
    g.chained (part_sound ts a.0 a.1) (continues_sound text inner sound l a.0.0 a.0.1 x a.2)

pub product_sound : (text : List ℕ) (inner : Reader) → IsSound text inner → (ts : List Token) (x : Read) → product text inner ts ≡ Ok x → Reads text (g.chain level.Product) ts x.1 x.0
unfolding product
product_sound text inner sound = chain_of_sound text inner sound level.Product (operand text inner) (operand_sound text inner sound)

pub sum_sound : (text : List ℕ) (inner : Reader) → IsSound text inner → (ts : List Token) (x : Read) → sum text inner ts ≡ Ok x → Reads text (g.chain level.Sum) ts x.1 x.0
unfolding sum
sum_sound text inner sound = chain_of_sound text inner sound level.Sum (product text inner) (product_sound text inner sound)

abbrev compares : List ℕ → Reader → Expression → List Token → Option Op → Answer Expression
compares text inner left ts (Some sign) = sum text inner (drop 1 ts) >>= λ b. Ok (expression.Bin sign left b.0 (place text ts), b.1)
compares text inner left ts None = Ok (left, ts)

compares_sound : (text : List ℕ) (inner : Reader) → IsSound text inner → (all ts : List Token) (left : Expression) (x : Read) (m : Option Op) → Reads text (g.chain level.Sum) all ts left →
    comparison_at ts ≡ m → compares text inner left ts m ≡ Ok x → Reads text g.cmp all x.1 x.0
compares_sound text inner sound all ts left x None d e h = ok_move (λ (y : Read). Reads text g.cmp all y.1 y.0) (left, ts) x h (g.alone d)
compares_sound text inner sound all [] left x (Some sign) d e h = cc
compares_sound text inner sound all (o ∷ ts) left x (Some sign) d e h =
    let b = bind_ok (sum text inner ts) (λ b. Ok (expression.Bin sign left b.0 o.start, b.1)) x h in
    ok_move (λ (y : Read). Reads text g.cmp all y.1 y.0) (expression.Bin sign left b.0.0 o.start, b.0.1) x b.2 (g.compared d e (sum_sound text inner sound ts b.0 b.1))

pub cmp_sound : (text : List ℕ) (inner : Reader) → IsSound text inner → (ts : List Token) (x : Read) → cmp text inner ts ≡ Ok x → Reads text g.cmp ts x.1 x.0
unfolding cmp compared
cmp_sound text inner sound ts x h =
    let a = bind_ok (sum text inner ts) _ x h in
    compares_sound text inner sound ts a.0.1 a.0.0 x (comparison_at a.0.1) (sum_sound text inner sound ts a.0 a.1) refl a.2

pub conjunction_sound : (text : List ℕ) (inner : Reader) → IsSound text inner → (ts : List Token) (x : Read) → conjunction text inner ts ≡ Ok x → Reads text (g.chain level.And) ts x.1 x.0
unfolding conjunction
conjunction_sound text inner sound = chain_of_sound text inner sound level.And (cmp text inner) (cmp_sound text inner sound)

disjunction_sound : (text : List ℕ) (inner : Reader) → IsSound text inner → (ts : List Token) (x : Read) → disjunction text inner ts ≡ Ok x → Reads text (g.chain level.Or) ts x.1 x.0
unfolding disjunction
disjunction_sound text inner sound = chain_of_sound text inner sound level.Or (conjunction text inner) (conjunction_sound text inner sound)

pub part_sound : (text : List ℕ) (inner : Reader) → IsSound text inner → (l : Level) (ts : List Token) (x : Read) → part_of text inner l ts ≡ Ok x → Reads text (part l) ts x.1 x.0
unfolding part_of
part_sound text inner sound level.Or = conjunction_sound text inner sound
part_sound text inner sound level.And = cmp_sound text inner sound
part_sound text inner sound level.Sum = product_sound text inner sound
part_sound text inner sound level.Product = operand_sound text inner sound

-- whole expressions
function_sound : (text : List ℕ) (inner : Reader) (types : List Token → Answer CoreType) → IsSound text inner → AreTypes types g.whole → (ts : List Token) (x : Read) →
    has_mark symbol.Backslash ts ≡ true → function text inner types ts ≡ Ok x → Reads text g.expr ts x.1 x.0
unfolding function
function_sound text inner types sound types_are ts x m h =
    let n = bind_ok (name text (drop 1 ts)) _ x h in
    let c = bind_ok (expect text symbol.Colon n.0.1) _ x n.2 in
    let t = bind_ok (types c.0) _ x c.2 in
    let d = bind_ok (expect text symbol.Dot t.0.1) _ x t.2 in
    let b = bind_ok (inner Whole d.0) _ x d.2 in
    let read = types_are c.0 t.0 t.1 in
    ok_move (λ (y : Read). Reads text g.expr ts y.1 y.0) (expression.Lam n.0.0 t.0.0 (place text c.0) b.0.0 (place text ts), b.0.1) x b.2
    (function_of text (mark_took symbol.Backslash ts m) (name_took text (drop 1 ts) n.0 n.1) (expect_took text symbol.Colon n.0.1 c.0 c.1)
    (type_some read) read (expect_took text symbol.Dot t.0.1 d.0 d.1) (sound Whole d.0 b.0 b.1))

binding_sound : (text : List ℕ) (inner : Reader) → IsSound text inner → (ts : List Token) (x : Read) →
    has_word word.Let ts ≡ true → binding text inner ts ≡ Ok x → Reads text g.expr ts x.1 x.0
unfolding binding
binding_sound text inner sound ts x m h =
    let n = bind_ok (name text (drop 1 ts)) _ x h in
    let c = bind_ok (expect text symbol.Equals n.0.1) _ x n.2 in
    let a = bind_ok (inner Whole c.0) _ x c.2 in
    let d = bind_ok (expect_word text word.In a.0.1) _ x a.2 in
    let b = bind_ok (inner Whole d.0) _ x d.2 in
    ok_move (λ (y : Read). Reads text g.expr ts y.1 y.0) (expression.Let n.0.0 a.0.0 b.0.0 (place text ts), b.0.1) x b.2
    (binding_of text (word_took word.Let ts m) (name_took text (drop 1 ts) n.0 n.1) (expect_took text symbol.Equals n.0.1 c.0 c.1)
    (sound Whole c.0 a.0 a.1) (expect_word_took text word.In a.0.1 d.0 d.1) (sound Whole d.0 b.0 b.1))

choice_sound : (text : List ℕ) (inner : Reader) → IsSound text inner → (ts : List Token) (x : Read) →
    has_word word.If ts ≡ true → choice text inner ts ≡ Ok x → Reads text g.expr ts x.1 x.0
unfolding choice
choice_sound text inner sound ts x m h =
    let a = bind_ok (inner Whole (drop 1 ts)) _ x h in
    let c = bind_ok (expect_word text word.Then a.0.1) _ x a.2 in
    let b = bind_ok (inner Whole c.0) _ x c.2 in
    let d = bind_ok (expect_word text word.Else b.0.1) _ x b.2 in
    let n = bind_ok (inner Whole d.0) _ x d.2 in
    ok_move (λ (y : Read). Reads text g.expr ts y.1 y.0) (expression.If a.0.0 b.0.0 n.0.0 (place text ts), n.0.1) x n.2
    (choice_of text (word_took word.If ts m) (sound Whole (drop 1 ts) a.0 a.1) (expect_word_took text word.Then a.0.1 c.0 c.1)
    (sound Whole c.0 b.0 b.1) (expect_word_took text word.Else b.0.1 d.0 d.1) (sound Whole d.0 n.0 n.1))

expr_sound : (text : List ℕ) (inner : Reader) (types : List Token → Answer CoreType) → IsSound text inner → AreTypes types g.whole → (ts : List Token) (x : Read) →
    expr text inner types ts ≡ Ok x → Reads text g.expr ts x.1 x.0
unfolding expr
expr_sound text inner types sound types_are ts x h =
    let P : Type 0 = Reads text g.expr ts x.1 x.0 in
    elim (chosen (has_mark symbol.Backslash ts) _ _ (Ok x) h) as (λ _. P) [
      | inl (m, q) ↦ function_sound text inner types sound types_are ts x m q
      | inr (m, q) ↦ elim (chosen (has_word word.Let ts) _ _ (Ok x) q) as (λ _. P) [
        | inl (n, r) ↦ binding_sound text inner sound ts x n r
        | inr (n, r) ↦ elim (chosen (has_word word.If ts) _ _ (Ok x) r) as (λ _. P) [
          | inl (o, s) ↦ choice_sound text inner sound ts x o s
          | inr (o, s) ↦ g.plain (disjunction_sound text inner sound ts x s)
        ]
      ]
    ]

-- what is read with any room
pub reads_sound : (text : List ℕ) (room : ℕ) → IsSound text (reads_in text room)
unfolding reads_in
reads_sound text zero Whole ts x h = absurd (no_ok _ x h)
reads_sound text zero (Right l sign at left) ts x h = absurd (no_ok _ x h)
reads_sound text zero (Arguments f) ts x h =
    elim (chosen (starts_atom ts) _ _ (Ok x) h) as (λ _. Applies text f ts x.1 x.0) [
      | inl (m, q) ↦ absurd (no_ok _ x q)
      | inr (m, q) ↦ ok_move (λ (y : Read). Applies text f ts y.1 y.0) (f, ts) x q g.no_argument
    ]
reads_sound text (suc room) Whole ts x h =
    expr_sound text (reads_in text room) (type_in text room) (reads_sound text room) (types_sound text room) ts x h
reads_sound text (suc room) (Right l sign at left) ts x h =
    let a = bind_ok (part_of text (reads_in text room) l ts) (λ b. continues text (reads_in text room) l (expression.Bin sign left b.0 at) b.1) x h in (
      a.0,
      part_sound text (reads_in text room) (reads_sound text room) l ts a.0 a.1,
      continues_sound text (reads_in text room) (reads_sound text room) l (expression.Bin sign left a.0.0 at) a.0.1 x a.2,
    )
reads_sound text (suc room) (Arguments f) ts x h = applies_sound text (reads_in text room) (reads_sound text room) f ts x h
