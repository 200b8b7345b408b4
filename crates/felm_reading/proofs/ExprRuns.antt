-- Expressions are read as their fronts say.
use Rattle.std.proofs.Common.{◌≡◌, ℕ, zero, suc, ◌<◌, ◌≤◌, refl, arith, inr, List, [], ◌∷◌, ◌++◌, true, subst, sym, ◌∙◌}
use Rattle.std.specs.Prelude.{Ok, Option, Some, None}
use Rattle.felm_term.specs.CoreType.{CoreType}
use Rattle.felm_term.specs.declared.op.Op.{Op}
use Rattle.felm_lexer.specs.declared.kind.Symbol.TheVariants as symbol
use Rattle.felm_lexer.specs.declared.kind.WordKind.TheVariants as word
use Rattle.felm_lexer.specs.declared.kind.TokenKind.{TokenKind}
use Rattle.felm_lexer.specs.declared.kind.TokenKind.TheVariants as kind
use Rattle.felm_lexer.specs.declared.token.Token.{Token}
use Rattle.felm_syntax.specs.declared.level.Level.{Level}
use Rattle.felm_syntax.specs.declared.level.Level.TheVariants as level
use Rattle.felm_syntax.specs.Expression.{Expression, Expressions}
use Rattle.felm_syntax.specs.Expression as expression
use Rattle.felm_syntax.specs.Nesting.{Nests}
use Rattle.felm_syntax.specs.Fronts.{Part}
use Rattle.felm_syntax.specs.Fronts as f
use Rattle.felm_syntax.specs.Nesting as path
use Rattle.felm_syntax.specs.Grammar.{Phrase, part}
use Rattle.felm_syntax.specs.Grammar as g
use Rattle.felm_syntax.specs.Kinds.{is_mark, is_keyword, operator, comparison, lift_count, negated, name_of}
use Rattle.felm_reading.specs.Reading.{◌>>=◌, Answer, Reader, Deeper, Whole, Right, Arguments, kind_starts_atom, expect, name, numeral, atom, bracketed, atoms, applies, applied, lift, foldp, async_of, negative, operand, continues, product, sum, compared, cmp, conjunction, disjunction, part_of, function, binding, choice, expr, type_in, reads_in}
use Rattle.felm_reading.proofs.Runs.{IsRead, Follows, Stays, Fits, IsProper, same, all, skip, leaves, by_rule, by_deeper, bind_read, ok_read, last_read, token_follows, refused_follows, needs, may_end, if_follows, expect_read, expect_word_read, name_reads, numeral_reads, full_follows, token_needs, widen, stays, stays_if, placed_read}
use Rattle.felm_reading.proofs.Tokens.{mark-is, keyword-is, TookName, took_name, name_took}
use Rattle.felm_reading.proofs.Firsts.{kind_starts_operand, kind_starts_expr}
use Rattle.felm_reading.proofs.TypeSound.{AreTypes, types_sound}
use Rattle.felm_reading.proofs.TypeRuns.{types_read}
use Rattle.felm_reading.proofs.ExprSound.{IsSound, atom_at, named_or, atom_sound, operand_sound, product_sound, sum_sound, cmp_sound, conjunction_sound, part_sound, reads_sound}

-- the part that is read with the tokens nesting deeper by one
abbrev pub part_for : Deeper → Part
part_for Whole = f.phrase g.expr
part_for (Right l _ _ _) = f.right l
part_for (Arguments _) = f.others

abbrev pub ReadsDeeper : List ℕ → ℕ → Reader → Type 0
ReadsDeeper text room inner = (d : Deeper) → IsRead text (part_for d ∷ []) room (inner d)

-- a token's fit
fits_token : {text : List ℕ} {p : Part} {ps : List Part} {room : ℕ} {t : Token} → f.IsToken text p t → Fits text (p ∷ ps) room (t ∷ [])
fits_token {room} h = let le : 0 ≤ room = omega arith in inr (0, path.token h, le)

name_whole : (text : List ℕ) (us : List Token) (x : List ℕ × List Token) → name text us ≡ Ok x → f.Whole text f.name us x.1
name_whole text us x e = whole_of (name_took text us x e)
  where
    whole_of : {n : List ℕ} {ts rest : List Token} → TookName text n ts rest → f.Whole text f.name ts rest
    whole_of (took_name {x} h) = f.whole_token (x, h)

module _ (text : List ℕ) (room : ℕ) (inner : Reader) (reads : ReadsDeeper text room inner) (sound : IsSound text inner) where
  -- atoms
  pub enclosed_reads : IsRead text (f.phrase g.expr ∷ f.mark symbol.CloseBracket ∷ []) room
      (λ us. inner Whole us >>= λ e. (expect text symbol.CloseBracket e.1 >>= λ rest. Ok (e.0, rest)))
  enclosed_reads =
      bind_read text (f.phrase g.expr) (f.mark symbol.CloseBracket ∷ []) room (inner Whole) _ (reads Whole) (λ us x e. f.whole_phrase (sound Whole us x e))
      (λ x. expect_read text symbol.CloseBracket [] room (λ rest. Ok (x, rest)) (ok_read text [] room x))

  pub bracketed_stays : (at : ℕ) (ts : List Token) → Stays text ts (bracketed text inner at ts)
  unfolding bracketed
  bracketed_stays at [] = stays text (enclosed_reads [] [])
  bracketed_stays at (t ∷ ts) = stays_if text (t ∷ ts) (is_mark symbol.CloseBracket t.kind) _ _ (leaves (skip all)) (stays text (enclosed_reads (t ∷ ts) []))

  pub bracketed_follows : (o : Token) → o.kind ≡ kind.Mark symbol.OpenBracket → (us more : List Token) →
      Follows text (f.phrase g.atom ∷ []) room (o ∷ us) more (bracketed text inner o.start us) (bracketed text inner o.start (us ++ more))
  unfolding bracketed
  bracketed_follows o h =
      token_needs text (f.phrase g.atom ∷ []) (f.phrase g.expr ∷ f.mark symbol.CloseBracket ∷ []) room o (bracketed text inner o.start) (enclosed_reads [] [])
      (inr (0, path.inside f.unit (path.token h), zero_le room)) (bracketed_stays o.start) (λ u us more.
      if_follows text (f.phrase g.atom ∷ []) room (o ∷ u ∷ us) more (is_mark symbol.CloseBracket u.kind) _ _ _ _
      (λ k. by_rule text room (o ∷ u ∷ us) more f.unit (token_follows text (f.mark symbol.OpenBracket) _ room o (u ∷ us) more h
      (token_follows text (f.mark symbol.CloseBracket) [] room u us more (mark-is symbol.CloseBracket u.kind k) (ok_read text [] room (expression.Unit o.start) us more))))
      (λ _. by_rule text room (o ∷ u ∷ us) more f.brackets (token_follows text (f.mark symbol.OpenBracket) _ room o (u ∷ us) more h (enclosed_reads (u ∷ us) more))))
    where
      zero_le : (n : ℕ) → 0 ≤ n
      zero_le n = omega arith

  pub named_follows : (t : Token) (us more : List Token) (m : Option (List ℕ)) → name_of text t ≡ m →
      Follows text (f.phrase g.atom ∷ []) room (t ∷ us) more (named_or us t m) (named_or (us ++ more) t m)
  named_follows t us more (Some x) h =
      by_rule text room (t ∷ us) more f.named (token_follows text f.name [] room t us more (x, h) (ok_read text [] room (expression.Name x t.start) us more))
  named_follows t us more None h = refused_follows text (f.phrase g.atom ∷ []) room t us more

  pub atom_follows : (t : Token) (us more : List Token) (k : TokenKind) → t.kind ≡ k →
      Follows text (f.phrase g.atom ∷ []) room (t ∷ us) more (atom_at text inner t us k) (atom_at text inner t (us ++ more) k)
  atom_follows t us more kind.Name e = named_follows t us more (name_of text t) refl
  atom_follows t us more (kind.Int n) e =
      by_rule text room (t ∷ us) more f.numbered (token_follows text f.number [] room t us more (n, rw e refl) (ok_read text [] room (expression.Int n t.start) us more))
  atom_follows t us more kind.Big e = refused_follows text (f.phrase g.atom ∷ []) room t us more
  atom_follows t us more (kind.Word _) e = refused_follows text (f.phrase g.atom ∷ []) room t us more
  atom_follows t us more (kind.Mark m) e =
      if_follows text (f.phrase g.atom ∷ []) room (t ∷ us) more (is_mark symbol.OpenBracket (kind.Mark m)) _ _ _ _
      (λ h. bracketed_follows t (e ∙ mark-is symbol.OpenBracket (kind.Mark m) h) us more)
      (λ _. refused_follows text (f.phrase g.atom ∷ []) room t us more)

  pub atom_reads : IsRead text (f.phrase g.atom ∷ []) room (atom text inner)
  unfolding atom
  atom_reads = needs text (f.phrase g.atom ∷ []) room (atom text inner) refl (λ t us more. atom_follows t us more t.kind refl)

  pub whole_atom : (us : List Token) (x : Expression × List Token) → atom text inner us ≡ Ok x → f.Whole text (f.phrase g.atom) us x.1
  whole_atom us x e = f.whole_phrase (atom_sound text inner sound us x e)

  pub atoms_read : (n : ℕ) → IsRead text (f.atoms n ∷ []) room (atoms text inner n)
  unfolding atoms
  atoms_read zero = ok_read text (f.atoms zero ∷ []) room expression.End
  atoms_read (suc n) = λ us more. by_rule text room us more f.one_more
      (bind_read text (f.phrase g.atom) (f.atoms n ∷ []) room (atom text inner) _ atom_reads whole_atom
      (λ a. last_read text (f.atoms n ∷ []) room (atoms text inner n) (expression.More a) (atoms_read n)) us more)

  pub applies_read : (fn : Expression) → IsRead text (f.arguments ∷ []) room (applies text inner fn)
  unfolding applies
  applies_read fn =
      may_end text (f.arguments ∷ []) room fn (applies text inner fn) refl (λ t us more.
      if_follows text (f.arguments ∷ []) room (t ∷ us) more (kind_starts_atom t.kind) _ _ _ _
      (λ _. by_rule text room (t ∷ us) more f.argument
      (bind_read text (f.phrase g.atom) (f.others ∷ []) room (atom text inner) (λ a. inner (Arguments (expression.App fn a.0 t.start)) a.1) atom_reads whole_atom
      (λ a. reads (Arguments (expression.App fn a t.start))) (t ∷ us) more))
      (λ _. same all))

  -- what stands behind a word, and operands
  pub lift_follows : (n : ℕ) (t : Token) (us more : List Token) → lift_count t.kind ≡ Some n →
      Follows text (f.phrase g.app ∷ []) room (t ∷ us) more (lift text inner n (t ∷ us)) (lift text inner n (t ∷ (us ++ more)))
  unfolding lift
  lift_follows n t us more h =
      by_rule text room (t ∷ us) more f.lift (token_follows text (f.lift_of n) _ room t us more h
      (bind_read text (f.phrase g.atom) (f.atoms n ∷ []) room (atom text inner) _ atom_reads whole_atom
      (λ a. last_read text (f.atoms n ∷ []) room (atoms text inner n) (λ es. expression.Lift a es t.start) (atoms_read n)) us more))

  pub foldp_follows : (t : Token) (us more : List Token) → t.kind ≡ kind.Word word.Foldp →
      Follows text (f.phrase g.app ∷ []) room (t ∷ us) more (foldp text inner (t ∷ us)) (foldp text inner (t ∷ (us ++ more)))
  unfolding foldp
  foldp_follows t us more h =
      by_rule text room (t ∷ us) more f.foldp (token_follows text (f.word_of word.Foldp) _ room t us more h
      (bind_read text (f.phrase g.atom) (f.phrase g.atom ∷ f.phrase g.atom ∷ []) room (atom text inner) _ atom_reads whole_atom
      (λ a. bind_read text (f.phrase g.atom) (f.phrase g.atom ∷ []) room (atom text inner) _ atom_reads whole_atom
      (λ b. last_read text (f.phrase g.atom ∷ []) room (atom text inner) (λ s. expression.Foldp a b s t.start) atom_reads)) us more))

  pub async_follows : (t : Token) (us more : List Token) → t.kind ≡ kind.Word word.Async →
      Follows text (f.phrase g.app ∷ []) room (t ∷ us) more (async_of text inner (t ∷ us)) (async_of text inner (t ∷ (us ++ more)))
  unfolding async_of
  async_follows t us more h =
      by_rule text room (t ∷ us) more f.async (token_follows text (f.word_of word.Async) _ room t us more h
      (last_read text (f.phrase g.atom ∷ []) room (atom text inner) (λ s. expression.Async s t.start) atom_reads us more))

  pub applied_reads : IsRead text (f.phrase g.app ∷ []) room (applied text inner)
  unfolding applied
  applied_reads = λ us more. by_rule text room us more f.applied
      (bind_read text (f.phrase g.atom) (f.arguments ∷ []) room (atom text inner) _ atom_reads whole_atom (λ a. applies_read a) us more)

  pub negative_follows : (t : Token) (us more : List Token) → t.kind ≡ kind.Mark symbol.Minus →
      Follows text (f.phrase g.operand ∷ []) room (t ∷ us) more (negative text (t ∷ us)) (negative text (t ∷ (us ++ more)))
  unfolding negative
  negative_follows t us more h =
      by_rule text room (t ∷ us) more f.negative (token_follows text (f.mark symbol.Minus) _ room t us more h
      (last_read text (f.negated ∷ []) room (numeral negated text) (λ n. expression.Int n t.start) (numeral_reads text room f.negated negated (λ u n e. (n, e))) us more))

  abbrev lift_or : List Token → Option ℕ → Answer Expression
  lift_or ts (Some n) = lift text inner n ts
  lift_or ts None = applied text inner ts

  pub lift_or_follows : (t : Token) (us more : List Token) (m : Option ℕ) → lift_count t.kind ≡ m →
      Follows text (f.phrase g.app ∷ []) room (t ∷ us) more (lift_or (t ∷ us) m) (lift_or (t ∷ (us ++ more)) m)
  lift_or_follows t us more (Some n) h = lift_follows n t us more h
  lift_or_follows t us more None h = applied_reads (t ∷ us) more

  pub operand_reads : IsRead text (f.phrase g.operand ∷ []) room (operand text inner)
  unfolding operand applied atom
  operand_reads =
      needs text (f.phrase g.operand ∷ []) room (operand text inner) refl (λ t us more.
      if_follows text (f.phrase g.operand ∷ []) room (t ∷ us) more (is_mark symbol.Minus t.kind) _ _ _ _
      (λ h. negative_follows t us more (mark-is symbol.Minus t.kind h))
      (λ _. by_rule text room (t ∷ us) more f.unsigned_operand (if_follows text (f.phrase g.app ∷ []) room (t ∷ us) more (is_keyword word.Foldp t.kind) _ _ _ _
      (λ h. foldp_follows t us more (keyword-is word.Foldp t.kind h))
      (λ _. if_follows text (f.phrase g.app ∷ []) room (t ∷ us) more (is_keyword word.Async t.kind) _ _ _ _
      (λ h. async_follows t us more (keyword-is word.Async t.kind h))
      (λ _. lift_or_follows t us more (lift_count t.kind) refl)))))

  -- chains
  abbrev goes_on : Level → Expression → Token → List Token → Option Op → Answer Expression
  goes_on l left t us (Some sign) = inner (Right l sign t.start left) us
  goes_on l left t us None = Ok (left, t ∷ us)

  pub goes_on_follows : (l : Level) (left : Expression) (t : Token) (us more : List Token) (m : Option Op) → operator l t.kind ≡ m →
      Follows text (f.operations l ∷ []) room (t ∷ us) more (goes_on l left t us m) (goes_on l left t (us ++ more) m)
  goes_on_follows l left t us more (Some sign) h =
      by_rule text room (t ∷ us) more f.operated (token_follows text (f.operator_of l) _ room t us more (sign, h) (reads (Right l sign t.start left) us more))
  goes_on_follows l left t us more None h = same all

  pub continues_reads : (l : Level) (left : Expression) → IsRead text (f.operations l ∷ []) room (continues text inner l left)
  unfolding continues
  continues_reads l left =
      may_end text (f.operations l ∷ []) room left (continues text inner l left) refl (λ t us more. goes_on_follows l left t us more (operator l t.kind) refl)

  pub chain_reads : (l : Level) (reader : List Token → Answer Expression) → IsRead text (f.phrase (part l) ∷ []) room reader →
      ((us : List Token) (x : Expression × List Token) → reader us ≡ Ok x → f.Whole text (f.phrase (part l)) us x.1) →
      IsRead text (f.phrase (part l) ∷ f.operations l ∷ []) room (λ us. reader us >>= λ a. continues text inner l a.0 a.1)
  chain_reads l reader part_reads whole =
      bind_read text (f.phrase (part l)) (f.operations l ∷ []) room reader _ part_reads whole (λ a. continues_reads l a)

  pub product_reads : IsRead text (f.phrase (g.chain level.Product) ∷ []) room (product text inner)
  unfolding product
  product_reads = λ us more. by_rule text room us more f.chained
      (chain_reads level.Product (operand text inner) operand_reads (λ ts x e. f.whole_phrase (operand_sound text inner sound ts x e)) us more)

  pub sum_reads : IsRead text (f.phrase (g.chain level.Sum) ∷ []) room (sum text inner)
  unfolding sum
  sum_reads = λ us more. by_rule text room us more f.chained
      (chain_reads level.Sum (product text inner) product_reads (λ ts x e. f.whole_phrase (product_sound text inner sound ts x e)) us more)

  abbrev compares : Expression → Token → List Token → Option Op → Answer Expression
  compares left t us (Some sign) = sum text inner us >>= λ b. Ok (expression.Bin sign left b.0 t.start, b.1)
  compares left t us None = Ok (left, t ∷ us)

  pub compares_follows : (left : Expression) (t : Token) (us more : List Token) (m : Option Op) → comparison t.kind ≡ m →
      Follows text (f.comparing ∷ []) room (t ∷ us) more (compares left t us m) (compares left t (us ++ more) m)
  compares_follows left t us more (Some sign) h =
      by_rule text room (t ∷ us) more f.compares (token_follows text f.comparison_sign _ room t us more (sign, h)
      (last_read text (f.phrase (g.chain level.Sum) ∷ []) room (sum text inner) (λ b. expression.Bin sign left b t.start) sum_reads us more))
  compares_follows left t us more None h = same all

  pub compared_reads : (left : Expression) → IsRead text (f.comparing ∷ []) room (compared text inner left)
  unfolding compared
  compared_reads left = may_end text (f.comparing ∷ []) room left (compared text inner left) refl (λ t us more. compares_follows left t us more (comparison t.kind) refl)

  pub cmp_reads : IsRead text (f.phrase g.cmp ∷ []) room (cmp text inner)
  unfolding cmp
  cmp_reads = λ us more. by_rule text room us more f.compared
      (bind_read text (f.phrase (g.chain level.Sum)) (f.comparing ∷ []) room (sum text inner) _ sum_reads (λ ts x e. f.whole_phrase (sum_sound text inner sound ts x e))
      (λ a. compared_reads a) us more)

  pub conjunction_reads : IsRead text (f.phrase (g.chain level.And) ∷ []) room (conjunction text inner)
  unfolding conjunction
  conjunction_reads = λ us more. by_rule text room us more f.chained
      (chain_reads level.And (cmp text inner) cmp_reads (λ ts x e. f.whole_phrase (cmp_sound text inner sound ts x e)) us more)

  pub disjunction_reads : IsRead text (f.phrase (g.chain level.Or) ∷ []) room (disjunction text inner)
  unfolding disjunction
  disjunction_reads = λ us more. by_rule text room us more f.chained
      (chain_reads level.Or (conjunction text inner) conjunction_reads (λ ts x e. f.whole_phrase (conjunction_sound text inner sound ts x e)) us more)

  pub part_reads : (l : Level) → IsRead text (f.phrase (part l) ∷ []) room (part_of text inner l)
  unfolding part_of
  part_reads level.Or = conjunction_reads
  part_reads level.And = cmp_reads
  part_reads level.Sum = product_reads
  part_reads level.Product = operand_reads

  pub right_reads : (l : Level) (sign : Op) (at : ℕ) (left : Expression) →
      IsRead text (f.right l ∷ []) (suc room) (λ ts. part_of text inner l ts >>= λ b. continues text inner l (expression.Bin sign left b.0 at) b.1)
  right_reads l sign at left = λ us more. by_deeper text room us more f.right_is
      (bind_read text (f.phrase (part l)) (f.operations l ∷ []) room (part_of text inner l) (λ b. continues text inner l (expression.Bin sign left b.0 at) b.1)
      (part_reads l) (λ ts x e. f.whole_phrase (part_sound text inner sound l ts x e))
      (λ b. continues_reads l (expression.Bin sign left b at)) us more)

  pub others_read : (fn : Expression) → IsRead text (f.others ∷ []) (suc room) (applies text inner fn)
  unfolding applies
  others_read fn =
      may_end text (f.others ∷ []) (suc room) fn (applies text inner fn) refl (λ t us more.
      if_follows text (f.others ∷ []) (suc room) (t ∷ us) more (kind_starts_atom t.kind) _ _ _ _
      (λ _. by_deeper text room (t ∷ us) more f.another
      (bind_read text (f.phrase g.atom) (f.others ∷ []) room (atom text inner) (λ a. inner (Arguments (expression.App fn a.0 t.start)) a.1) atom_reads whole_atom
      (λ a. reads (Arguments (expression.App fn a t.start))) (t ∷ us) more))
      (λ _. same all))

  -- whole expressions
  pub whole_expr : (us : List Token) (x : Expression × List Token) → inner Whole us ≡ Ok x → f.Whole text (f.phrase g.expr) us x.1
  whole_expr us x e = f.whole_phrase (sound Whole us x e)

  pub function_follows : (types : List Token → Answer CoreType) → IsRead text (f.type g.whole ∷ []) room types → AreTypes types g.whole → (t : Token) (us more : List Token) →
      t.kind ≡ kind.Mark symbol.Backslash →
      Follows text (f.phrase g.expr ∷ []) (suc room) (t ∷ us) more (function text inner types (t ∷ us)) (function text inner types (t ∷ (us ++ more)))
  unfolding function
  function_follows types types_read types_sound t us more h =
      by_deeper text room (t ∷ us) more f.function (token_follows text (f.mark symbol.Backslash) _ room t us more h
      (bind_read text f.name _ room (name text) _ (name_reads text room) (name_whole text) (λ x.
      expect_read text symbol.Colon _ room _ (placed_read text _ room _ (λ at.
      bind_read text (f.type g.whole) _ room types (λ y. expect text symbol.Dot y.1 >>= λ vs. (inner Whole vs >>= λ body. Ok (expression.Lam x y.0 at body.0 t.start, body.1))) types_read (λ vs y e. f.whole_type (types_sound vs y e)) (λ ty.
      expect_read text symbol.Dot _ room (λ vs. inner Whole vs >>= λ body. Ok (expression.Lam x ty at body.0 t.start, body.1)) (
      last_read text (f.phrase g.expr ∷ []) room (inner Whole) (λ body. expression.Lam x ty at body t.start) (reads Whole)))))) us more))

  pub binding_follows : (t : Token) (us more : List Token) → t.kind ≡ kind.Word word.Let →
      Follows text (f.phrase g.expr ∷ []) (suc room) (t ∷ us) more (binding text inner (t ∷ us)) (binding text inner (t ∷ (us ++ more)))
  unfolding binding
  binding_follows t us more h =
      by_deeper text room (t ∷ us) more f.binding (token_follows text (f.word_of word.Let) _ room t us more h
      (bind_read text f.name _ room (name text) _ (name_reads text room) (name_whole text) (λ x.
      expect_read text symbol.Equals _ room _ (
      bind_read text (f.phrase g.expr) _ room (inner Whole) _ (reads Whole) whole_expr (λ bound.
      expect_word_read text word.In _ room _ (
      last_read text (f.phrase g.expr ∷ []) room (inner Whole) (λ body. expression.Let x bound body t.start) (reads Whole))))) us more))

  pub choice_follows : (t : Token) (us more : List Token) → t.kind ≡ kind.Word word.If →
      Follows text (f.phrase g.expr ∷ []) (suc room) (t ∷ us) more (choice text inner (t ∷ us)) (choice text inner (t ∷ (us ++ more)))
  unfolding choice
  choice_follows t us more h =
      by_deeper text room (t ∷ us) more f.choice (token_follows text (f.word_of word.If) _ room t us more h
      (bind_read text (f.phrase g.expr) _ room (inner Whole) _ (reads Whole) whole_expr (λ condition.
      expect_word_read text word.Then _ room _ (
      bind_read text (f.phrase g.expr) _ room (inner Whole) _ (reads Whole) whole_expr (λ yes.
      expect_word_read text word.Else _ room _ (
      last_read text (f.phrase g.expr ∷ []) room (inner Whole) (λ no. expression.If condition yes no t.start) (reads Whole))))) us more))

  pub expr_reads : (types : List Token → Answer CoreType) → IsRead text (f.type g.whole ∷ []) room types → AreTypes types g.whole →
      IsRead text (f.phrase g.expr ∷ []) (suc room) (expr text inner types)
  unfolding expr disjunction conjunction cmp sum product operand applied atom
  expr_reads types types_read types_sound =
      needs text (f.phrase g.expr ∷ []) (suc room) (expr text inner types) refl (λ t us more.
      if_follows text (f.phrase g.expr ∷ []) (suc room) (t ∷ us) more (is_mark symbol.Backslash t.kind) _ _ _ _
      (λ h. function_follows types types_read types_sound t us more (mark-is symbol.Backslash t.kind h))
      (λ _. if_follows text (f.phrase g.expr ∷ []) (suc room) (t ∷ us) more (is_keyword word.Let t.kind) _ _ _ _
      (λ h. binding_follows t us more (keyword-is word.Let t.kind h))
      (λ _. if_follows text (f.phrase g.expr ∷ []) (suc room) (t ∷ us) more (is_keyword word.If t.kind) _ _ _ _
      (λ h. choice_follows t us more (keyword-is word.If t.kind h))
      (λ _. by_deeper text room (t ∷ us) more f.plain (disjunction_reads (t ∷ us) more)))))

-- what begins what nests deeper
up_part : {text : List ℕ} (l : Level) {n : ℕ} {ts : List Token} → Nests text (f.phrase g.operand ∷ []) n ts → Nests text (f.phrase (part l) ∷ []) n ts
up_part level.Product d = d
up_part level.Sum d = path.inside f.chained (widen d)
up_part level.And d = path.inside f.compared (widen (path.inside f.chained (widen (path.inside f.chained (widen d)))))
up_part level.Or d = path.inside f.chained (widen (path.inside f.compared (widen (path.inside f.chained (widen (path.inside f.chained (widen d)))))))

operand_expr : {text : List ℕ} {n : ℕ} {ts : List Token} → Nests text (f.phrase g.operand ∷ []) n ts → Nests text (f.phrase g.expr ∷ []) (suc n) ts
operand_expr d = path.deeper f.plain (path.inside f.chained (widen (up_part level.Or d)))

atom_operand : {text : List ℕ} {n : ℕ} {ts : List Token} → Nests text (f.phrase g.atom ∷ []) n ts → Nests text (f.phrase g.operand ∷ []) n ts
atom_operand d = path.inside f.unsigned_operand (path.inside f.applied (widen d))

atom_first : {text : List ℕ} (t : Token) (k : TokenKind) → t.kind ≡ k → IsProper text t → kind_starts_atom k ≡ true → Nests text (f.phrase g.atom ∷ []) 0 (t ∷ [])
atom_first t kind.Name e p h = path.inside f.named (path.token (p e))
atom_first t (kind.Int n) e p h = path.inside f.numbered (path.token (n, rw e refl))
atom_first t (kind.Mark symbol.OpenBracket) e p h = path.inside f.unit (path.token e)
atom_first t (kind.Mark _) e p h = absurd (cc)
atom_first t (kind.Word _) e p h = absurd (cc)
atom_first t kind.Big e p h = absurd (cc)

lift_first : {text : List ℕ} (t : Token) (n : ℕ) → lift_count t.kind ≡ Some n → Nests text (f.phrase g.operand ∷ []) 0 (t ∷ [])
lift_first t n h = path.inside f.unsigned_operand (path.inside f.lift (path.token h))

operand_first : {text : List ℕ} (t : Token) (k : TokenKind) → t.kind ≡ k → IsProper text t → kind_starts_operand k ≡ true → Nests text (f.phrase g.operand ∷ []) 0 (t ∷ [])
operand_first t kind.Name e p h = atom_operand (atom_first t kind.Name e p refl)
operand_first t (kind.Int n) e p h = atom_operand (atom_first t (kind.Int n) e p refl)
operand_first t (kind.Mark symbol.OpenBracket) e p h = atom_operand (atom_first t (kind.Mark symbol.OpenBracket) e p refl)
operand_first t (kind.Mark symbol.Minus) e p h = path.inside f.negative (path.token e)
operand_first t (kind.Mark _) e p h = absurd (cc)
operand_first t (kind.Word word.Foldp) e p h = path.inside f.unsigned_operand (path.inside f.foldp (path.token e))
operand_first t (kind.Word word.Async) e p h = path.inside f.unsigned_operand (path.inside f.async (path.token e))
operand_first t (kind.Word word.Lift1) e p h = lift_first t 1 (rw e refl)
operand_first t (kind.Word word.Lift2) e p h = lift_first t 2 (rw e refl)
operand_first t (kind.Word word.Lift3) e p h = lift_first t 3 (rw e refl)
operand_first t (kind.Word word.Lift4) e p h = lift_first t 4 (rw e refl)
operand_first t (kind.Word word.Lift5) e p h = lift_first t 5 (rw e refl)
operand_first t (kind.Word word.Lift6) e p h = lift_first t 6 (rw e refl)
operand_first t (kind.Word word.Lift7) e p h = lift_first t 7 (rw e refl)
operand_first t (kind.Word word.Lift8) e p h = lift_first t 8 (rw e refl)
operand_first t (kind.Word word.Lift9) e p h = lift_first t 9 (rw e refl)
operand_first t (kind.Word _) e p h = absurd (cc)
operand_first t kind.Big e p h = absurd (cc)

expr_first : {text : List ℕ} (t : Token) (k : TokenKind) → t.kind ≡ k → IsProper text t → kind_starts_expr k ≡ true → Nests text (f.phrase g.expr ∷ []) 1 (t ∷ [])
expr_first t (kind.Mark symbol.Backslash) e p h = path.deeper f.function (path.token e)
expr_first t (kind.Word word.Let) e p h = path.deeper f.binding (path.token e)
expr_first t (kind.Word word.If) e p h = path.deeper f.choice (path.token e)
expr_first t kind.Name e p h = operand_expr (operand_first t kind.Name e p refl)
expr_first t (kind.Int n) e p h = operand_expr (operand_first t (kind.Int n) e p refl)
expr_first t kind.Big e p h = absurd (cc)
expr_first t (kind.Mark symbol.OpenBracket) e p h = operand_expr (operand_first t (kind.Mark symbol.OpenBracket) e p refl)
expr_first t (kind.Mark symbol.Minus) e p h = operand_expr (operand_first t (kind.Mark symbol.Minus) e p refl)
expr_first t (kind.Word word.Foldp) e p h = operand_expr (operand_first t (kind.Word word.Foldp) e p refl)
expr_first t (kind.Word word.Async) e p h = operand_expr (operand_first t (kind.Word word.Async) e p refl)
expr_first t (kind.Word word.Lift1) e p h = operand_expr (operand_first t (kind.Word word.Lift1) e p refl)
expr_first t (kind.Word word.Lift2) e p h = operand_expr (operand_first t (kind.Word word.Lift2) e p refl)
expr_first t (kind.Word word.Lift3) e p h = operand_expr (operand_first t (kind.Word word.Lift3) e p refl)
expr_first t (kind.Word word.Lift4) e p h = operand_expr (operand_first t (kind.Word word.Lift4) e p refl)
expr_first t (kind.Word word.Lift5) e p h = operand_expr (operand_first t (kind.Word word.Lift5) e p refl)
expr_first t (kind.Word word.Lift6) e p h = operand_expr (operand_first t (kind.Word word.Lift6) e p refl)
expr_first t (kind.Word word.Lift7) e p h = operand_expr (operand_first t (kind.Word word.Lift7) e p refl)
expr_first t (kind.Word word.Lift8) e p h = operand_expr (operand_first t (kind.Word word.Lift8) e p refl)
expr_first t (kind.Word word.Lift9) e p h = operand_expr (operand_first t (kind.Word word.Lift9) e p refl)
expr_first t (kind.Mark _) e p h = absurd (cc)
expr_first t (kind.Word _) e p h = absurd (cc)

one_above : 0 < 1
one_above = omega arith

-- what is read with so much room
pub reads_read : (text : List ℕ) (room : ℕ) → ReadsDeeper text room (reads_in text room)
unfolding reads_in
reads_read text zero Whole =
    needs text (f.phrase g.expr ∷ []) 0 (reads_in text 0 Whole) refl (λ t us more.
    full_follows text (f.phrase g.expr ∷ []) t us more (kind_starts_expr t.kind) (λ h e p.
    (1, subst (λ r. Nests text (f.phrase g.expr ∷ []) 1 (t ∷ r)) (sym e) (expr_first t t.kind refl p h), one_above)))
reads_read text zero (Right l sign at left) =
    needs text (f.right l ∷ []) 0 (reads_in text 0 (Right l sign at left)) refl (λ t us more.
    full_follows text (f.right l ∷ []) t us more (kind_starts_operand t.kind) (λ h e p.
    (1, subst (λ r. Nests text (f.right l ∷ []) 1 (t ∷ r)) (sym e) (path.deeper f.right_is (widen (up_part l (operand_first t t.kind refl p h)))), one_above)))
reads_read text zero (Arguments fn) =
    may_end text (f.others ∷ []) 0 fn (reads_in text 0 (Arguments fn)) refl (λ t us more.
    if_follows text (f.others ∷ []) 0 (t ∷ us) more (kind_starts_atom t.kind) _ _ _ _
    (λ h. full_follows text (f.others ∷ []) t us more true (λ _ e p.
    (1, subst (λ r. Nests text (f.others ∷ []) 1 (t ∷ r)) (sym e) (path.deeper f.another (widen (atom_first t t.kind refl p h))), one_above)))
    (λ _. same all))
reads_read text (suc room) Whole =
    expr_reads text room (reads_in text room) (reads_read text room) (reads_sound text room) (type_in text room) (types_read text room) (types_sound text room)
reads_read text (suc room) (Right l sign at left) = right_reads text room (reads_in text room) (reads_read text room) (reads_sound text room) l sign at left
reads_read text (suc room) (Arguments fn) = others_read text room (reads_in text room) (reads_read text room) (reads_sound text room) fn
