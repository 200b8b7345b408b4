-- Fronts of expressions are read to their end.
use Rattle.std.proofs.Common.{◌≡◌, ℕ, zero, suc, ◌<◌, refl, arith, inl, List, [], ◌∷◌, true, false, subst, sym}
use Rattle.std.specs.Prelude.{Ok, Err, if◌then◌else◌}
use Rattle.felm_term.specs.declared.op.Op.{Op}
use Rattle.felm_lexer.specs.declared.kind.Symbol.{Symbol}
use Rattle.felm_lexer.specs.declared.kind.Symbol.TheVariants as symbol
use Rattle.felm_lexer.specs.declared.kind.WordKind.{WordKind}
use Rattle.felm_lexer.specs.declared.kind.WordKind.TheVariants as word
use Rattle.felm_lexer.specs.declared.kind.TokenKind.TheVariants as kind
use Rattle.felm_lexer.specs.declared.token.Token.{Token}
use Rattle.felm_syntax.specs.declared.level.Level.{Level}
use Rattle.felm_syntax.specs.declared.level.Level.TheVariants as level
use Rattle.felm_syntax.specs.Expression.{Expression, Expressions}
use Rattle.felm_syntax.specs.Expression as expression
use Rattle.felm_syntax.specs.Nesting.{Nests}
use Rattle.felm_syntax.specs.Fronts.{Part}
use Rattle.felm_syntax.specs.Fronts as f
use Rattle.felm_syntax.specs.Nesting as path
use Rattle.felm_syntax.specs.Grammar.{Phrase, part}
use Rattle.felm_syntax.specs.Grammar as g
use Rattle.felm_syntax.specs.Kinds.{negated}
use Rattle.felm_syntax.specs.FirstFaults.{Depth}
use Rattle.felm_reading.specs.Reading.{◌>>=◌, Answer, Deeper, Whole, Right, Arguments, place, starts_atom, starts_operand, starts_expr, refused, expect, expect_word, name, numeral, has_mark, atom, bracketed, atoms, applies, applied, lift, foldp, async_of, negative, operand, continues, product, sum, compared, cmp, conjunction, disjunction, part_of, chained, function, binding, choice, expr, type_in, reads_in}
use Rattle.felm_reading.proofs.Ranks.{rank, level_rank, power}
use Rattle.felm_reading.proofs.Tokens.{name-is, number-is, name_read, number_read}
use Rattle.felm_reading.proofs.Firsts.{operator-rank, comparison-rank, small_rank_at, no_backslash, no_let, no_if, no_minus, no_foldp, no_async, no_lift, lift_no_minus, lift_no_foldp, lift_no_async, no_close, atom_operand, lift_operand_kind, operand_expr}
use Rattle.felm_reading.proofs.Runs.{no_front}
use Rattle.felm_reading.proofs.ExprRoom.{run, low, part_low, part_power, atom_starts, operand_starts, expr_starts, settles, deeper}
use Rattle.felm_reading.proofs.ExprRuns.{part_for, reads_read}
use Rattle.felm_reading.proofs.TypeMeets.{types_meet, type_agree, close_ends}
use Rattle.felm_reading.proofs.TypeRuns.{types_read}
use Rattle.felm_reading.proofs.Meets.{Ended, ended_ok, ended_out, Met, deep, Meets, ReadsOr, reads_or, Head, only, first, head, Starts, starts, starts_mark, starts_word, ended_of, ended_bind, ended_last, met_suc, meets_last, meets_none, meets_is, meets_bind, meets_first, meets_expect, meets_expect_word}

-- what begins a front
open_starts : {ts : List Token} → Starts (kind.Mark symbol.OpenBracket) ts → starts_atom ts ≡ true
open_starts (starts h) = rw h refl

minus_starts : {ts : List Token} → Starts (kind.Mark symbol.Minus) ts → starts_operand ts ≡ true
minus_starts (starts h) = rw h refl

foldp_starts : {ts : List Token} → Starts (kind.Word word.Foldp) ts → starts_operand ts ≡ true
foldp_starts (starts h) = rw h refl

async_starts : {ts : List Token} → Starts (kind.Word word.Async) ts → starts_operand ts ≡ true
async_starts (starts h) = rw h refl

backslash_starts : {ts : List Token} → Starts (kind.Mark symbol.Backslash) ts → starts_expr ts ≡ true
backslash_starts (starts h) = rw h refl

let_starts : {ts : List Token} → Starts (kind.Word word.Let) ts → starts_expr ts ≡ true
let_starts (starts h) = rw h refl

if_starts : {ts : List Token} → Starts (kind.Word word.If) ts → starts_expr ts ≡ true
if_starts (starts h) = rw h refl

name_starts : {text : List ℕ} {ps : List Part} {n : ℕ} {ts : List Token} → Head text f.name ps n ts → starts_atom ts ≡ true
name_starts {text} (only {t} (x, h)) = rw (name-is text t x h) refl
name_starts {text} (first {n} {t} (x, h) _) = rw (name-is text t x h) refl

number_starts : {text : List ℕ} {ps : List Part} {n : ℕ} {ts : List Token} → Head text f.number ps n ts → starts_atom ts ≡ true
number_starts (only {t} (x, h)) = rw (number-is t.kind x h) refl
number_starts (first {n} {t} (x, h) _) = rw (number-is t.kind x h) refl

lift_starts : {text : List ℕ} {m : ℕ} {ps : List Part} {n : ℕ} {ts : List Token} → Head text (f.lift_of m) ps n ts → starts_operand ts ≡ true
lift_starts {m} (only {t} h) = lift_operand_kind t.kind m h
lift_starts {m} (first {n} {t} h _) = lift_operand_kind t.kind m h

atom_front : {text : List ℕ} {ps : List Part} {n : ℕ} {ts : List Token} → Nests text (f.phrase g.atom ∷ ps) n ts → starts_atom ts ≡ true
atom_front (path.token h) = absurd h
atom_front (path.inside f.named d) = name_starts (head refl d)
atom_front (path.inside f.numbered d) = number_starts (head refl d)
atom_front (path.inside f.unit d) = open_starts (starts_mark d)
atom_front (path.inside f.brackets d) = open_starts (starts_mark d)
atom_front (path.deeper r _) = elim r [ ]
atom_front (path.after (f.whole_token h) _) = absurd h
atom_front (path.after (f.whole_phrase r) _) = atom_starts r

operand_front : {text : List ℕ} {p : Phrase} {ps : List Part} {n : ℕ} {ts : List Token} → Nests text (f.phrase p ∷ ps) n ts → low p ≡ true → starts_operand ts ≡ true
operand_front (path.token h) e = absurd h
operand_front (path.inside (f.chained {l}) d) e = operand_front d (part_low l)
operand_front (path.inside f.compared d) e = operand_front d refl
operand_front (path.inside f.negative d) e = minus_starts (starts_mark d)
operand_front (path.inside f.unsigned_operand d) e = operand_front d refl
operand_front (path.inside {ts} f.applied d) e = atom_operand ts (atom_front d)
operand_front (path.inside f.lift d) e = lift_starts (head refl d)
operand_front (path.inside f.foldp d) e = foldp_starts (starts_word d)
operand_front (path.inside f.async d) e = async_starts (starts_word d)
operand_front (path.inside {ts} f.named d) e = atom_operand ts (name_starts (head refl d))
operand_front (path.inside {ts} f.numbered d) e = atom_operand ts (number_starts (head refl d))
operand_front (path.inside {ts} f.unit d) e = atom_operand ts (open_starts (starts_mark d))
operand_front (path.inside {ts} f.brackets d) e = atom_operand ts (open_starts (starts_mark d))
operand_front (path.deeper f.function d) e = absurd (cc)
operand_front (path.deeper f.binding d) e = absurd (cc)
operand_front (path.deeper f.choice d) e = absurd (cc)
operand_front (path.deeper f.plain d) e = absurd (cc)
operand_front (path.after (f.whole_token h) _) e = absurd h
operand_front (path.after (f.whole_phrase r) _) e = operand_starts r e

expr_front : {text : List ℕ} {ps : List Part} {n : ℕ} {ts : List Token} → Nests text (f.phrase g.expr ∷ ps) n ts → starts_expr ts ≡ true
expr_front (path.token h) = absurd h
expr_front (path.inside r _) = elim r [ ]
expr_front (path.deeper f.function d) = backslash_starts (starts_mark d)
expr_front (path.deeper f.binding d) = let_starts (starts_word d)
expr_front (path.deeper f.choice d) = if_starts (starts_word d)
expr_front (path.deeper {ts} f.plain d) = operand_expr ts (operand_front d refl)
expr_front (path.after (f.whole_token h) _) = absurd h
expr_front (path.after (f.whole_phrase r) _) = expr_starts r

-- what ends a phrase
operation_rank : {text : List ℕ} {l : Level} {n : ℕ} {us : List Token} → Nests text (f.operations l ∷ []) n us → rank us ≡ level_rank l
operation_rank (path.token h) = absurd h
operation_rank {l} (path.inside f.operated d) = of_head (head refl d)
  where
    of_head : {text : List ℕ} {ps : List Part} {n : ℕ} {us : List Token} → Head text (f.operator_of l) ps n us → rank us ≡ level_rank l
    of_head (only {t} (sign, h)) = operator-rank l t.kind sign h
    of_head (first {n} {t} (sign, h) _) = operator-rank l t.kind sign h
operation_rank (path.deeper r _) = elim r [ ]
operation_rank (path.after w d) = no_front d refl

ends_part : {text : List ℕ} (l : Level) {n : ℕ} {us : List Token} → Nests text (f.operations l ∷ []) n us → rank us < power (part l)
ends_part l {n} {us} d = let e = operation_rank d in part_power l (rank us) (omega (arith, e))

ends_sum : {text : List ℕ} {n : ℕ} {us : List Token} → Nests text (f.comparing ∷ []) n us → rank us < 4
ends_sum (path.token h) = absurd h
ends_sum (path.inside f.compares d) = of_head (head refl d)
  where
    of_head : {text : List ℕ} {ps : List Part} {n : ℕ} {us : List Token} → Head text f.comparison_sign ps n us → rank us < 4
    of_head (only {t} (sign, h)) = let e = comparison-rank t.kind sign h in omega (arith, e)
    of_head (first {n} {t} (sign, h) _) = let e = comparison-rank t.kind sign h in omega (arith, e)
ends_sum (path.deeper r _) = elim r [ ]
ends_sum (path.after w d) = no_front d refl

close_ends_expr : {us : List Token} → Starts (kind.Mark symbol.CloseBracket) us → rank us < 1
close_ends_expr (starts h) = rw h (omega arith)

in_ends_expr : {us : List Token} → Starts (kind.Word word.In) us → rank us < 1
in_ends_expr (starts h) = rw h (omega arith)

then_ends_expr : {us : List Token} → Starts (kind.Word word.Then) us → rank us < 1
then_ends_expr (starts h) = rw h (omega arith)

else_ends_expr : {us : List Token} → Starts (kind.Word word.Else) us → rank us < 1
else_ends_expr (starts h) = rw h (omega arith)

dot_ends_type : {us : List Token} → Starts (kind.Mark symbol.Dot) us → has_mark symbol.Arrow us ≡ false
dot_ends_type (starts h) = rw h refl

-- a whole phrase that ends is read
agree : (text : List ℕ) (room : ℕ) (p : Phrase) (ts us : List Token) → rank us < power p → f.Whole text (f.phrase p) ts us → ReadsOr (run text room p ts) us
agree text room p ts us ends (f.whole_token h) = absurd h
agree text room p ts us ends (f.whole_phrase {e} r) = reads_or (run text room p ts) e us _ room ((settles text r ends).1 room)

pub expr_agree : (text : List ℕ) (room : ℕ) (ts us : List Token) → rank us < 1 → f.Whole text (f.phrase g.expr) ts us → ReadsOr (reads_in text room Whole ts) us
expr_agree text room ts us ends (f.whole_token h) = absurd h
expr_agree text room ts us ends (f.whole_phrase {e} r) =
    reads_or (reads_in text room Whole ts) e us _ room ((deeper text ts (e, us) (expr_starts r) (settles text r ends)).1 room)

module _ (text : List ℕ) (room : ℕ) (meets : (d : Deeper) → Meets text (part_for d ∷ []) room (reads_in text room d)) where
  inner_ends : (d : Deeper) → Ended text (reads_in text room d [])
  inner_ends d = ended_of text (part_for d ∷ []) room (reads_in text room d) (reads_read text room d)

  -- atoms
  enclosed_meets : Meets text (f.phrase g.expr ∷ f.mark symbol.CloseBracket ∷ []) room
      (λ us. reads_in text room Whole us >>= λ e. (expect text symbol.CloseBracket e.1 >>= λ rest. Ok (e.0, rest)))
  enclosed_meets =
      meets_bind text (f.phrase g.expr) (f.mark symbol.CloseBracket ∷ []) room (reads_in text room Whole) _ (meets Whole)
      (λ ts us n w d. expr_agree text room ts us (close_ends_expr (starts_mark d)) w) (λ x. close_ends text x)
      (λ x. meets_expect text symbol.CloseBracket [] room (λ rest. Ok (x, rest)) ended_ok (meets_none text room _))

  bracketed_ends : (at : ℕ) → Ended text (bracketed text (reads_in text room) at [])
  unfolding bracketed
  bracketed_ends at = ended_bind text (λ e. expect text symbol.CloseBracket e.1 >>= λ rest. Ok (e.0, rest)) (inner_ends Whole) (λ x. close_ends text x)

  bracketed_opens : (at : ℕ) (ts : List Token) → starts_expr ts ≡ true → bracketed text (reads_in text room) at ts
      ≡ (reads_in text room Whole ts >>= λ e. (expect text symbol.CloseBracket e.1 >>= λ rest. Ok (e.0, rest)))
  unfolding bracketed
  bracketed_opens at ts h = rw (no_close ts h) refl

  bracketed_closes : (at : ℕ) (t : Token) (us : List Token) → t.kind ≡ kind.Mark symbol.CloseBracket →
      bracketed text (reads_in text room) at (t ∷ us) ≡ Ok (expression.Unit at, us)
  unfolding bracketed
  bracketed_closes at t us h = rw h refl

  atom_meets : Meets text (f.phrase g.atom ∷ []) room (atom text (reads_in text room))
  unfolding atom
  atom_meets _ _ (path.token h) = absurd h
  atom_meets _ _ (path.inside {n} {ts} f.named d) =
      meets_first text f.name [] room (atom text (reads_in text room)) refl
      (λ t h. (λ us. Ok (expression.Name h.0 t.start, us), λ us. rw (name-is text t h.0 h.1, h.1) refl, ended_ok, meets_none text room _)) n ts d
  atom_meets _ _ (path.inside {n} {ts} f.numbered d) =
      meets_first text f.number [] room (atom text (reads_in text room)) refl
      (λ t h. (λ us. Ok (expression.Int h.0 t.start, us), λ us. rw (number-is t.kind h.0 h.1) refl, ended_ok, meets_none text room _)) n ts d
  atom_meets _ _ (path.inside {n} {ts} f.unit d) =
      meets_first text (f.mark symbol.OpenBracket) (f.mark symbol.CloseBracket ∷ []) room (atom text (reads_in text room)) refl
      (λ t h. (
        bracketed text (reads_in text room) t.start,
        λ us. rw h refl,
        bracketed_ends t.start,
        meets_first text (f.mark symbol.CloseBracket) [] room (bracketed text (reads_in text room) t.start) refl
            (λ c k. (λ us. Ok (expression.Unit t.start, us), λ us. bracketed_closes t.start c us k, ended_ok, meets_none text room _)),
      )) n ts d
  atom_meets _ _ (path.inside {n} {ts} f.brackets d) =
      meets_first text (f.mark symbol.OpenBracket) (f.phrase g.expr ∷ f.mark symbol.CloseBracket ∷ []) room (atom text (reads_in text room)) refl
      (λ t h. (
        bracketed text (reads_in text room) t.start,
        λ us. rw h refl,
        bracketed_ends t.start,
        meets_is text (f.phrase g.expr ∷ f.mark symbol.CloseBracket ∷ []) room (bracketed text (reads_in text room) t.start) _
            (λ m us k. bracketed_opens t.start us (expr_front k)) enclosed_meets,
      )) n ts d
  atom_meets _ _ (path.deeper r _) = elim r [ ]
  atom_meets _ _ (path.after w d) = no_front d refl

  atom_ends : Ended text (atom text (reads_in text room) [])
  unfolding atom
  atom_ends = ended_out

  atom_agree : (ts us : List Token) (ps : List Part) (n : ℕ) → f.Whole text (f.phrase g.atom) ts us → Nests text ps n us → ReadsOr (atom text (reads_in text room) ts) us
  atom_agree ts us ps n w d = agree text room g.atom ts us (small_rank_at us) w

  atoms_end : (n : ℕ) → Ended text (atoms text (reads_in text room) n [])
  unfolding atoms
  atoms_end zero = ended_ok
  atoms_end (suc n) = ended_bind text (λ a. atoms text (reads_in text room) n a.1 >>= λ others. Ok (expression.More a.0 others.0, others.1)) atom_ends
      (λ x. ended_last text (expression.More x) (atoms_end n))

  atoms_meet : (n : ℕ) → Meets text (f.atoms n ∷ []) room (atoms text (reads_in text room) n)
  unfolding atoms
  atoms_meet n _ _ (path.token h) = absurd h
  atoms_meet zero _ _ (path.inside r d) = elim r [ ]
  atoms_meet (suc m) _ _ (path.inside {n} {ts} f.one_more d) =
      meets_bind text (f.phrase g.atom) (f.atoms m ∷ []) room (atom text (reads_in text room)) _ atom_meets
      (λ vs us k w e. atom_agree vs us (f.atoms m ∷ []) k w e) (λ x. ended_last text (expression.More x) (atoms_end m))
      (λ x. meets_last text (f.atoms m ∷ []) room (atoms text (reads_in text room) m) (expression.More x) (atoms_meet m)) n ts d
  atoms_meet n _ _ (path.deeper r _) = elim r [ ]
  atoms_meet n _ _ (path.after w d) = no_front d refl

  -- arguments
  applies_ends : (fn : Expression) → Ended text (applies text (reads_in text room) fn [])
  unfolding applies
  applies_ends fn = ended_ok

  applies_is : (fn : Expression) (ts : List Token) → starts_atom ts ≡ true → applies text (reads_in text room) fn ts
      ≡ (atom text (reads_in text room) ts >>= λ a. reads_in text room (Arguments (expression.App fn a.0 (place text ts))) a.1)
  unfolding applies
  applies_is fn ts h = rw h refl

  argument_meets : (fn : Expression) → Meets text (f.phrase g.atom ∷ f.others ∷ []) room (applies text (reads_in text room) fn)
  argument_meets fn n ts d =
      subst (Met text n room) (sym (applies_is fn ts (atom_front d)))
      (meets_bind text (f.phrase g.atom) (f.others ∷ []) room (atom text (reads_in text room))
      (λ a. reads_in text room (Arguments (expression.App fn a.0 (place text ts))) a.1) atom_meets
      (λ vs us k w e. atom_agree vs us (f.others ∷ []) k w e) (λ x. inner_ends (Arguments (expression.App fn x (place text ts))))
      (λ x. meets (Arguments (expression.App fn x (place text ts)))) n ts d)

  applies_meet : (fn : Expression) → Meets text (f.arguments ∷ []) room (applies text (reads_in text room) fn)
  applies_meet fn _ _ (path.token h) = absurd h
  applies_meet fn _ _ (path.inside {n} {ts} f.argument d) = argument_meets fn n ts d
  applies_meet fn _ _ (path.deeper r _) = elim r [ ]
  applies_meet fn _ _ (path.after w d) = no_front d refl

  -- operands
  numeral_ends : Ended text (numeral negated text [])
  unfolding numeral
  numeral_ends = ended_out

  negated_meets : Meets text (f.negated ∷ []) room (numeral negated text)
  negated_meets =
      meets_first text f.negated [] room (numeral negated text) refl
      (λ t h. (λ us. Ok (h.0, us), λ us. number_read negated text t us h.0 h.1, ended_ok, meets_none text room _))

  applied_is : (ts : List Token) → starts_atom ts ≡ true → operand text (reads_in text room) ts
      ≡ (atom text (reads_in text room) ts >>= λ a. applies text (reads_in text room) a.0 a.1)
  unfolding operand applied
  applied_is ts s = rw (no_minus ts s, no_foldp ts s, no_async ts s, no_lift ts s) refl

  applied_meets : Meets text (f.phrase g.atom ∷ f.arguments ∷ []) room (operand text (reads_in text room))
  applied_meets =
      meets_is text (f.phrase g.atom ∷ f.arguments ∷ []) room (operand text (reads_in text room)) _ (λ n ts d. applied_is ts (atom_front d))
      (meets_bind text (f.phrase g.atom) (f.arguments ∷ []) room (atom text (reads_in text room)) (λ a. applies text (reads_in text room) a.0 a.1) atom_meets
      (λ vs us k w e. atom_agree vs us (f.arguments ∷ []) k w e) applies_ends applies_meet)

  lift_meets : (m : ℕ) → Meets text (f.lift_of m ∷ f.phrase g.atom ∷ f.atoms m ∷ []) room (operand text (reads_in text room))
  unfolding operand lift
  lift_meets m =
      meets_first text (f.lift_of m) (f.phrase g.atom ∷ f.atoms m ∷ []) room (operand text (reads_in text room)) refl
      (λ t h. (
        λ us. atom text (reads_in text room) us >>= λ a. (atoms text (reads_in text room) m a.1 >>= λ es. Ok (expression.Lift a.0 es.0 t.start, es.1)),
        λ us. rw (lift_no_minus t.kind m h, lift_no_foldp t.kind m h, lift_no_async t.kind m h, h) refl,
        ended_bind text (λ a. atoms text (reads_in text room) m a.1 >>= λ es. Ok (expression.Lift a.0 es.0 t.start, es.1)) atom_ends
            (λ x. ended_last text (λ es. expression.Lift x es t.start) (atoms_end m)),
        meets_bind text (f.phrase g.atom) (f.atoms m ∷ []) room (atom text (reads_in text room))
            (λ a. atoms text (reads_in text room) m a.1 >>= λ es. Ok (expression.Lift a.0 es.0 t.start, es.1)) atom_meets
            (λ vs us k w e. atom_agree vs us (f.atoms m ∷ []) k w e) (λ x. ended_last text (λ es. expression.Lift x es t.start) (atoms_end m))
            (λ x. meets_last text (f.atoms m ∷ []) room (atoms text (reads_in text room) m) (λ es. expression.Lift x es t.start) (atoms_meet m)),
      ))

  foldp_meets : Meets text (f.word_of word.Foldp ∷ f.phrase g.atom ∷ f.phrase g.atom ∷ f.phrase g.atom ∷ []) room (operand text (reads_in text room))
  unfolding operand foldp
  foldp_meets =
      meets_first text (f.word_of word.Foldp) (f.phrase g.atom ∷ f.phrase g.atom ∷ f.phrase g.atom ∷ []) room (operand text (reads_in text room)) refl
      (λ t h. (
        λ us. atom text (reads_in text room) us >>= λ a. (atom text (reads_in text room) a.1 >>= λ b. (atom text (reads_in text room) b.1 >>= λ s. Ok (expression.Foldp a.0 b.0 s.0 t.start, s.1))),
        λ us. rw h refl,
        ended_bind text (λ a. atom text (reads_in text room) a.1 >>= λ b. (atom text (reads_in text room) b.1 >>= λ s. Ok (expression.Foldp a.0 b.0 s.0 t.start, s.1))) atom_ends (λ a. two a t.start),
        meets_bind text (f.phrase g.atom) (f.phrase g.atom ∷ f.phrase g.atom ∷ []) room (atom text (reads_in text room))
            (λ a. atom text (reads_in text room) a.1 >>= λ b. (atom text (reads_in text room) b.1 >>= λ s. Ok (expression.Foldp a.0 b.0 s.0 t.start, s.1))) atom_meets
            (λ vs us k w e. atom_agree vs us (f.phrase g.atom ∷ f.phrase g.atom ∷ []) k w e) (λ a. two a t.start)
            (λ a. meets_bind text (f.phrase g.atom) (f.phrase g.atom ∷ []) room (atom text (reads_in text room))
            (λ b. atom text (reads_in text room) b.1 >>= λ s. Ok (expression.Foldp a b.0 s.0 t.start, s.1)) atom_meets
            (λ vs us k w e. atom_agree vs us (f.phrase g.atom ∷ []) k w e) (λ b. ended_last text (λ s. expression.Foldp a b s t.start) atom_ends)
            (λ b. meets_last text (f.phrase g.atom ∷ []) room (atom text (reads_in text room)) (λ s. expression.Foldp a b s t.start) atom_meets)),
      ))
    where
      two : (a : Expression) (at : ℕ) → Ended text (atom text (reads_in text room) [] >>= λ b. (atom text (reads_in text room) b.1 >>= λ s. Ok (expression.Foldp a b.0 s.0 at, s.1)))
      two a at = ended_bind text (λ b. atom text (reads_in text room) b.1 >>= λ s. Ok (expression.Foldp a b.0 s.0 at, s.1)) atom_ends (λ b. ended_last text (λ s. expression.Foldp a b s at) atom_ends)

  async_meets : Meets text (f.word_of word.Async ∷ f.phrase g.atom ∷ []) room (operand text (reads_in text room))
  unfolding operand async_of
  async_meets =
      meets_first text (f.word_of word.Async) (f.phrase g.atom ∷ []) room (operand text (reads_in text room)) refl
      (λ t h. (
        λ us. atom text (reads_in text room) us >>= λ s. Ok (expression.Async s.0 t.start, s.1),
        λ us. rw h refl,
        ended_last text (λ s. expression.Async s t.start) atom_ends,
        meets_last text (f.phrase g.atom ∷ []) room (atom text (reads_in text room)) (λ s. expression.Async s t.start) atom_meets,
      ))

  app_meets : Meets text (f.phrase g.app ∷ []) room (operand text (reads_in text room))
  app_meets _ _ (path.token h) = absurd h
  app_meets _ _ (path.inside {n} {ts} f.applied d) = applied_meets n ts d
  app_meets _ _ (path.inside {n} {ts} (f.lift {n = m}) d) = lift_meets m n ts d
  app_meets _ _ (path.inside {n} {ts} f.foldp d) = foldp_meets n ts d
  app_meets _ _ (path.inside {n} {ts} f.async d) = async_meets n ts d
  app_meets _ _ (path.deeper r _) = elim r [ ]
  app_meets _ _ (path.after w d) = no_front d refl

  operand_meets : Meets text (f.phrase g.operand ∷ []) room (operand text (reads_in text room))
  unfolding operand negative
  operand_meets _ _ (path.token h) = absurd h
  operand_meets _ _ (path.inside {n} {ts} f.negative d) =
      meets_first text (f.mark symbol.Minus) (f.negated ∷ []) room (operand text (reads_in text room)) refl
      (λ t h. (
        λ us. numeral negated text us >>= λ n. Ok (expression.Int n.0 t.start, n.1),
        λ us. rw h refl,
        ended_last text (λ n. expression.Int n t.start) numeral_ends,
        meets_last text (f.negated ∷ []) room (numeral negated text) (λ n. expression.Int n t.start) negated_meets,
      )) n ts d
  operand_meets _ _ (path.inside {n} {ts} f.unsigned_operand d) = app_meets n ts d
  operand_meets _ _ (path.deeper r _) = elim r [ ]
  operand_meets _ _ (path.after w d) = no_front d refl

  -- chains
  continues_end : (l : Level) (left : Expression) → Ended text (continues text (reads_in text room) l left [])
  unfolding continues
  continues_end l left = ended_ok

  continues_meet : (l : Level) (left : Expression) → Meets text (f.operations l ∷ []) room (continues text (reads_in text room) l left)
  unfolding continues
  continues_meet l left _ _ (path.token h) = absurd h
  continues_meet l left _ _ (path.inside {n} {ts} f.operated d) =
      meets_first text (f.operator_of l) (f.right l ∷ []) room (continues text (reads_in text room) l left) refl
      (λ t h. (
        reads_in text room (Right l h.0 t.start left),
        λ us. rw (h.1, continues) refl,
        inner_ends (Right l h.0 t.start left),
        meets (Right l h.0 t.start left),
      )) n ts d
  continues_meet l left _ _ (path.deeper r _) = elim r [ ]
  continues_meet l left _ _ (path.after w d) = no_front d refl

  chain_meets : (l : Level) (reader : List Token → Answer Expression) → Meets text (f.phrase (part l) ∷ []) room reader →
      ((ts us : List Token) → rank us < power (part l) → f.Whole text (f.phrase (part l)) ts us → ReadsOr (reader ts) us) →
      Meets text (f.phrase (part l) ∷ f.operations l ∷ []) room (λ us. reader us >>= λ a. continues text (reads_in text room) l a.0 a.1)
  chain_meets l reader part_meets reads =
      meets_bind text (f.phrase (part l)) (f.operations l ∷ []) room reader (λ a. continues text (reads_in text room) l a.0 a.1) part_meets
      (λ ts us n w d. reads ts us (ends_part l d) w) (λ x. continues_end l x) (λ x. continues_meet l x)

  product_meets : Meets text (f.phrase (g.chain level.Product) ∷ []) room (product text (reads_in text room))
  unfolding product
  product_meets _ _ (path.token h) = absurd h
  product_meets _ _ (path.inside {n} {ts} f.chained d) =
      chain_meets level.Product (operand text (reads_in text room)) operand_meets (agree text room g.operand) n ts d
  product_meets _ _ (path.deeper r _) = elim r [ ]
  product_meets _ _ (path.after w d) = no_front d refl

  product_agree : (ts us : List Token) → rank us < 5 → f.Whole text (f.phrase (g.chain level.Product)) ts us → ReadsOr (product text (reads_in text room) ts) us
  unfolding chained
  product_agree = agree text room (g.chain level.Product)

  sum_meets : Meets text (f.phrase (g.chain level.Sum) ∷ []) room (sum text (reads_in text room))
  unfolding sum
  sum_meets _ _ (path.token h) = absurd h
  sum_meets _ _ (path.inside {n} {ts} f.chained d) = chain_meets level.Sum (product text (reads_in text room)) product_meets product_agree n ts d
  sum_meets _ _ (path.deeper r _) = elim r [ ]
  sum_meets _ _ (path.after w d) = no_front d refl

  sum_agree : (ts us : List Token) → rank us < 4 → f.Whole text (f.phrase (g.chain level.Sum)) ts us → ReadsOr (sum text (reads_in text room) ts) us
  unfolding chained
  sum_agree = agree text room (g.chain level.Sum)

  sum_ends : Ended text (sum text (reads_in text room) [])
  unfolding sum product operand applied atom
  sum_ends = ended_out

  compared_ends : (left : Expression) → Ended text (compared text (reads_in text room) left [])
  unfolding compared
  compared_ends left = ended_ok

  compared_meets : (left : Expression) → Meets text (f.comparing ∷ []) room (compared text (reads_in text room) left)
  unfolding compared
  compared_meets left _ _ (path.token h) = absurd h
  compared_meets left _ _ (path.inside {n} {ts} f.compares d) =
      meets_first text f.comparison_sign (f.phrase (g.chain level.Sum) ∷ []) room (compared text (reads_in text room) left) refl
      (λ t h. (
        λ us. sum text (reads_in text room) us >>= λ b. Ok (expression.Bin h.0 left b.0 t.start, b.1),
        λ us. rw (h.1, compared) refl,
        ended_last text (λ b. expression.Bin h.0 left b t.start) sum_ends,
        meets_last text (f.phrase (g.chain level.Sum) ∷ []) room (sum text (reads_in text room)) (λ b. expression.Bin h.0 left b t.start) sum_meets,
      )) n ts d
  compared_meets left _ _ (path.deeper r _) = elim r [ ]
  compared_meets left _ _ (path.after w d) = no_front d refl

  cmp_meets : Meets text (f.phrase g.cmp ∷ []) room (cmp text (reads_in text room))
  unfolding cmp
  cmp_meets _ _ (path.token h) = absurd h
  cmp_meets _ _ (path.inside {n} {ts} f.compared d) =
      meets_bind text (f.phrase (g.chain level.Sum)) (f.comparing ∷ []) room (sum text (reads_in text room)) (λ a. compared text (reads_in text room) a.0 a.1) sum_meets
      (λ vs us m w k. sum_agree vs us (ends_sum k) w) compared_ends compared_meets n ts d
  cmp_meets _ _ (path.deeper r _) = elim r [ ]
  cmp_meets _ _ (path.after w d) = no_front d refl

  conjunction_meets : Meets text (f.phrase (g.chain level.And) ∷ []) room (conjunction text (reads_in text room))
  unfolding conjunction
  conjunction_meets _ _ (path.token h) = absurd h
  conjunction_meets _ _ (path.inside {n} {ts} f.chained d) = chain_meets level.And (cmp text (reads_in text room)) cmp_meets (agree text room g.cmp) n ts d
  conjunction_meets _ _ (path.deeper r _) = elim r [ ]
  conjunction_meets _ _ (path.after w d) = no_front d refl

  conjunction_agree : (ts us : List Token) → rank us < 2 → f.Whole text (f.phrase (g.chain level.And)) ts us → ReadsOr (conjunction text (reads_in text room) ts) us
  unfolding chained
  conjunction_agree = agree text room (g.chain level.And)

  disjunction_meets : Meets text (f.phrase (g.chain level.Or) ∷ []) room (disjunction text (reads_in text room))
  unfolding disjunction
  disjunction_meets _ _ (path.token h) = absurd h
  disjunction_meets _ _ (path.inside {n} {ts} f.chained d) = chain_meets level.Or (conjunction text (reads_in text room)) conjunction_meets conjunction_agree n ts d
  disjunction_meets _ _ (path.deeper r _) = elim r [ ]
  disjunction_meets _ _ (path.after w d) = no_front d refl

  part_meets : (l : Level) → Meets text (f.phrase (part l) ∷ []) room (part_of text (reads_in text room) l)
  unfolding part_of
  part_meets level.Or = conjunction_meets
  part_meets level.And = cmp_meets
  part_meets level.Sum = product_meets
  part_meets level.Product = operand_meets

  part_agree : (l : Level) (ts us : List Token) → rank us < power (part l) → f.Whole text (f.phrase (part l)) ts us → ReadsOr (part_of text (reads_in text room) l ts) us
  unfolding part_of
  part_agree level.Or = conjunction_agree
  part_agree level.And = agree text room g.cmp
  part_agree level.Sum = product_agree
  part_agree level.Product = agree text room g.operand

  pub right_meets : (l : Level) (sign : Op) (at : ℕ) (left : Expression) → Meets text (f.right l ∷ []) (suc room)
      (λ ts. part_of text (reads_in text room) l ts >>= λ b. continues text (reads_in text room) l (expression.Bin sign left b.0 at) b.1)
  right_meets l sign at left _ _ (path.token h) = absurd h
  right_meets l sign at left _ _ (path.inside r _) = elim r [ ]
  right_meets l sign at left _ _ (path.deeper {n} {ts} f.right_is d) = met_suc text n room
      (meets_bind text (f.phrase (part l)) (f.operations l ∷ []) room (part_of text (reads_in text room) l)
      (λ b. continues text (reads_in text room) l (expression.Bin sign left b.0 at) b.1) (part_meets l)
      (λ vs us m w k. part_agree l vs us (ends_part l k) w) (λ x. continues_end l (expression.Bin sign left x at))
      (λ x. continues_meet l (expression.Bin sign left x at)) n ts d)
  right_meets l sign at left _ _ (path.after w d) = no_front d refl

  pub others_meet : (fn : Expression) → Meets text (f.others ∷ []) (suc room) (applies text (reads_in text room) fn)
  others_meet fn _ _ (path.token h) = absurd h
  others_meet fn _ _ (path.inside r _) = elim r [ ]
  others_meet fn _ _ (path.deeper {n} {ts} f.another d) = met_suc text n room (argument_meets fn n ts d)
  others_meet fn _ _ (path.after w d) = no_front d refl

  -- whole expressions
  name_meets : Meets text (f.name ∷ []) room (name text)
  name_meets =
      meets_first text f.name [] room (name text) refl
      (λ t h. (λ us. Ok (h.0, us), λ us. name_read text t us h.0 h.1, ended_ok, meets_none text room _))

  name_agree : (ts us : List Token) → f.Whole text f.name ts us → ReadsOr (name text ts) us
  name_agree _ _ (f.whole_token {t} {rest} h) = inl (h.0, name_read text t rest h.0 h.1)

  name_ends : Ended text (name text [])
  unfolding name
  name_ends = ended_out

  -- an expression to its end, and made into a value
  body_meets : (h : Expression → Expression) → Meets text (f.phrase g.expr ∷ []) room (λ us. reads_in text room Whole us >>= λ b. Ok (h b.0, b.1))
  body_meets h = meets_last text (f.phrase g.expr ∷ []) room (reads_in text room Whole) h (meets Whole)

  body_ends : (h : Expression → Expression) → Ended text (reads_in text room Whole [] >>= λ b. Ok (h b.0, b.1))
  body_ends h = ended_last text h (inner_ends Whole)

  mark_ends : {X : Type 0} (s : Symbol) (k : List Token → Answer X) → Ended text (expect text s [] >>= k)
  unfolding expect
  mark_ends s k = ended_out

  word_ends : {X : Type 0} (w : WordKind) (k : List Token → Answer X) → Ended text (expect_word text w [] >>= k)
  unfolding expect_word
  word_ends w k = ended_out

  type_ends : Ended text (type_in text room [])
  type_ends = ended_of text (f.type g.whole ∷ []) room (type_in text room) (types_read text room)

  typed_meets : (x : List ℕ) (start : ℕ) → Meets text (f.type g.whole ∷ f.mark symbol.Dot ∷ f.phrase g.expr ∷ []) room
      (λ us. type_in text room us >>= λ ty. (expect text symbol.Dot ty.1 >>= λ vs. (reads_in text room Whole vs >>= λ b. Ok (expression.Lam x ty.0 (place text us) b.0 start, b.1))))
  typed_meets x start n ts d =
      meets_bind text (f.type g.whole) (f.mark symbol.Dot ∷ f.phrase g.expr ∷ []) room (type_in text room)
      (λ ty. expect text symbol.Dot ty.1 >>= λ vs. (reads_in text room Whole vs >>= λ b. Ok (expression.Lam x ty.0 (place text ts) b.0 start, b.1)))
      (types_meet text room) (λ vs us m w k. type_agree text room vs us (dot_ends_type (starts_mark k)) w) (λ ty. mark_ends symbol.Dot _)
      (λ ty. meets_expect text symbol.Dot (f.phrase g.expr ∷ []) room _ (body_ends (λ b. expression.Lam x ty (place text ts) b start))
      (body_meets (λ b. expression.Lam x ty (place text ts) b start))) n ts d

  function_meets : Meets text (f.mark symbol.Backslash ∷ f.name ∷ f.mark symbol.Colon ∷ f.type g.whole ∷ f.mark symbol.Dot ∷ f.phrase g.expr ∷ []) room
      (expr text (reads_in text room) (type_in text room))
  unfolding expr function
  function_meets =
      meets_first text (f.mark symbol.Backslash) (f.name ∷ f.mark symbol.Colon ∷ f.type g.whole ∷ f.mark symbol.Dot ∷ f.phrase g.expr ∷ []) room
      (expr text (reads_in text room) (type_in text room)) refl
      (λ t h. (
        λ us. name text us >>= λ x. (expect text symbol.Colon x.1 >>= λ us. (type_in text room us >>= λ ty.
            (expect text symbol.Dot ty.1 >>= λ vs. (reads_in text room Whole vs >>= λ b. Ok (expression.Lam x.0 ty.0 (place text us) b.0 t.start, b.1))))),
        λ us. rw h refl,
        ended_bind text _ name_ends (λ x. mark_ends symbol.Colon _),
        meets_bind text f.name (f.mark symbol.Colon ∷ f.type g.whole ∷ f.mark symbol.Dot ∷ f.phrase g.expr ∷ []) room (name text) _ name_meets
            (λ ts us n w d. name_agree ts us w) (λ x. mark_ends symbol.Colon _)
            (λ x. meets_expect text symbol.Colon (f.type g.whole ∷ f.mark symbol.Dot ∷ f.phrase g.expr ∷ []) room _
            (ended_bind text _ type_ends (λ ty. mark_ends symbol.Dot _)) (typed_meets x t.start)),
      ))

  binding_meets : Meets text (f.word_of word.Let ∷ f.name ∷ f.mark symbol.Equals ∷ f.phrase g.expr ∷ f.word_of word.In ∷ f.phrase g.expr ∷ []) room
      (expr text (reads_in text room) (type_in text room))
  unfolding expr binding
  binding_meets =
      meets_first text (f.word_of word.Let) (f.name ∷ f.mark symbol.Equals ∷ f.phrase g.expr ∷ f.word_of word.In ∷ f.phrase g.expr ∷ []) room
      (expr text (reads_in text room) (type_in text room)) refl
      (λ t h. (
        λ us. name text us >>= λ x. (expect text symbol.Equals x.1 >>= λ us. (reads_in text room Whole us >>= λ a.
            (expect_word text word.In a.1 >>= λ vs. (reads_in text room Whole vs >>= λ b. Ok (expression.Let x.0 a.0 b.0 t.start, b.1))))),
        λ us. rw h refl,
        ended_bind text _ name_ends (λ x. mark_ends symbol.Equals _),
        meets_bind text f.name (f.mark symbol.Equals ∷ f.phrase g.expr ∷ f.word_of word.In ∷ f.phrase g.expr ∷ []) room (name text) _ name_meets
            (λ ts us n w d. name_agree ts us w) (λ x. mark_ends symbol.Equals _)
            (λ x. meets_expect text symbol.Equals (f.phrase g.expr ∷ f.word_of word.In ∷ f.phrase g.expr ∷ []) room _
            (ended_bind text _ (inner_ends Whole) (λ a. word_ends word.In _))
            (meets_bind text (f.phrase g.expr) (f.word_of word.In ∷ f.phrase g.expr ∷ []) room (reads_in text room Whole) _ (meets Whole)
            (λ ts us n w d. expr_agree text room ts us (in_ends_expr (starts_word d)) w) (λ a. word_ends word.In _)
            (λ a. meets_expect_word text word.In (f.phrase g.expr ∷ []) room _ (body_ends (λ b. expression.Let x a b t.start)) (body_meets (λ b. expression.Let x a b t.start))))),
      ))

  choice_meets : Meets text (f.word_of word.If ∷ f.phrase g.expr ∷ f.word_of word.Then ∷ f.phrase g.expr ∷ f.word_of word.Else ∷ f.phrase g.expr ∷ []) room
      (expr text (reads_in text room) (type_in text room))
  unfolding expr choice
  choice_meets =
      meets_first text (f.word_of word.If) (f.phrase g.expr ∷ f.word_of word.Then ∷ f.phrase g.expr ∷ f.word_of word.Else ∷ f.phrase g.expr ∷ []) room
      (expr text (reads_in text room) (type_in text room)) refl
      (λ t h. (
        λ us. reads_in text room Whole us >>= λ c. (expect_word text word.Then c.1 >>= λ us. (reads_in text room Whole us >>= λ a.
            (expect_word text word.Else a.1 >>= λ vs. (reads_in text room Whole vs >>= λ b. Ok (expression.If c.0 a.0 b.0 t.start, b.1))))),
        λ us. rw h refl,
        ended_bind text _ (inner_ends Whole) (λ c. word_ends word.Then _),
        meets_bind text (f.phrase g.expr) (f.word_of word.Then ∷ f.phrase g.expr ∷ f.word_of word.Else ∷ f.phrase g.expr ∷ []) room (reads_in text room Whole) _ (meets Whole)
            (λ ts us n w d. expr_agree text room ts us (then_ends_expr (starts_word d)) w) (λ c. word_ends word.Then _)
            (λ c. meets_expect_word text word.Then (f.phrase g.expr ∷ f.word_of word.Else ∷ f.phrase g.expr ∷ []) room _
            (ended_bind text _ (inner_ends Whole) (λ a. word_ends word.Else _))
            (meets_bind text (f.phrase g.expr) (f.word_of word.Else ∷ f.phrase g.expr ∷ []) room (reads_in text room Whole) _ (meets Whole)
            (λ ts us n w d. expr_agree text room ts us (else_ends_expr (starts_word d)) w) (λ a. word_ends word.Else _)
            (λ a. meets_expect_word text word.Else (f.phrase g.expr ∷ []) room _ (body_ends (λ b. expression.If c a b t.start)) (body_meets (λ b. expression.If c a b t.start))))),
      ))

  plain_is : (ts : List Token) → starts_operand ts ≡ true → expr text (reads_in text room) (type_in text room) ts ≡ disjunction text (reads_in text room) ts
  unfolding expr
  plain_is ts s = rw (no_backslash ts s, no_let ts s, no_if ts s) refl

  pub expr_meets : Meets text (f.phrase g.expr ∷ []) (suc room) (expr text (reads_in text room) (type_in text room))
  expr_meets _ _ (path.token h) = absurd h
  expr_meets _ _ (path.inside r _) = elim r [ ]
  expr_meets _ _ (path.deeper {n} {ts} f.function d) = met_suc text n room (function_meets n ts d)
  expr_meets _ _ (path.deeper {n} {ts} f.binding d) = met_suc text n room (binding_meets n ts d)
  expr_meets _ _ (path.deeper {n} {ts} f.choice d) = met_suc text n room (choice_meets n ts d)
  expr_meets _ _ (path.deeper {n} {ts} f.plain d) = met_suc text n room
      (subst (Met text n room) (sym (plain_is ts (operand_front d refl))) (disjunction_meets n ts d))
  expr_meets _ _ (path.after w d) = no_front d refl

-- what begins what stands behind an operator or an argument
right_front : {text : List ℕ} {l : Level} {n : ℕ} {ts : List Token} → Nests text (f.right l ∷ []) n ts → starts_operand ts ≡ true
right_front (path.token h) = absurd h
right_front (path.inside r _) = elim r [ ]
right_front {l} (path.deeper f.right_is d) = operand_front d (part_low l)
right_front (path.after w d) = no_front d refl

others_front : {text : List ℕ} {n : ℕ} {ts : List Token} → Nests text (f.others ∷ []) n ts → starts_atom ts ≡ true
others_front (path.token h) = absurd h
others_front (path.inside r _) = elim r [ ]
others_front (path.deeper f.another d) = atom_front d
others_front (path.after w d) = no_front d refl

-- A front of what nests deeper is read to its end, if it has room.
pub reads_meet : (text : List ℕ) (room : ℕ) (d : Deeper) → Meets text (part_for d ∷ []) room (reads_in text room d)
unfolding reads_in
reads_meet text zero Whole n ts d = subst (λ b. Met {X = Expression} text n 0 (Err (refused text b ts))) (sym (expr_front d)) deep
reads_meet text zero (Right l sign at left) n ts d = subst (λ b. Met {X = Expression} text n 0 (Err (refused text b ts))) (sym (right_front d)) deep
reads_meet text zero (Arguments fn) n ts d =
    subst (λ b. Met {X = Expression} text n 0 (if b then Err (Depth (place text ts)) else Ok (fn, ts))) (sym (others_front d)) deep
reads_meet text (suc room) Whole n ts d = expr_meets text room (reads_meet text room) n ts d
reads_meet text (suc room) (Right l sign at left) n ts d = right_meets text room (reads_meet text room) l sign at left n ts d
reads_meet text (suc room) (Arguments fn) n ts d = others_meet text room (reads_meet text room) fn n ts d
