-- Expressions are read as the grammar says.
use Rattle.std.proofs.Common.{◌≡◌, ℕ, zero, suc, ◌<◌, ◌≤◌, max, refl, arith, List, ◌∷◌, Bool, true, false}
use Rattle.felm_term.specs.declared.op.Op.{Op}
use Rattle.felm_syntax.specs.Kinds.{negated}
use Rattle.felm_syntax.specs.Expression.{Expression, Expressions}
use Rattle.felm_syntax.specs.Expression as expression
use Rattle.felm_lexer.specs.declared.token.Token.{Token}
use Rattle.felm_syntax.specs.declared.level.Level.{Level}
use Rattle.felm_syntax.specs.declared.level.Level.TheVariants as level
use Rattle.felm_syntax.specs.Grammar.{Phrase, part, ReadsType, Reads, Continues, Applies, ReadsAll}
use Rattle.felm_syntax.specs.Grammar as g
use Rattle.std.specs.Prelude.{Ok}
use Rattle.felm_reading.specs.Reading.{◌>>=◌, Answer, Reader, Whole, Right, Arguments, place, starts_atom, starts_operand, starts_expr, expect, expect_word, type_in, atom, bracketed, atoms, applies, applied, lift, foldp, async_of, negative, operand, continues, product, sum, compared, cmp, conjunction, disjunction, part_of, chained, function, binding, choice, expr, reads_in}
use Rattle.felm_reading.proofs.Ranks.{rank, kind_rank, level_rank, power}
use Rattle.felm_reading.proofs.Tokens.{number-is, name-is, name_read, number_read}
use Rattle.felm_reading.proofs.Room.{Agrees, Settles, settles_ok, agrees_suc, agrees_full, agrees_bind, agrees_last, agrees_is}
use Rattle.felm_reading.proofs.TypeRoom.{type_settles, type_deeper, type_starts}
use Rattle.felm_reading.proofs.Firsts.{operator-rank, comparison-rank, no_operator_at, no_comparison_at, no_atom_at, small_rank_at, no_backslash, no_let, no_if, no_minus, no_foldp, no_async, no_lift, lift_no_minus, lift_no_foldp, lift_no_async, no_close, atom_operand, lift_operand_kind, operand_expr}

-- how a phrase is read
abbrev pub run : List ℕ → ℕ → Phrase → List Token → Answer Expression
run text room g.expr ts = expr text (reads_in text room) (type_in text room) ts
run text room (g.chain l) ts = chained text (reads_in text room) l ts
run text room g.cmp ts = cmp text (reads_in text room) ts
run text room g.operand ts = operand text (reads_in text room) ts
run text room g.app ts = operand text (reads_in text room) ts
run text room g.atom ts = atom text (reads_in text room) ts

-- phrases that an operand begins
abbrev pub low : Phrase → Bool
low g.expr = false
low (g.chain _) = true
low g.cmp = true
low g.operand = true
low g.app = true
low g.atom = true

pub part_low : (l : Level) → low (part l) ≡ true
part_low level.Or = refl
part_low level.And = refl
part_low level.Sum = refl
part_low level.Product = refl

pub atom_starts : {text : List ℕ} {ts rest : List Token} {e : Expression} → Reads text g.atom ts rest e → starts_atom ts ≡ true
atom_starts {text} (g.name {t} {rest} {x} h) = rw (name-is text t x h) refl
atom_starts (g.number {t} {rest} {n} h) = rw (number-is t.kind n h) refl
atom_starts (g.unit o c) = rw o refl
atom_starts (g.brackets o d c) = rw o refl

pub operand_starts : {text : List ℕ} {p : Phrase} {ts rest : List Token} {e : Expression} → Reads text p ts rest e → low p ≡ true → starts_operand ts ≡ true
operand_starts (g.function _ _ _ _ _ _) h = cc
operand_starts (g.binding _ _ _ _ _ _) h = cc
operand_starts (g.choice _ _ _ _ _ _) h = cc
operand_starts (g.plain d) h = cc
operand_starts (g.chained {l} first others) h = operand_starts first (part_low l)
operand_starts (g.compared a o b) h = operand_starts a refl
operand_starts (g.alone d) h = operand_starts d refl
operand_starts (g.negative k n) h = rw k refl
operand_starts (g.unsigned_operand d) h = operand_starts d refl
operand_starts (g.applied {ts} f others) h = atom_operand ts (atom_starts f)
operand_starts (g.lift {t} {ts} {us} {rest} {n} k f others) h = lift_operand_kind t.kind n k
operand_starts (g.foldp k f b s) h = rw k refl
operand_starts (g.async k s) h = rw k refl
operand_starts {text} (g.name {t} {rest} {x} k) h = atom_operand (t ∷ rest) (rw (name-is text t x k) refl)
operand_starts (g.number {t} {rest} {n} k) h = atom_operand (t ∷ rest) (rw (number-is t.kind n k) refl)
operand_starts (g.unit {o} {c} {rest} k j) h = atom_operand (o ∷ c ∷ rest) (rw k refl)
operand_starts (g.brackets {o} {c} {ts} k d j) h = atom_operand (o ∷ ts) (rw k refl)

pub expr_starts : {text : List ℕ} {ts rest : List Token} {e : Expression} → Reads text g.expr ts rest e → starts_expr ts ≡ true
expr_starts (g.function h _ _ _ _ _) = rw h refl
expr_starts (g.binding h _ _ _ _ _) = rw h refl
expr_starts (g.choice h _ _ _ _ _) = rw h refl
expr_starts (g.plain {ts} d) = operand_expr ts (operand_starts d refl)

pub run_part : (text : List ℕ) (room : ℕ) (l : Level) (ts : List Token) → run text room (part l) ts ≡ part_of text (reads_in text room) l ts
unfolding part_of chained
run_part text room level.Or ts = refl
run_part text room level.And ts = refl
run_part text room level.Sum ts = refl
run_part text room level.Product ts = refl

pub chained-is : (text : List ℕ) (inner : Reader) (l : Level) (ts : List Token) →
    chained text inner l ts ≡ (part_of text inner l ts >>= λ a. continues text inner l a.0 a.1)
unfolding chained disjunction conjunction sum product part_of
chained-is text inner level.Or ts = refl
chained-is text inner level.And ts = refl
chained-is text inner level.Sum ts = refl
chained-is text inner level.Product ts = refl

-- an operator ends a part of its chain
pub part_power : (l : Level) (n : ℕ) → n ≤ level_rank l → n < power (part l)
part_power level.Or n h = omega arith
part_power level.And n h = omega arith
part_power level.Sum n h = omega arith
part_power level.Product n h = omega arith

rank_on : {text : List ℕ} {l : Level} {left e : Expression} {ts rest : List Token} → Continues text l left ts rest e → rank rest < level_rank l → rank ts < power (part l)
rank_on (g.ended {l} {left} {rest}) h = part_power l (rank rest) (omega arith)
rank_on (g.operated {l} {o} {ts} k right others) h =
    let e = operator-rank l o.kind _ k in part_power l (kind_rank o.kind) (omega (arith, e))

pub deeper : (text : List ℕ) (ts : List Token) (x : Expression × List Token) → starts_expr ts ≡ true →
    Settles (λ room. expr text (reads_in text room) (type_in text room) ts) x → Settles (λ room. reads_in text room Whole ts) x
unfolding reads_in
deeper text ts x s (need, a) = (suc need, λ room. by_room room)
  where
    by_room : (room : ℕ) → Agrees (reads_in text room Whole ts) x (suc need) room
    by_room zero = agrees_full _ x need (place text ts) (rw s refl)
    by_room (suc room) = agrees_suc _ x need room (a room)

right_deeper : (text : List ℕ) (l : Level) (sign : Op) (at : ℕ) (left right : Expression) (ts us : List Token) (x : Expression × List Token) → starts_operand ts ≡ true →
    Settles (λ room. part_of text (reads_in text room) l ts) (right, us) → Settles (λ room. continues text (reads_in text room) l (expression.Bin sign left right at) us) x →
    Settles (λ room. reads_in text room (Right l sign at left) ts) x
unfolding reads_in
right_deeper text l sign at left right ts us x s (need, a) (more, b) = (suc (max need more), λ room. by_room room)
  where
    by_room : (room : ℕ) → Agrees (reads_in text room (Right l sign at left) ts) x (suc (max need more)) room
    by_room zero = agrees_full _ x _ (place text ts) (rw s refl)
    by_room (suc room) = agrees_suc _ x _ room (agrees_bind (part_of text (reads_in text room) l ts) _ (right, us) x need more room (a room) (b room))

arguments_deeper : (text : List ℕ) (f : Expression) (ts : List Token) (x : Expression × List Token) → starts_atom ts ≡ true →
    Settles (λ room. applies text (reads_in text room) f ts) x → Settles (λ room. reads_in text room (Arguments f) ts) x
unfolding reads_in
arguments_deeper text f ts x s (need, a) = (suc need, λ room. by_room room)
  where
    by_room : (room : ℕ) → Agrees (reads_in text room (Arguments f) ts) x (suc need) room
    by_room zero = agrees_full _ x need (place text ts) (rw s refl)
    by_room (suc room) = agrees_suc _ x need room (a room)

no_arguments : (text : List ℕ) (f : Expression) (ts : List Token) → starts_atom ts ≡ false → (room : ℕ) → reads_in text room (Arguments f) ts ≡ Ok (f, ts)
unfolding reads_in applies
no_arguments text f ts h zero = rw h refl
no_arguments text f ts h (suc room) = rw h refl

mutual
  unfolding expr function binding choice chained cmp compared operand negative applied lift foldp async_of atom bracketed atoms applies continues expect expect_word

  pub settles : (text : List ℕ) {p : Phrase} {ts rest : List Token} {e : Expression} → Reads text p ts rest e → rank rest < power p →
      Settles (λ room. run text room p ts) (e, rest)
  settles text (g.function {t} {n} {c} {p} {d = i} {ts} {us} {rest} {x} {ty} {body} ht hn hc d hi b) ends =
      let k = type_deeper text (p ∷ ts) (ty, i ∷ us) (type_starts d) (type_settles text d (rw hi refl)) in
      let m = deeper text us (body, rest) (expr_starts b) (settles text b ends) in (
        max k.0 m.0,
        λ room. rw (ht, name_read text n (c ∷ p ∷ ts) x hn, hc, function)
            (agrees_bind (type_in text room (p ∷ ts)) _ (ty, i ∷ us) _ k.0 m.0 room (k.1 room)
            (rw hi (agrees_last (reads_in text room Whole us) _ (body, rest) _ m.0 room (m.1 room) refl))),
      )
  settles text (g.binding {t} {n} {c} {i} {ts} {us} {rest} {x} {bound} {body} ht hn hc d hi b) ends =
      let k = deeper text ts (bound, i ∷ us) (expr_starts d) (settles text d (rw hi (omega arith))) in
      let m = deeper text us (body, rest) (expr_starts b) (settles text b ends) in (
        max k.0 m.0,
        λ room. rw (ht, name_read text n (c ∷ ts) x hn, hc, binding)
            (agrees_bind (reads_in text room Whole ts) _ (bound, i ∷ us) _ k.0 m.0 room (k.1 room)
            (rw hi (agrees_last (reads_in text room Whole us) _ (body, rest) _ m.0 room (m.1 room) refl))),
      )
  settles text (g.choice {t} {a} {b} {ts} {us} {vs} {rest} {condition = c} {yes} {no} ht dc ha dy hb dn) ends =
      let k = deeper text ts (c, a ∷ us) (expr_starts dc) (settles text dc (rw ha (omega arith))) in
      let l = deeper text us (yes, b ∷ vs) (expr_starts dy) (settles text dy (rw hb (omega arith))) in
      let m = deeper text vs (no, rest) (expr_starts dn) (settles text dn ends) in (
        max k.0 (max l.0 m.0),
        λ room. rw ht
            (agrees_bind (reads_in text room Whole ts) _ (c, a ∷ us) _ k.0 _ room (k.1 room)
            (rw ha (agrees_bind (reads_in text room Whole us) _ (yes, b ∷ vs) _ l.0 m.0 room (l.1 room)
            (rw hb (agrees_last (reads_in text room Whole vs) _ (no, rest) _ m.0 room (m.1 room) refl))))),
      )
  settles text (g.plain {ts} d) ends =
      let s = operand_starts d refl in
      let k = settles text d ends in
      (k.0, λ room. rw (no_backslash ts s, no_let ts s, no_if ts s) (k.1 room))
  settles text (g.chained {l} {ts} {us} {rest} {a} {e} first others) ends =
      let k = settles text first (rank_on others ends) in
      let m = settles_on text others ends in (
        max k.0 m.0,
        λ room. rw (chained-is text (reads_in text room) l ts)
            (agrees_bind (part_of text (reads_in text room) l ts) _ (a, us) (e, rest) k.0 m.0 room (rw (run_part text room l ts) at (k.1 room)) (m.1 room)),
      )
  settles text (g.compared {o} {ts} {us} {rest} {a} {b} {sign} d h r) ends =
      let e = comparison-rank o.kind sign h in
      let k = settles text d (omega (arith, e)) in
      let m = settles text r (omega arith) in (
        max k.0 m.0,
        λ room. agrees_bind (sum text (reads_in text room) ts) _ (a, o ∷ us) _ k.0 m.0 room (k.1 room)
            (rw (h, compared) (agrees_last (sum text (reads_in text room) us) _ (b, rest) _ m.0 room (m.1 room) refl)),
      )
  settles text (g.alone {ts} {rest} {e} d) ends =
      let k = settles text d (omega arith) in
      (k.0, λ room. agrees_last (sum text (reads_in text room) ts) _ (e, rest) _ k.0 room (k.1 room) (rw (no_comparison_at rest ends, compared) refl))
  settles text (g.negative {m} {t} {rest} {n} hm hn) ends =
      settles_ok _ (expression.Int n m.start, rest) (λ room. rw (hm, number_read negated text t rest n hn, negative) refl)
  settles text (g.unsigned_operand d) ends = settles text d ends
  settles text (g.applied {ts} {us} {rest} {f} {e} d others) ends =
      let s = atom_starts d in
      let k = settles text d (small_rank_at us) in
      let m = settles_args text others ends in (
        max k.0 m.0,
        λ room. rw (no_minus ts s, no_foldp ts s, no_async ts s, no_lift ts s)
            (agrees_bind (atom text (reads_in text room) ts) _ (f, us) (e, rest) k.0 m.0 room (k.1 room) (m.1 room)),
      )
  settles text (g.lift {t} {ts} {us} {rest} {n} {f} {arguments = es} h d others) ends =
      let k = settles text d (small_rank_at us) in
      let m = settles_all text others in (
        max k.0 m.0,
        λ room. rw (lift_no_minus t.kind n h, lift_no_foldp t.kind n h, lift_no_async t.kind n h, h)
            (agrees_bind (atom text (reads_in text room) ts) _ (f, us) _ k.0 m.0 room (k.1 room)
            (agrees_last (atoms text (reads_in text room) n us) _ (es, rest) _ m.0 room (m.1 room) refl)),
      )
  settles text (g.foldp {t} {ts} {us} {vs} {rest} {f} {b} {s} h df db ds) ends =
      let k = settles text df (small_rank_at us) in
      let l = settles text db (small_rank_at vs) in
      let m = settles text ds (small_rank_at rest) in (
        max k.0 (max l.0 m.0),
        λ room. rw h
            (agrees_bind (atom text (reads_in text room) ts) _ (f, us) _ k.0 _ room (k.1 room)
            (agrees_bind (atom text (reads_in text room) us) _ (b, vs) _ l.0 m.0 room (l.1 room)
            (agrees_last (atom text (reads_in text room) vs) _ (s, rest) _ m.0 room (m.1 room) refl))),
      )
  settles text (g.async {t} {ts} {rest} {s} h d) ends =
      let k = settles text d (small_rank_at rest) in (
        k.0,
        λ room. agrees_is (operand text (reads_in text room) (t ∷ ts)) (async_of text (reads_in text room) (t ∷ ts)) _ k.0 room (rw h refl)
            (agrees_last (atom text (reads_in text room) ts) _ (s, rest) _ k.0 room (k.1 room) refl),
      )
  settles text (g.name {t} {rest} {x} h) ends = settles_ok _ (expression.Name x t.start, rest) (λ room. rw (name-is text t x h, h) refl)
  settles text (g.number {t} {rest} {n} h) ends = settles_ok _ (expression.Int n t.start, rest) (λ room. rw (number-is t.kind n h) refl)
  settles text (g.unit {o} {c} {rest} ho hc) ends = settles_ok _ (expression.Unit o.start, rest) (λ room. rw (ho, hc) refl)
  settles text (g.brackets {o} {c} {ts} {rest} {e} ho d hc) ends =
      let s = expr_starts d in
      let k = deeper text ts (e, c ∷ rest) s (settles text d (rw hc (omega arith))) in
      (k.0, λ room. rw (ho, no_close ts s) (agrees_last (reads_in text room Whole ts) _ (e, c ∷ rest) (e, rest) k.0 room (k.1 room) (rw hc refl)))

  settles_on : (text : List ℕ) {l : Level} {left e : Expression} {ts rest : List Token} → Continues text l left ts rest e → rank rest < level_rank l →
      Settles (λ room. continues text (reads_in text room) l left ts) (e, rest)
  settles_on text (g.ended {l} {left} {rest}) ends = settles_ok _ (left, rest) (λ room. rw (no_operator_at l rest ends, continues) refl)
  settles_on text (g.operated {l} {o} {ts} {us} {rest} {left} {right} {e} {sign} h d others) ends =
      let k = settles text d (rank_on others ends) in
      let m = right_deeper text l sign o.start left right ts us (e, rest) (operand_starts d (part_low l))
      (k.0, λ room. rw (run_part text room l ts) at (k.1 room)) (settles_on text others ends) in
      (m.0, λ room. rw (h, continues) (m.1 room))

  settles_args : (text : List ℕ) {f e : Expression} {ts rest : List Token} → Applies text f ts rest e → rank rest < 6 →
      Settles (λ room. applies text (reads_in text room) f ts) (e, rest)
  settles_args text (g.no_argument {f} {rest}) ends = settles_ok _ (f, rest) (λ room. rw (no_atom_at rest ends) refl)
  settles_args text (g.argument {p} {ts} {us} {rest} {f} {a} {e} d others) ends =
      let k = settles text d (small_rank_at us) in
      let m = settles_after text others ends in (
        max k.0 m.0,
        λ room. rw (atom_starts d)
            (agrees_bind (atom text (reads_in text room) (p ∷ ts)) _ (a, us) (e, rest) k.0 m.0 room (k.1 room) (m.1 room)),
      )

  settles_after : (text : List ℕ) {f e : Expression} {ts rest : List Token} → Applies text f ts rest e → rank rest < 6 →
      Settles (λ room. reads_in text room (Arguments f) ts) (e, rest)
  settles_after text (g.no_argument {f} {rest}) ends = settles_ok _ (f, rest) (λ room. no_arguments text f rest (no_atom_at rest ends) room)
  settles_after text (g.argument {p} {ts} {us} {rest} {f} {a} {e} d others) ends =
      let k = settles text d (small_rank_at us) in
      let m = settles_after text others ends in
      arguments_deeper text f (p ∷ ts) (e, rest) (atom_starts d) (
        max k.0 m.0,
        λ room. rw (atom_starts d)
            (agrees_bind (atom text (reads_in text room) (p ∷ ts)) _ (a, us) (e, rest) k.0 m.0 room (k.1 room) (m.1 room)),
      )

  settles_all : (text : List ℕ) {n : ℕ} {ts rest : List Token} {es : Expressions} → ReadsAll text n ts rest es →
      Settles (λ room. atoms text (reads_in text room) n ts) (es, rest)
  settles_all text (g.none {rest}) = settles_ok _ (expression.End, rest) (λ room. refl)
  settles_all text (g.more {ts} {us} {rest} {n} {a} {others = es} d others) =
      let k = settles text d (small_rank_at us) in
      let m = settles_all text others in (
        max k.0 m.0,
        λ room. agrees_bind (atom text (reads_in text room) ts) _ (a, us) _ k.0 m.0 room (k.1 room)
            (agrees_last (atoms text (reads_in text room) n us) _ (es, rest) _ m.0 room (m.1 room) refl),
      )
