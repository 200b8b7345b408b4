-- What is read as a type is one by the grammar.
use Rattle.std.proofs.Common.{◌≡◌, ℕ, zero, suc, inl, inr, List, drop}
use Rattle.std.specs.Prelude.{Ok}
use Rattle.felm_term.specs.CoreType.{CoreType}
use Rattle.felm_term.specs.CoreType as type
use Rattle.felm_lexer.specs.declared.kind.Symbol.TheVariants as symbol
use Rattle.felm_lexer.specs.declared.kind.WordKind.TheVariants as word
use Rattle.felm_lexer.specs.declared.kind.TokenKind.TheVariants as kind
use Rattle.felm_lexer.specs.declared.token.Token.{Token}
use Rattle.felm_syntax.specs.Grammar.{TypePhrase, ReadsType}
use Rattle.felm_syntax.specs.Grammar as g
use Rattle.felm_reading.specs.Reading.{Answer, has_mark, has_word, expect, type_in, whole_type, signal_type, closed_type}
use Rattle.felm_reading.proofs.Tokens.{Took, took, mark_took, word_took, expect_took, chosen, bind_ok, ok_move, no_ok}

abbrev pub AreTypes : (List Token → Answer CoreType) → TypePhrase → Type 0
AreTypes types p = (ts : List Token) (x : CoreType × List Token) → types ts ≡ Ok x → ReadsType p ts x.1 x.0

int_of : {ts us : List Token} → Took (kind.Word word.Int) ts us → ReadsType g.closed ts us type.Int
int_of (took h) = g.int_type h

unit_of : {ts us : List Token} → Took (kind.Word word.Unit) ts us → ReadsType g.closed ts us type.Unit
unit_of (took h) = g.unit_type h

brackets_of : {ts us vs rest : List Token} {t : CoreType} → Took (kind.Mark symbol.OpenBracket) ts us → ReadsType g.whole us vs t → Took (kind.Mark symbol.CloseBracket) vs rest →
    ReadsType g.closed ts rest t
brackets_of (took o) d (took c) = g.type_brackets o d c

signal_of : {ts us rest : List Token} {t : CoreType} → Took (kind.Word word.Signal) ts us → ReadsType g.closed us rest t → ReadsType g.signal ts rest (type.Signal t)
signal_of (took h) d = g.signal_of h d

arrow_of : {ts us vs rest : List Token} {from to : CoreType} → ReadsType g.signal ts us from → Took (kind.Mark symbol.Arrow) us vs → ReadsType g.whole vs rest to →
    ReadsType g.whole ts rest (type.Arrow from to)
arrow_of f (took a) t = g.arrow f a t

pub closed_sound : (text : List ℕ) (inner : List Token → Answer CoreType) → AreTypes inner g.whole → AreTypes (closed_type text inner) g.closed
unfolding closed_type
closed_sound text inner sound ts x h =
    let P : CoreType × List Token → Type 0 = λ y. ReadsType g.closed ts y.1 y.0 in
    elim (chosen (has_word word.Int ts) _ _ (Ok x) h) as (λ _. P x) [
      | inl (m, q) ↦ ok_move P (type.Int, drop 1 ts) x q (int_of (word_took word.Int ts m))
      | inr (m, q) ↦ elim (chosen (has_word word.Unit ts) _ _ (Ok x) q) as (λ _. P x) [
        | inl (n, r) ↦ ok_move P (type.Unit, drop 1 ts) x r (unit_of (word_took word.Unit ts n))
        | inr (n, r) ↦ elim (chosen (has_mark symbol.OpenBracket ts) _ _ (Ok x) r) as (λ _. P x) [
          | inl (o, s) ↦ (
              let a = bind_ok (inner (drop 1 ts)) _ x s in
              let b = bind_ok (expect text symbol.CloseBracket a.0.1) _ x a.2 in
              ok_move P (a.0.0, b.0) x b.2
              (brackets_of (mark_took symbol.OpenBracket ts o) (sound (drop 1 ts) a.0 a.1) (expect_took text symbol.CloseBracket a.0.1 b.0 b.1)))
          | inr (o, s) ↦ absurd (no_ok _ x s)
        ]
      ]
    ]

pub signal_sound : (text : List ℕ) (inner : List Token → Answer CoreType) → AreTypes inner g.whole → AreTypes (signal_type text inner) g.signal
unfolding signal_type
signal_sound text inner sound ts x h =
    let P : CoreType × List Token → Type 0 = λ y. ReadsType g.signal ts y.1 y.0 in
    elim (chosen (has_word word.Signal ts) _ _ (Ok x) h) as (λ _. P x) [
      | inl (m, q) ↦ (
          let a = bind_ok (closed_type text inner (drop 1 ts)) _ x q in
          ok_move P (type.Signal a.0.0, a.0.1) x a.2 (signal_of (word_took word.Signal ts m) (closed_sound text inner sound (drop 1 ts) a.0 a.1)))
      | inr (m, q) ↦ g.no_signal (closed_sound text inner sound ts x q)
    ]

whole_sound : (text : List ℕ) (inner : List Token → Answer CoreType) → AreTypes inner g.whole → AreTypes (whole_type text inner) g.whole
unfolding whole_type
whole_sound text inner sound ts x h =
    let P : CoreType × List Token → Type 0 = λ y. ReadsType g.whole ts y.1 y.0 in
    let a = bind_ok (signal_type text inner ts) _ x h in
    let from = signal_sound text inner sound ts a.0 a.1 in
    elim (chosen (has_mark symbol.Arrow a.0.1) _ _ (Ok x) a.2) as (λ _. P x) [
      | inl (m, q) ↦ (
          let b = bind_ok (inner (drop 1 a.0.1)) _ x q in
          ok_move P (type.Arrow a.0.0 b.0.0, b.0.1) x b.2 (arrow_of from (mark_took symbol.Arrow a.0.1 m) (sound (drop 1 a.0.1) b.0 b.1)))
      | inr (m, q) ↦ ok_move P a.0 x q (g.no_arrow from)
    ]

pub types_sound : (text : List ℕ) (room : ℕ) → AreTypes (type_in text room) g.whole
unfolding type_in
types_sound text zero ts x h = absurd (no_ok _ x h)
types_sound text (suc room) ts x h = whole_sound text (type_in text room) (types_sound text room) ts x h
