-- Types are read as the grammar says.
use Rattle.std.proofs.Common.{◌≡◌, ℕ, zero, suc, max, refl, List, ◌∷◌, true, false}
use Rattle.felm_term.specs.CoreType.{CoreType}
use Rattle.felm_term.specs.CoreType as type
use Rattle.felm_lexer.specs.declared.kind.Symbol.TheVariants as symbol
use Rattle.felm_lexer.specs.declared.kind.WordKind.TheVariants as word
use Rattle.felm_lexer.specs.declared.token.Token.{Token}
use Rattle.felm_syntax.specs.Grammar.{TypePhrase, ReadsType}
use Rattle.felm_syntax.specs.Grammar as g
use Rattle.felm_reading.specs.Reading.{Answer, place, has_mark, has_word, starts_type, expect, type_in, whole_type, signal_type, closed_type}
use Rattle.felm_reading.proofs.Room.{Agrees, Settles, settles_ok, agrees_suc, agrees_full, agrees_bind, agrees_last}

abbrev pub type_run : List ℕ → ℕ → TypePhrase → List Token → Answer CoreType
type_run text room g.whole ts = whole_type text (type_in text room) ts
type_run text room g.signal ts = signal_type text (type_in text room) ts
type_run text room g.closed ts = closed_type text (type_in text room) ts

-- what follows doesn't go on with the type
abbrev pub EndsType : TypePhrase → List Token → Type 0
EndsType g.whole rest = has_mark symbol.Arrow rest ≡ false
EndsType g.signal rest = Unit {0}
EndsType g.closed rest = Unit {0}

pub type_starts : {p : TypePhrase} {ts rest : List Token} {t : CoreType} → ReadsType p ts rest t → starts_type ts ≡ true
type_starts (g.arrow from h to) = type_starts from
type_starts (g.no_arrow d) = type_starts d
type_starts (g.signal_of h d) = rw h refl
type_starts (g.no_signal d) = type_starts d
type_starts (g.int_type h) = rw h refl
type_starts (g.unit_type h) = rw h refl
type_starts (g.type_brackets o d c) = rw o refl

pub closed_is : {ts rest : List Token} {t : CoreType} → ReadsType g.closed ts rest t → has_word word.Signal ts ≡ false
closed_is (g.int_type h) = rw h refl
closed_is (g.unit_type h) = rw h refl
closed_is (g.type_brackets o d c) = rw o refl

pub type_deeper : (text : List ℕ) (ts : List Token) (x : CoreType × List Token) → starts_type ts ≡ true →
    Settles (λ room. whole_type text (type_in text room) ts) x → Settles (λ room. type_in text room ts) x
unfolding type_in
type_deeper text ts x s (need, a) = (suc need, λ room. by_room room)
  where
    by_room : (room : ℕ) → Agrees (type_in text room ts) x (suc need) room
    by_room zero = agrees_full _ x need (place text ts) (rw s refl)
    by_room (suc room) = agrees_suc _ x need room (a room)

pub type_settles : (text : List ℕ) {p : TypePhrase} {ts rest : List Token} {t : CoreType} → ReadsType p ts rest t → EndsType p rest →
    Settles (λ room. type_run text room p ts) (t, rest)
unfolding whole_type signal_type closed_type expect
type_settles text (g.arrow {a} {ts} {us} {rest} {from} {to} f h t) ends =
    let first = type_settles text f tt in
    let other = type_deeper text us (to, rest) (type_starts t) (type_settles text t ends) in (
      max first.0 other.0,
      λ room. agrees_bind (signal_type text (type_in text room) ts) _ (from, a ∷ us) (type.Arrow from to, rest) first.0 other.0 room (first.1 room)
          (rw h (agrees_last (type_in text room us) _ (to, rest) (type.Arrow from to, rest) other.0 room (other.1 room) refl)),
    )
type_settles text (g.no_arrow {ts} {rest} {t} d) ends =
    let k = type_settles text d tt in
    (k.0, λ room. agrees_last (signal_type text (type_in text room) ts) _ (t, rest) (t, rest) k.0 room (k.1 room) (rw ends refl))
type_settles text (g.signal_of {s} {ts} {rest} {t} h d) ends =
    let k = type_settles text d tt in
    (k.0, λ room. rw h (agrees_last (closed_type text (type_in text room) ts) _ (t, rest) (type.Signal t, rest) k.0 room (k.1 room) refl))
type_settles text (g.no_signal {ts} {rest} {t} d) ends = let k = type_settles text d tt in (k.0, λ room. rw (closed_is d) (k.1 room))
type_settles text (g.int_type {t} {rest} h) ends = settles_ok _ (type.Int, rest) (λ room. rw h refl)
type_settles text (g.unit_type {t} {rest} h) ends = settles_ok _ (type.Unit, rest) (λ room. rw h refl)
type_settles text (g.type_brackets {o} {c} {ts} {rest} {t} ho d hc) ends =
    let e : has_mark symbol.Arrow (c ∷ rest) ≡ false = rw hc refl in
    let k = type_deeper text ts (t, c ∷ rest) (type_starts d) (type_settles text d e) in
    (k.0, λ room. rw ho (agrees_last (type_in text room ts) _ (t, c ∷ rest) (t, rest) k.0 room (k.1 room) (rw hc refl)))
