-- Fronts of types are read to their end.
use Rattle.std.proofs.Common.{◌≡◌, ℕ, zero, suc, refl, List, [], ◌∷◌, true, false, drop, subst, sym}
use Rattle.std.specs.Prelude.{Ok, Err, if◌then◌else◌}
use Rattle.felm_term.specs.CoreType.{CoreType}
use Rattle.felm_term.specs.CoreType as type
use Rattle.felm_lexer.specs.declared.kind.Symbol.TheVariants as symbol
use Rattle.felm_lexer.specs.declared.kind.WordKind.TheVariants as word
use Rattle.felm_lexer.specs.declared.kind.TokenKind.TheVariants as kind
use Rattle.felm_lexer.specs.declared.token.Token.{Token}
use Rattle.felm_syntax.specs.Nesting.{Nests}
use Rattle.felm_syntax.specs.Fronts.{Part, Whole}
use Rattle.felm_syntax.specs.Fronts as f
use Rattle.felm_syntax.specs.Nesting as path
use Rattle.felm_syntax.specs.Grammar as g
use Rattle.felm_reading.specs.Reading.{◌>>=◌, Answer, has_mark, has_word, starts_type, refused, expect, closed_type, signal_type, whole_type, type_in}
use Rattle.felm_reading.proofs.Runs.{no_front}
use Rattle.felm_reading.proofs.TypeRoom.{type_settles, type_deeper, type_starts, closed_is}
use Rattle.felm_reading.proofs.TypeRuns.{types_read}
use Rattle.felm_reading.proofs.Meets.{Ended, ended_ok, ended_out, Met, deep, Meets, ReadsOr, reads_or, Starts, starts, starts_mark, starts_word, ended_of, ended_bind, ended_last, met_suc, meets_last, meets_none, meets_bind, meets_first, meets_expect}

-- what begins a front of a type
int_starts : {ts : List Token} → Starts (kind.Word word.Int) ts → (starts_type ts ≡ true) × (has_word word.Signal ts ≡ false)
int_starts (starts h) = (rw h refl, rw h refl)

unit_starts : {ts : List Token} → Starts (kind.Word word.Unit) ts → (starts_type ts ≡ true) × (has_word word.Signal ts ≡ false)
unit_starts (starts h) = (rw h refl, rw h refl)

open_starts : {ts : List Token} → Starts (kind.Mark symbol.OpenBracket) ts → (starts_type ts ≡ true) × (has_word word.Signal ts ≡ false)
open_starts (starts h) = (rw h refl, rw h refl)

signal_starts : {ts : List Token} → Starts (kind.Word word.Signal) ts → starts_type ts ≡ true
signal_starts (starts h) = rw h refl

starts_closed : {text : List ℕ} {ps : List Part} {n : ℕ} {ts : List Token} → Nests text (f.type g.closed ∷ ps) n ts → (starts_type ts ≡ true) × (has_word word.Signal ts ≡ false)
starts_closed (path.token h) = absurd h
starts_closed (path.inside f.int_type d) = int_starts (starts_word d)
starts_closed (path.inside f.unit_type d) = unit_starts (starts_word d)
starts_closed (path.inside f.type_brackets d) = open_starts (starts_mark d)
starts_closed (path.deeper r _) = elim r [ ]
starts_closed (path.after (f.whole_token h) _) = absurd h
starts_closed (path.after (f.whole_type r) _) = (type_starts r, closed_is r)

starts_signal : {text : List ℕ} {ps : List Part} {n : ℕ} {ts : List Token} → Nests text (f.type g.signal ∷ ps) n ts → starts_type ts ≡ true
starts_signal (path.token h) = absurd h
starts_signal (path.inside f.signal_of d) = signal_starts (starts_word d)
starts_signal (path.inside f.no_signal d) = let s = starts_closed d in s.0
starts_signal (path.deeper r _) = elim r [ ]
starts_signal (path.after (f.whole_token h) _) = absurd h
starts_signal (path.after (f.whole_type r) _) = type_starts r

starts_whole : {text : List ℕ} {ps : List Part} {n : ℕ} {ts : List Token} → Nests text (f.type g.whole ∷ ps) n ts → starts_type ts ≡ true
starts_whole (path.token h) = absurd h
starts_whole (path.deeper f.arrow d) = starts_signal d
starts_whole (path.inside r _) = elim r [ ]
starts_whole (path.after (f.whole_token h) _) = absurd h
starts_whole (path.after (f.whole_type r) _) = type_starts r

-- a whole type that ends is read
pub type_agree : (text : List ℕ) (room : ℕ) (ts us : List Token) → has_mark symbol.Arrow us ≡ false → Whole text (f.type g.whole) ts us → ReadsOr (type_in text room ts) us
type_agree text room ts us ends (f.whole_token h) = absurd h
type_agree text room ts us ends (f.whole_type {ty} r) =
    reads_or (type_in text room ts) ty us _ room ((type_deeper text ts (ty, us) (type_starts r) (type_settles text r ends)).1 room)

signal_agree : (text : List ℕ) (room : ℕ) (ts us : List Token) → Whole text (f.type g.signal) ts us → ReadsOr (signal_type text (type_in text room) ts) us
signal_agree text room ts us (f.whole_token h) = absurd h
signal_agree text room ts us (f.whole_type {ty} r) = reads_or (signal_type text (type_in text room) ts) ty us _ room ((type_settles text r tt).1 room)

-- a bracket is no arrow
close_no_arrow : {us : List Token} → Starts (kind.Mark symbol.CloseBracket) us → has_mark symbol.Arrow us ≡ false
close_no_arrow (starts h) = rw h refl

pub close_ends : {X : Type 0} (text : List ℕ) (x : X) → Ended text (expect text symbol.CloseBracket [] >>= λ rest. Ok (x, rest))
unfolding expect
close_ends text x = ended_out

signal_plain : (text : List ℕ) (inner : List Token → Answer CoreType) (us : List Token) → has_word word.Signal us ≡ false → signal_type text inner us ≡ closed_type text inner us
unfolding signal_type
signal_plain text inner us e = rw e refl

module _ (text : List ℕ) (room : ℕ) (meets : Meets text (f.type g.whole ∷ []) room (type_in text room)) where
  inner_ends : Ended text (type_in text room [])
  inner_ends = ended_of text (f.type g.whole ∷ []) room (type_in text room) (types_read text room)

  closed_meets : Meets text (f.type g.closed ∷ []) room (closed_type text (type_in text room))
  unfolding closed_type
  closed_meets _ _ (path.token h) = absurd h
  closed_meets _ _ (path.inside {n} {ts} f.int_type d) =
      meets_first text (f.word_of word.Int) [] room (closed_type text (type_in text room)) refl
      (λ t h. (λ us. Ok (type.Int, us), λ us. rw h refl, ended_ok, meets_none text room _)) n ts d
  closed_meets _ _ (path.inside {n} {ts} f.unit_type d) =
      meets_first text (f.word_of word.Unit) [] room (closed_type text (type_in text room)) refl
      (λ t h. (λ us. Ok (type.Unit, us), λ us. rw h refl, ended_ok, meets_none text room _)) n ts d
  closed_meets _ _ (path.inside {n} {ts} f.type_brackets d) =
      meets_first text (f.mark symbol.OpenBracket) (f.type g.whole ∷ f.mark symbol.CloseBracket ∷ []) room (closed_type text (type_in text room)) refl
      (λ t h. (
        λ us. type_in text room us >>= λ t. (expect text symbol.CloseBracket t.1 >>= λ rest. Ok (t.0, rest)),
        λ us. rw h refl,
        ended_bind text (λ t. expect text symbol.CloseBracket t.1 >>= λ rest. Ok (t.0, rest)) inner_ends (λ x. close_ends text x),
        meets_bind text (f.type g.whole) (f.mark symbol.CloseBracket ∷ []) room (type_in text room) (λ t. expect text symbol.CloseBracket t.1 >>= λ rest. Ok (t.0, rest)) meets
            (λ vs us m w k. type_agree text room vs us (close_no_arrow (starts_mark k)) w) (λ x. close_ends text x)
            (λ x. meets_expect text symbol.CloseBracket [] room (λ rest. Ok (x, rest)) ended_ok (meets_none text room _)),
      )) n ts d
  closed_meets _ _ (path.deeper r _) = elim r [ ]
  closed_meets _ _ (path.after w d) = no_front d refl

  closed_ends : Ended text (closed_type text (type_in text room) [])
  unfolding closed_type
  closed_ends = ended_out

  signal_meets : Meets text (f.type g.signal ∷ []) room (signal_type text (type_in text room))
  unfolding signal_type
  signal_meets _ _ (path.token h) = absurd h
  signal_meets _ _ (path.inside {n} {ts} f.signal_of d) =
      meets_first text (f.word_of word.Signal) (f.type g.closed ∷ []) room (signal_type text (type_in text room)) refl
      (λ t h. (
        λ us. closed_type text (type_in text room) us >>= λ c. Ok (type.Signal c.0, c.1),
        λ us. rw h refl,
        ended_last text type.Signal closed_ends,
        meets_last text (f.type g.closed ∷ []) room (closed_type text (type_in text room)) type.Signal closed_meets,
      )) n ts d
  signal_meets _ _ (path.inside {n} {ts} f.no_signal d) =
      let s = starts_closed d in subst (Met text n room) (sym (signal_plain text (type_in text room) ts s.1)) (closed_meets n ts d)
  signal_meets _ _ (path.deeper r _) = elim r [ ]
  signal_meets _ _ (path.after w d) = no_front d refl

  arrow_meets : (x : CoreType) → Meets text (f.arrowed ∷ []) room
      (λ r. if has_mark symbol.Arrow r then (type_in text room (drop 1 r) >>= λ to. Ok (type.Arrow x to.0, to.1)) else Ok (x, r))
  arrow_meets x _ _ (path.token h) = absurd h
  arrow_meets x _ _ (path.inside {n} {ts} f.arrow_to d) =
      meets_first text (f.mark symbol.Arrow) (f.type g.whole ∷ []) room
      (λ r. if has_mark symbol.Arrow r then (type_in text room (drop 1 r) >>= λ to. Ok (type.Arrow x to.0, to.1)) else Ok (x, r)) refl
      (λ t h. (
        λ us. type_in text room us >>= λ to. Ok (type.Arrow x to.0, to.1),
        λ us. rw h refl,
        ended_last text (type.Arrow x) inner_ends,
        meets_last text (f.type g.whole ∷ []) room (type_in text room) (type.Arrow x) meets,
      )) n ts d
  arrow_meets x _ _ (path.deeper r _) = elim r [ ]
  arrow_meets x _ _ (path.after w d) = no_front d refl

  pub whole_meets : Meets text (f.type g.signal ∷ f.arrowed ∷ []) room (whole_type text (type_in text room))
  unfolding whole_type
  whole_meets =
      meets_bind text (f.type g.signal) (f.arrowed ∷ []) room (signal_type text (type_in text room)) _ signal_meets
      (λ ts us n w d. signal_agree text room ts us w) (λ x. ended_ok) arrow_meets

pub types_meet : (text : List ℕ) (room : ℕ) → Meets text (f.type g.whole ∷ []) room (type_in text room)
unfolding type_in
types_meet text zero n ts d = subst (λ b. Met {X = CoreType} text n 0 (Err (refused text b ts))) (sym (starts_whole d)) deep
types_meet text (suc room) _ _ (path.token h) = absurd h
types_meet text (suc room) _ _ (path.deeper {n} {ts} f.arrow d) = met_suc text n room (whole_meets text room (types_meet text room) n ts d)
types_meet text (suc room) _ _ (path.inside r _) = elim r [ ]
types_meet text (suc room) _ _ (path.after w d) = no_front d refl
