-- A front is read to its end, if it has room.
--
-- `Meets ps room f` says this of f: where it is given a front of the parts ps, it reads to the end, and the front's last token has room, or it stops
-- for the nesting. It never stops for the syntax at a token.
use Rattle.std.proofs.Common.{◌≡◌, ℕ, suc, ◌≤◌, refl, arith, inl, inr, List, [], ◌∷◌, length, subst, sym, Bool, true, false}
use Rattle.std.specs.Prelude.{Ok, Err, ◌⊎◌}
use Rattle.felm_lexer.specs.declared.kind.Symbol.{Symbol}
use Rattle.felm_lexer.specs.declared.kind.Symbol.TheVariants as symbol
use Rattle.felm_lexer.specs.declared.kind.WordKind.{WordKind}
use Rattle.felm_lexer.specs.declared.kind.WordKind.TheVariants as word
use Rattle.felm_lexer.specs.declared.kind.TokenKind.{TokenKind}
use Rattle.felm_lexer.specs.declared.kind.TokenKind.TheVariants as kind
use Rattle.felm_lexer.specs.declared.token.Token.{Token}
use Rattle.felm_syntax.specs.Nesting.{Nests}
use Rattle.felm_syntax.specs.Fronts.{Part, Nest, Rule, IsToken, Whole}
use Rattle.felm_syntax.specs.Fronts as f
use Rattle.felm_syntax.specs.Nesting as path
use Rattle.felm_syntax.specs.Kinds.{same_symbol, same_word}
use Rattle.felm_syntax.specs.FirstFaults.{Syntax, Depth}
use Rattle.felm_reading.specs.Reading.{◌>>=◌, Answer, expect, expect_word}
use Rattle.felm_reading.proofs.Room.{IsDepth, Agrees}
use Rattle.felm_reading.proofs.Runs.{IsRead, Follows, same, ended, out, refused, no_tail, no_front}

-- all was taken
pub data Ended {X : Type 0} (text : List ℕ) : Answer X → Type 0 where
  ended_ok : {x : X} → Ended text (Ok (x, []))
  ended_out : Ended text (Err (Syntax (length text)))

-- all was taken, and there is room for n, or the nesting is too deep
pub data Met {X : Type 0} (text : List ℕ) (n room : ℕ) : Answer X → Type 0 where
  met : {a : Answer X} → Ended text a → n ≤ room → Met text n room a
  deep : {at : ℕ} → Met text n room (Err (Depth at))

abbrev pub Meets : {X : Type 0} → List ℕ → List Part → ℕ → (List Token → Answer X) → Type 0
Meets text ps room f = (n : ℕ) (ts : List Token) → Nests text ps n ts → Met text n room (f ts)

ended_by : {X : Type 0} (text : List ℕ) {ps : List Part} {room : ℕ} {us more : List Token} {a b : Answer X} → us ≡ [] → Follows text ps room us more a b → Ended text a
ended_by text e (same tail) = absurd (no_tail tail e refl)
ended_by text e (ended _ _) = ended_ok
ended_by text e (out _ _) = ended_out
ended_by text e (refused tail _ _ _) = absurd (no_tail tail e refl)

-- what is read of no tokens
pub ended_of : {X : Type 0} (text : List ℕ) (ps : List Part) (room : ℕ) (g : List Token → Answer X) → IsRead text ps room g → Ended text (g [])
ended_of text ps room g read = ended_by text refl (read [] [])

pub ended_last : {X Y : Type 0} (text : List ℕ) {a : Answer X} (h : X → Y) → Ended text a → Ended text (a >>= λ x. Ok (h x.0, x.1))
ended_last text h ended_ok = ended_ok
ended_last text h ended_out = ended_out

pub ended_bind : {X Y : Type 0} (text : List ℕ) {a : Answer X} (k : X × List Token → Answer Y) → Ended text a → ((x : X) → Ended text (k (x, []))) → Ended text (a >>= k)
ended_bind text k (ended_ok {x}) h = h x
ended_bind text k ended_out h = ended_out

met_bind : {X Y : Type 0} (text : List ℕ) (n room : ℕ) {a : Answer X} (k : X × List Token → Answer Y) → ((x : X) → Ended text (k (x, []))) → Met text n room a → Met text n room (a >>= k)
met_bind text n room k h (met e le) = met (ended_bind text k e h) le
met_bind text n room k h deep = deep

pub met_suc : {X : Type 0} (text : List ℕ) (n room : ℕ) {a : Answer X} → Met text n room a → Met text (suc n) (suc room) a
met_suc text n room (met e le) = let more : suc n ≤ suc room = omega (arith, le) in met e more
met_suc text n room deep = deep

pub meets_last : {X Y : Type 0} (text : List ℕ) (ps : List Part) (room : ℕ) (g : List Token → Answer X) (h : X → Y) → Meets text ps room g →
    Meets text ps room (λ us. g us >>= λ x. Ok (h x.0, x.1))
meets_last text ps room g h meets n ts d = met_bind text n room (λ x. Ok (h x.0, x.1)) (λ x. ended_ok) (meets n ts d)

pub meets_none : {X : Type 0} (text : List ℕ) (room : ℕ) (g : List Token → Answer X) → Meets text [] room g
meets_none text room g n ts d = no_front d refl

pub meets_is : {X : Type 0} (text : List ℕ) (ps : List Part) (room : ℕ) (g h : List Token → Answer X) → ((n : ℕ) (ts : List Token) → Nests text ps n ts → g ts ≡ h ts) →
    Meets text ps room h → Meets text ps room g
meets_is text ps room g h alike meets n ts d = subst (Met text n room) (sym (alike n ts d)) (meets n ts d)

-- read with room, or too deep
abbrev pub ReadsOr : {X : Type 0} → Answer X → List Token → Type 0
ReadsOr {X} a us = ((x : X) × (a ≡ Ok (x, us))) ⊎ IsDepth a

pub reads_or : {X : Type 0} (a : Answer X) (x : X) (us : List Token) (need room : ℕ) → Agrees a (x, us) need room → ReadsOr a us
reads_or a x us need room (inl h) = inl (x, h)
reads_or a x us need room (inr (h, _)) = inr h

-- a whole first part and then a front
pub meets_bind : {X Y : Type 0} (text : List ℕ) (p : Part) (ps : List Part) (room : ℕ) (g : List Token → Answer X) (k : X × List Token → Answer Y) →
    Meets text (p ∷ []) room g → ((ts us : List Token) (n : ℕ) → Whole text p ts us → Nests text ps n us → ReadsOr (g ts) us) →
    ((x : X) → Ended text (k (x, []))) → ((x : X) → Meets text ps room (λ r. k (x, r))) → Meets text (p ∷ ps) room (λ ts. g ts >>= k)
meets_bind text p ps room g k first agree ends others _ _ (path.token {t} h) = met_bind text 0 room k ends (first 0 (t ∷ []) (path.token h))
meets_bind text p ps room g k first agree ends others _ _ (path.inside {n} {ts} r d) = met_bind text n room k ends (first n ts (path.inside r d))
meets_bind text p ps room g k first agree ends others _ _ (path.deeper {n} {ts} r d) = met_bind text (suc n) room k ends (first (suc n) ts (path.deeper r d))
meets_bind text p ps room g k first agree ends others _ _ (path.after {n} {ts} {us} w d) =
    elim (agree ts us n w d) as (λ _. Met text n room (g ts >>= k)) [
      | inl (x, e) ↦ subst (λ a. Met text n room (a >>= k)) (sym e) (others x n us d)
      | inr (at, e) ↦ subst (λ a. Met text n room (a >>= k)) (sym e) deep
    ]

-- whether a part is a token
abbrev pub is_token : Part → Bool
is_token (f.mark _) = true
is_token (f.word_of _) = true
is_token f.name = true
is_token f.number = true
is_token f.negated = true
is_token (f.operator_of _) = true
is_token f.comparison_sign = true
is_token (f.lift_of _) = true
is_token _ = false

no_rule : {X : Type 0} {nest : Nest} {p : Part} {ps : List Part} → Rule nest p ps → is_token p ≡ true → X
no_rule f.declared h = absurd (cc)
no_rule f.main_is h = absurd (cc)
no_rule f.int_input h = absurd (cc)
no_rule f.unit_input h = absurd (cc)
no_rule f.unsigned h = absurd (cc)
no_rule f.signed h = absurd (cc)
no_rule f.function h = absurd (cc)
no_rule f.binding h = absurd (cc)
no_rule f.choice h = absurd (cc)
no_rule f.plain h = absurd (cc)
no_rule f.chained h = absurd (cc)
no_rule f.operated h = absurd (cc)
no_rule f.right_is h = absurd (cc)
no_rule f.compared h = absurd (cc)
no_rule f.compares h = absurd (cc)
no_rule f.negative h = absurd (cc)
no_rule f.unsigned_operand h = absurd (cc)
no_rule f.applied h = absurd (cc)
no_rule f.argument h = absurd (cc)
no_rule f.another h = absurd (cc)
no_rule f.lift h = absurd (cc)
no_rule f.one_more h = absurd (cc)
no_rule f.foldp h = absurd (cc)
no_rule f.async h = absurd (cc)
no_rule f.named h = absurd (cc)
no_rule f.numbered h = absurd (cc)
no_rule f.unit h = absurd (cc)
no_rule f.brackets h = absurd (cc)
no_rule f.arrow h = absurd (cc)
no_rule f.arrow_to h = absurd (cc)
no_rule f.signal_of h = absurd (cc)
no_rule f.no_signal h = absurd (cc)
no_rule f.int_type h = absurd (cc)
no_rule f.unit_type h = absurd (cc)
no_rule f.type_brackets h = absurd (cc)

-- a front whose first part is a token
pub data Head (text : List ℕ) (p : Part) (ps : List Part) : ℕ → List Token → Type 0 where
  only : {t : Token} → IsToken text p t → Head text p ps 0 (t ∷ [])
  first : {n : ℕ} {t : Token} {us : List Token} → IsToken text p t → Nests text ps n us → Head text p ps n (t ∷ us)

pub head : {text : List ℕ} {p : Part} {ps : List Part} {n : ℕ} {ts : List Token} → is_token p ≡ true → Nests text (p ∷ ps) n ts → Head text p ps n ts
head e (path.token h) = only h
head e (path.inside r d) = no_rule r e
head e (path.deeper r d) = no_rule r e
head e (path.after (f.whole_token h) d) = first h d
head e (path.after (f.whole_type r) d) = absurd (cc)
head e (path.after (f.whole_phrase r) d) = absurd (cc)
head e (path.after (f.whole_literal r) d) = absurd (cc)
head e (path.after (f.whole_declaration r) d) = absurd (cc)

-- how a function goes on behind its first token
abbrev pub GoesOn : {X : Type 0} → List ℕ → List Part → ℕ → (List Token → Answer X) → Token → Type 0
GoesOn {X} text ps room f t = (g : List Token → Answer X) × ((us : List Token) → f (t ∷ us) ≡ g us) × Ended text (g []) × Meets text ps room g

pub meets_first : {X : Type 0} (text : List ℕ) (p : Part) (ps : List Part) (room : ℕ) (f : List Token → Answer X) → is_token p ≡ true →
    ((t : Token) → IsToken text p t → GoesOn text ps room f t) → Meets text (p ∷ ps) room f
meets_first {X} text p ps room g is goes n ts d = by_head (head is d)
  where
    zero_le : (m : ℕ) → 0 ≤ m
    zero_le m = omega arith

    by_head : {m : ℕ} {us : List Token} → Head text p ps m us → Met text m room (g us)
    by_head (only {t} h) = let k = goes t h in subst (Met text 0 room) (sym (k.1 [])) (met k.2 (zero_le room))
    by_head (first {n} {t} {us} h d) = let k = goes t h in subst (Met text n room) (sym (k.1 us)) (k.3 n us d)

-- a symbol and a word are themselves
pub same_symbol_is : (s : Symbol) → same_symbol s s ≡ true
same_symbol_is symbol.Backslash = refl
same_symbol_is symbol.Colon = refl
same_symbol_is symbol.Dot = refl
same_symbol_is symbol.Equals = refl
same_symbol_is symbol.Arrow = refl
same_symbol_is symbol.OpenBracket = refl
same_symbol_is symbol.CloseBracket = refl
same_symbol_is symbol.Plus = refl
same_symbol_is symbol.Minus = refl
same_symbol_is symbol.Star = refl
same_symbol_is symbol.DoubleSlash = refl
same_symbol_is symbol.Percent = refl
same_symbol_is symbol.DoubleEquals = refl
same_symbol_is symbol.SlashEquals = refl
same_symbol_is symbol.Less = refl
same_symbol_is symbol.LessEquals = refl
same_symbol_is symbol.Greater = refl
same_symbol_is symbol.GreaterEquals = refl
same_symbol_is symbol.DoubleAmpersand = refl
same_symbol_is symbol.DoubleBar = refl

pub same_word_is : (w : WordKind) → same_word w w ≡ true
same_word_is word.Input = refl
same_word_is word.Main = refl
same_word_is word.Let = refl
same_word_is word.In = refl
same_word_is word.If = refl
same_word_is word.Then = refl
same_word_is word.Else = refl
same_word_is word.Int = refl
same_word_is word.Unit = refl
same_word_is word.Signal = refl
same_word_is word.Foldp = refl
same_word_is word.Async = refl
same_word_is word.Lift1 = refl
same_word_is word.Lift2 = refl
same_word_is word.Lift3 = refl
same_word_is word.Lift4 = refl
same_word_is word.Lift5 = refl
same_word_is word.Lift6 = refl
same_word_is word.Lift7 = refl
same_word_is word.Lift8 = refl
same_word_is word.Lift9 = refl
same_word_is word.Merge = refl
same_word_is word.SampleOn = refl
same_word_is word.DropRepeats = refl
same_word_is word.KeepIf = refl
same_word_is word.Output = refl

pub meets_expect : {X : Type 0} (text : List ℕ) (s : Symbol) (ps : List Part) (room : ℕ) (k : List Token → Answer X) → Ended text (k []) → Meets text ps room k →
    Meets text (f.mark s ∷ ps) room (λ us. expect text s us >>= k)
unfolding expect
meets_expect text s ps room k ends meets =
    meets_first text (f.mark s) ps room (λ us. expect text s us >>= k) refl (λ t h. (k, λ us. rw (h, same_symbol_is s) refl, ends, meets))

pub meets_expect_word : {X : Type 0} (text : List ℕ) (w : WordKind) (ps : List Part) (room : ℕ) (k : List Token → Answer X) → Ended text (k []) → Meets text ps room k →
    Meets text (f.word_of w ∷ ps) room (λ us. expect_word text w us >>= k)
unfolding expect_word
meets_expect_word text w ps room k ends meets =
    meets_first text (f.word_of w) ps room (λ us. expect_word text w us >>= k) refl (λ t h. (k, λ us. rw (h, same_word_is w) refl, ends, meets))

-- the first token is of a kind
pub data Starts (k : TokenKind) : List Token → Type 0 where
  starts : {t : Token} {us : List Token} → t.kind ≡ k → Starts k (t ∷ us)

pub starts_mark : {text : List ℕ} {s : Symbol} {ps : List Part} {n : ℕ} {ts : List Token} → Nests text (f.mark s ∷ ps) n ts → Starts (kind.Mark s) ts
starts_mark d = of_head (head refl d)
  where
    of_head : {text : List ℕ} {s : Symbol} {ps : List Part} {n : ℕ} {ts : List Token} → Head text (f.mark s) ps n ts → Starts (kind.Mark s) ts
    of_head (only h) = starts h
    of_head (first h _) = starts h

pub starts_word : {text : List ℕ} {w : WordKind} {ps : List Part} {n : ℕ} {ts : List Token} → Nests text (f.word_of w ∷ ps) n ts → Starts (kind.Word w) ts
starts_word d = of_head (head refl d)
  where
    of_head : {text : List ℕ} {w : WordKind} {ps : List Part} {n : ℕ} {ts : List Token} → Head text (f.word_of w) ps n ts → Starts (kind.Word w) ts
    of_head (only h) = starts h
    of_head (first h _) = starts h
