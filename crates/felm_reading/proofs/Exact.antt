-- The fault that reading meets is the first one.
use Rattle.std.proofs.Common.{◌≡◌, ℕ, zero, suc, ◌<◌, ◌≤◌, refl, arith, inl, inr, List, [], ◌∷◌, ◌++◌, length, length-append, get_or, append_assoc, append-nil, Bool, true, false, drop, subst, sym, ap, ◌∙◌}
use Rattle.std.specs.Prelude.{Result, Ok, Err, Some, ◌⊎◌, if◌then◌else◌, bytes_eq}
use Rattle.std.specs.List.{list_any, AllByRecursion}
use Rattle.felm_term.specs.Inputs.{names_of}
use Rattle.felm_term.specs.declared.input.InputDecl.{InputDecl}
use Rattle.felm_lexer.specs.Readings.{Reads as Tokenizes, Whole as Tokens, StandInOrder}
use Rattle.felm_lexer.specs.declared.kind.Symbol.TheVariants as symbol
use Rattle.felm_lexer.specs.declared.kind.WordKind.TheVariants as word
use Rattle.felm_lexer.specs.declared.kind.TokenKind.TheVariants as kind
use Rattle.felm_lexer.specs.declared.token.Token.{Token}
use Rattle.felm_syntax.specs.FirstFaults.{Fault, Syntax, Depth, Twice, place_of_fault, Declares, NamesAgain, AllPass, RefusesToken, IsFirstFault}
use Rattle.felm_syntax.specs.Nesting.{Nests, HasRoom}
use Rattle.felm_syntax.specs.Fronts.{Part, Whole, Fronts, IsFront}
use Rattle.felm_syntax.specs.FirstFaults as faults
use Rattle.felm_syntax.specs.Fronts as f
use Rattle.felm_syntax.specs.Nesting as path
use Rattle.felm_syntax.specs.Grammar.{IsWord, IsName, Phrase, ReadsDeclaration, ReadsProgram}
use Rattle.felm_syntax.specs.Grammar as g
use Rattle.felm_reading.specs.Reading.{◌>>=◌, Answer, place, has_word, starts_expr, starts_operand, starts_type, expect, described, program_in, program_after}
use Rattle.felm_reading.proofs.Declared.{declaration_word, declaration_read}
use Rattle.felm_reading.proofs.Programs.{program_step, enough}
use Rattle.felm_reading.proofs.TypeRoom.{type_starts}
use Rattle.felm_reading.proofs.ExprRoom.{expr_starts, operand_starts}
use Rattle.felm_reading.proofs.Runs.{IsPlace, IsTail, all, skip, no_tail, IsProper, Fits, Exceeds, Stays, leaves, stops, no_front}
use Rattle.felm_reading.proofs.ProgramRuns.{Parts, done, Goes, goes_same, goes_ended, goes_out, goes_refused, Again, again, Reason, program_goes}
use Rattle.felm_reading.proofs.ProgramMeets.{Judged, judged, program_meets}
use Rattle.felm_reading.proofs.ProgramMeets as meets
use Rattle.felm_reading.proofs.Meets.{Ended, ended_ok, ended_out, met, deep, Head, only, first, head, Starts, starts, starts_word}
use Rattle.felm_reading.proofs.FrontsAre.{fronts_of, nests_of}
use Rattle.felm_reading.proofs.Whole.{program_syntax, one_declaration, token_names}
use Rattle.felm_reading.proofs.Distinct.{all_at}
use Rattle.felm_reading.specs.Laws.{FirstFault}
use Rattle.felm_lexer.proofs.Spans.{in_order}
use Rattle.std.proofs.lemmas.List.Elements.{recursion_from_All}
use Rattle.felm_syntax.specs.Kinds.{name_of, text_of}

-- a name that was declared is refused
abbrev IsTwice : Result Parts Fault → Type 0
IsTwice a = (at : ℕ) × (a ≡ Err (Twice at))

unless_twice : {X : Type 0} (at : ℕ) (b : Bool) (y : X) (k : X → Result Parts Fault) → ((b ≡ true) ⊎ IsTwice (k y)) → IsTwice ((if b then Err (Twice at) else Ok y) >>= k)
unless_twice at true y k h = (at, refl)
unless_twice at false y k (inl e) = absurd (cc)
unless_twice at false y k (inr h) = h

now_twice : {X Y Z : Type 0} (at : ℕ) (b : Bool) (y : X) (k : X → Result Y Fault) (h : Y → Result Z Fault) → b ≡ true → (((if b then Err (Twice at) else Ok y) >>= k) >>= h) ≡ Err (Twice at)
now_twice at true y k h e = refl
now_twice at false y k h e = absurd (cc)

twice_read : (text : List ℕ) (room : ℕ) (seen : List InputDecl) {ds : List InputDecl} {ts : List Token} (i n : Token) (x : List ℕ) (r : List Token) → Declares text ds ts r → r ≡ i ∷ n ∷ [] → IsWord word.Input i → IsName text x n →
    list_any (bytes_eq x) (names_of (seen ++ ds)) ≡ true → IsTwice (program_after text room seen ts)
twice_read text room seen i n x r (faults.no_more {ts}) e hi hn h =
    let again_now : list_any (bytes_eq x) (names_of seen) ≡ true = subst (λ all. list_any (bytes_eq x) (names_of all) ≡ true) (append-nil seen) h in
    let first : has_word word.Input (i ∷ n ∷ []) ≡ true = rw hi refl in
    subst (λ us. IsTwice (program_after text room seen us)) (sym e)
    (subst IsTwice (sym (program_step text room seen (i ∷ n ∷ []) first)) (
      n.start,
      ap (λ a. a >>= λ d. program_after text room (seen ++ d.0 ∷ []) d.1) (meets.named_is text seen i n [] x hn)
          ∙ now_twice n.start (list_any (bytes_eq x) (names_of seen)) (x, []) (λ y. expect text symbol.Colon y.1 >>= λ vs. described text y.0 vs)
          (λ d. program_after text room (seen ++ d.0 ∷ []) d.1) again_now,
    ))
twice_read text room seen i n x r (faults.one_first {d} {ds} {ts} {us} reads others) e hi hn h =
    subst IsTwice (sym (program_step text room seen ts (declaration_word reads) ∙ ap (λ a. a >>= λ d. program_after text room (seen ++ d.0 ∷ []) d.1) (declaration_read text seen reads)))
    (unless_twice (place text (drop 1 ts)) (list_any (bytes_eq d.name) (names_of seen)) (d, us) (λ d. program_after text room (seen ++ d.0 ∷ []) d.1)
    (inr (twice_read text room (seen ++ d ∷ []) i n x r others e hi hn (subst (λ all. list_any (bytes_eq x) (names_of all) ≡ true) (sym (append_assoc seen (d ∷ []) ds)) h))))

-- no part is whole, and no front nests, where there are no tokens
whole_some : {X : Type 0} {text : List ℕ} {p : Part} {ts us : List Token} → Whole text p ts us → ts ≡ [] → X
whole_some (f.whole_token h) e = absurd (cc)
whole_some (f.whole_type r) e = let s : starts_type [] ≡ true = subst (λ ts. starts_type ts ≡ true) e (type_starts r) in absurd (cc)
whole_some (f.whole_phrase {p = g.expr} r) e = let s : starts_expr [] ≡ true = subst (λ ts. starts_expr ts ≡ true) e (expr_starts r) in absurd (cc)
whole_some (f.whole_phrase {p = g.chain l} r) e = let s : starts_operand [] ≡ true = subst (λ ts. starts_operand ts ≡ true) e (operand_starts r refl) in absurd (cc)
whole_some (f.whole_phrase {p = g.cmp} r) e = let s : starts_operand [] ≡ true = subst (λ ts. starts_operand ts ≡ true) e (operand_starts r refl) in absurd (cc)
whole_some (f.whole_phrase {p = g.operand} r) e = let s : starts_operand [] ≡ true = subst (λ ts. starts_operand ts ≡ true) e (operand_starts r refl) in absurd (cc)
whole_some (f.whole_phrase {p = g.app} r) e = let s : starts_operand [] ≡ true = subst (λ ts. starts_operand ts ≡ true) e (operand_starts r refl) in absurd (cc)
whole_some (f.whole_phrase {p = g.atom} r) e = let s : starts_operand [] ≡ true = subst (λ ts. starts_operand ts ≡ true) e (operand_starts r refl) in absurd (cc)
whole_some (f.whole_literal (g.unsigned _)) e = absurd (cc)
whole_some (f.whole_literal (g.signed _ _)) e = absurd (cc)
whole_some (f.whole_declaration (g.int_input _ _ _ _ _ _)) e = absurd (cc)
whole_some (f.whole_declaration (g.unit_input _ _ _ _ _ _ _)) e = absurd (cc)

no_nests : {X : Type 0} {text : List ℕ} {ps : List Part} {n : ℕ} {ts : List Token} → Nests text ps n ts → ts ≡ [] → X
no_nests (path.token h) e = absurd (cc)
no_nests (path.inside r d) e = no_nests d e
no_nests (path.deeper r d) e = no_nests d e
no_nests (path.after w d) e = whole_some w e

-- where two tokens begin a declaration, the second nests at the top
second_level : {text : List ℕ} {ps : List Part} {n : ℕ} {ts : List Token} (i m : Token) → ts ≡ i ∷ m ∷ [] → Head text (f.word_of word.Input) (f.name ∷ ps) n ts → n ≡ 0
second_level i m e (only h) = refl
second_level {text} {ps} i m e (first {n} {t} {us} h d) = by_head (head refl d) (let rest : us ≡ m ∷ [] = cc in rest)
  where
    by_head : {k : ℕ} {vs : List Token} → Head text f.name ps k vs → vs ≡ m ∷ [] → k ≡ 0
    by_head (only _) q = refl
    by_head (first {us = ws} _ d) q = let none : ws ≡ [] = cc in no_nests d none

-- a declaration has more tokens than two
no_short : {X : Type 0} {text : List ℕ} {ts us : List Token} {d : InputDecl} (i m : Token) → ReadsDeclaration text ts us d → ts ≡ i ∷ m ∷ [] → X
no_short i m (g.int_input _ _ _ _ _ _) e = absurd (cc)
no_short i m (g.unit_input _ _ _ _ _ _ _) e = absurd (cc)

input_no_main : {X : Type 0} {ts : List Token} → Starts (kind.Word word.Main) ts → has_word word.Input ts ≡ true → X
input_no_main (starts {t} {us} h) e = let none : has_word word.Input (t ∷ us) ≡ false = rw h refl in absurd (cc)

-- the first of two tokens of a declaration
first_two : {text : List ℕ} {n : ℕ} {ts : List Token} (i m : Token) → ts ≡ i ∷ m ∷ [] → Nests text (f.declaration ∷ f.program ∷ []) n ts → n ≡ 0
first_two i m e (path.token h) = absurd h
first_two i m e (path.inside f.int_input d) = second_level i m e (head refl d)
first_two i m e (path.inside f.unit_input d) = second_level i m e (head refl d)
first_two i m e (path.deeper r _) = elim r [ ]
first_two i m e (path.after (f.whole_token h) _) = absurd h
first_two i m e (path.after (f.whole_declaration r) _) = no_short i m r e

-- what isn't read to its end is no front
no_end : {X : Type 0} {text : List ℕ} {n : ℕ} (d : InputDecl) (us : List Token) {a : Answer InputDecl} → Judged text n 0 a → a ≡ Ok (d, us) → (us ≡ [] → X) → X
no_end d us (judged (met (ended_ok {x}) le)) e k = let both : ◌≡◌ {A = InputDecl × List Token} (x, []) (d, us) = cc in k (sym (ap (λ y. y.1) both))
no_end d us (judged (met ended_out le)) e k = absurd (cc)
no_end d us (judged deep) e k = absurd (cc)
no_end d us meets.twice e k = absurd (cc)

declares_some : {X : Type 0} {text : List ℕ} {ds : List InputDecl} {ts r : List Token} (i m : Token) → Declares text ds ts r → r ≡ i ∷ m ∷ [] → ts ≡ [] → X
declares_some i m faults.no_more e h = absurd (cc)
declares_some i m (faults.one_first reads _) e h = whole_some (f.whole_declaration reads) h

behind_level : {text : List ℕ} {d : InputDecl} {ds : List InputDecl} {n : ℕ} {ts us r : List Token} (i m : Token) → ReadsDeclaration text ts us d → Declares text ds us r → r ≡ i ∷ m ∷ [] →
    ((k : ℕ) → Nests text (f.program ∷ []) k us → k ≡ 0) → Nests text (f.declaration ∷ f.program ∷ []) n ts → n ≡ 0
behind_level i m reads others e level (path.token h) = absurd h
behind_level {text} {d} {us} i m reads others e level (path.inside f.int_input k) =
    no_end d us (meets.parts_judged text 0 [] _ (meets.int_meets text 0) (head refl k)) (declaration_read text [] reads) (λ none. declares_some i m others e none)
behind_level {text} {d} {us} i m reads others e level (path.inside f.unit_input k) =
    no_end d us (meets.parts_judged text 0 [] _ (meets.unit_meets text 0) (head refl k)) (declaration_read text [] reads) (λ none. declares_some i m others e none)
behind_level i m reads others e level (path.deeper r _) = elim r [ ]
behind_level i m reads others e level (path.after (f.whole_token h) _) = absurd h
behind_level {text} {n} i m reads others e level (path.after (f.whole_declaration again_read) k) =
    let same = one_declaration again_read reads in level n (subst (Nests text (f.program ∷ []) n) same.0 k)

-- the name in a declaration nests at the top
named_level : {text : List ℕ} {ds : List InputDecl} {n : ℕ} {ts r : List Token} (i m : Token) → Declares text ds ts r → r ≡ i ∷ m ∷ [] → IsWord word.Input i → Nests text (f.program ∷ []) n ts → n ≡ 0
named_level i m ds e hi (path.token h) = absurd h
named_level i m faults.no_more e hi (path.inside f.declared d) = first_two i m e d
named_level i m (faults.one_first reads others) e hi (path.inside f.declared d) = behind_level i m reads others e (λ k h. named_level i m others e hi h) d
named_level {ts} i m faults.no_more e hi (path.inside f.main_is d) =
    input_no_main (starts_word d) (subst (λ us. has_word word.Input us ≡ true) (sym e) (rw hi refl))
named_level i m (faults.one_first reads _) e hi (path.inside f.main_is d) = input_no_main (starts_word d) (declaration_word reads)
named_level i m ds e hi (path.deeper r _) = elim r [ ]
named_level i m ds e hi (path.after w d) = no_front d refl

-- declarations and the beginning of another one are a front
declares_front : {text : List ℕ} {ds : List InputDecl} {ts r : List Token} (i m : Token) (x : List ℕ) → Declares text ds ts r → r ≡ i ∷ m ∷ [] → IsWord word.Input i → IsName text x m → IsFront text ts
declares_front {text} i m x faults.no_more e hi hm =
    subst (IsFront text) (sym e) (f.within f.declared (f.within f.int_input (f.behind (f.whole_token hi) (f.behind (f.whole_token (x, hm)) f.nothing))))
declares_front i m x (faults.one_first reads others) e hi hm = f.within f.declared (f.behind (f.whole_declaration reads) (declares_front i m x others e hi hm))

-- tokens in order
order_within : (text : List ℕ) (from : ℕ) (ts : List Token) → StandInOrder text from ts → from ≤ length text
order_within text from [] order = order
order_within text from (t ∷ ts) order = let rest = order_within text t.end ts order.3 in omega (arith, order.0, order.1, rest)

starts_within : (text : List ℕ) (from : ℕ) (t : Token) (ts : List Token) → StandInOrder text from (t ∷ ts) → t.start < length text
starts_within text from t ts order = let rest = order_within text t.end ts order.3 in omega (arith, order.1, rest)

order_behind : (text : List ℕ) (from : ℕ) (xs ys : List Token) → StandInOrder text from (xs ++ ys) → (later : ℕ) × (from ≤ later) × StandInOrder text later ys
order_behind text from [] ys order = (from, omega arith, order)
order_behind text from (x ∷ xs) ys order =
    let k = order_behind text x.end xs ys order.3 in (k.0, omega (arith, order.0, order.1, k.1), k.2)

-- a token before another one starts before it
before : (text : List ℕ) (from : ℕ) {xs us : List Token} (u t : Token) (q r : List Token) → IsTail xs us → us ≡ u ∷ q → StandInOrder text from (xs ++ t ∷ r) → u.start < t.start
before text from {xs} u t q r all e order =
    let o : StandInOrder text from ((u ∷ q) ++ t ∷ r) = subst (λ l. StandInOrder text from (l ++ t ∷ r)) e order in
    let k = order_behind text u.end q (t ∷ r) o.3 in
    omega (arith, o.1, k.1, k.2.0)
before text from u t q r (skip {t = x} tail) e order = before text x.end u t q r tail e order.3

-- a place among tokens in order isn't before them
nth_from : (text : List ℕ) (from : ℕ) (ts : List Token) (k : ℕ) (t : Token) → k < length ts → get_or ts k t ≡ t → StandInOrder text from ts → from ≤ t.start
nth_from text from [] k t lt is order = absurd (omega arith)
nth_from text from (x ∷ ts) zero t lt is order = let e : x.start ≡ t.start = ap (λ (u : Token). u.start) is in omega (arith, order.0, e)
nth_from text from (x ∷ ts) (suc k) t lt is order = let rest = nth_from text x.end ts k t (omega arith) is order.3 in omega (arith, order.0, order.1, rest)

place_from : (text : List ℕ) (from : ℕ) (ts : List Token) (at : ℕ) → StandInOrder text from ts → IsPlace text ts at → from ≤ at
place_from text from ts at order (inr e) = let w = order_within text from ts order in omega (arith, e, w)
place_from text from ts at order (inl (k, t, lt, is, h)) = let w = nth_from text from ts k t lt is order in omega (arith, w, h)

-- how reading goes, beside reading with more tokens
abbrev pub read_of : List ℕ → ℕ → List Token → Answer Parts
read_of text limit ts = done (program_after text limit [] ts)

longer : (us more : List Token) → length us ≤ length (us ++ more)
longer us more = omega (arith, length-append us more)

pub reads_beside : (text : List ℕ) (limit : ℕ) (us more : List Token) → Goes text limit [] us more (read_of text limit us) (read_of text limit (us ++ more))
unfolding program_after
reads_beside text limit us more =
    subst (λ a. Goes text limit [] us more (done a) (done (program_in text limit (length (us ++ more)) [] (us ++ more))))
    (enough text limit (length (us ++ more)) (length us) [] us (longer us more) (omega arith) (has_word word.Input us) refl)
    (program_goes text limit (length (us ++ more)) [] us more)

-- an answer with more tokens stops at none of these: all of these were taken
ended_prefix : {text : List ℕ} {limit : ℕ} {us more : List Token} {a b : Answer Parts} (fault : Fault) → Goes text limit [] us more a b → b ≡ Err fault →
    ((t : Token) (q : List Token) → IsTail us (t ∷ q) → place_of_fault fault ≡ t.start → ⊥) → Ended text a
ended_prefix fault (goes_same tail) e k = absurd (cc)
ended_prefix fault (goes_ended _ _) e k = ended_ok
ended_prefix fault (goes_out _ _) e k = ended_out
ended_prefix fault (goes_refused {e = other} {t} {r} tail at _) e k =
    let same : other ≡ fault = cc in absurd (k t r tail (subst (λ o. place_of_fault o ≡ t.start) same at))

-- what was taken passes
fits_front : {text : List ℕ} {limit : ℕ} {us : List Token} → Fits text (f.program ∷ []) limit us → IsFront text us
fits_front {text} (inl e) = subst (IsFront text) (sym e) f.nothing
fits_front (inr (n, k, le)) = fronts_of k

ended_front : {text : List ℕ} {limit : ℕ} {us more : List Token} {a b : Answer Parts} → Goes text limit [] us more a b → Ended text a →
    ((t : Token) (q : List Token) → IsTail us (t ∷ q) → length text ≡ t.start → ⊥) → IsFront text us
ended_front (goes_same tail) e k = absurd (no_same e)
  where
    no_same : {text : List ℕ} {x : Parts} {t : Token} {r : List Token} → Ended {X = Parts} text (Ok (x, t ∷ r)) → ⊥
    no_same h = elim h [ ]
ended_front (goes_ended fits _) e k = fits_front fits
ended_front (goes_out fits _) e k = fits_front fits
ended_front (goes_refused {t} {r} tail at _) ended_out k = absurd (k t r tail at)

pub ended_room : {text : List ℕ} {n limit : ℕ} {a : Answer Parts} → Judged text n limit a → Ended text a → n ≤ limit
ended_room (judged (met _ le)) e = le
ended_room (judged deep) e = elim e [ ]
ended_room meets.twice e = elim e [ ]

not_twice : {text : List ℕ} {at : ℕ} {a : Answer Parts} → Ended text a → a ≡ Err (Twice at) → ⊥
not_twice ended_ok e = cc
not_twice ended_out e = cc

ended_new : (text : List ℕ) (limit : ℕ) (us : List Token) → Ended text (read_of text limit us) → NamesAgain text us → ⊥
ended_new text limit us e (faults.names_again {i} {n} {x} ds hi hn h) =
    let k = twice_read text limit [] i n x (i ∷ n ∷ []) ds refl hi hn h in not_twice e (ap done k.1)

pub passes : (text : List ℕ) (limit : ℕ) (us : List Token) → Ended text (read_of text limit us) → ((t : Token) (q : List Token) → IsTail us (t ∷ q) → length text ≡ t.start → ⊥) →
    IsFront text us × HasRoom text limit us × (NamesAgain text us → ⊥)
passes text limit us e within =
    (ended_front (reads_beside text limit us []) e within, λ n d. ended_room (program_meets text limit [] d) e, ended_new text limit us e)

-- where a token of these stands
pub tail_append : {xs us : List Token} (ys : List Token) → IsTail xs us → IsTail (xs ++ ys) (us ++ ys)
tail_append ys all = all
tail_append ys (skip tail) = skip (tail_append ys tail)

pub tail_within : (text : List ℕ) (from : ℕ) {ts us : List Token} (t : Token) (q : List Token) → IsTail ts us → us ≡ t ∷ q → StandInOrder text from ts → t.start < length text
tail_within text from t q (all {ts}) e order = starts_within text from t q (subst (StandInOrder text from) e order)
tail_within text from t q (skip {t = x} tail) e order = tail_within text x.end t q tail e order.3

tail_split : {ts us : List Token} → IsTail ts us → (first : List Token) × (ts ≡ first ++ us)
tail_split all = ([], refl)
tail_split (skip {t} tail) = let k = tail_split tail in (t ∷ k.0, ap (λ l. t ∷ l) k.1)

-- a token of these and one more is the last or one before it
tail_last : (xs : List Token) (t u : Token) (q us : List Token) → IsTail (xs ++ t ∷ []) us → us ≡ u ∷ q → ((u ≡ t) × (q ≡ [])) ⊎ ((r : List Token) × IsTail xs (u ∷ r))
tail_last [] t u q us all e = inl (let h : u ≡ t = cc in h, let h : q ≡ [] = cc in h)
tail_last [] t u q us (skip tail) e = absurd (no_tail tail refl e)
tail_last (x ∷ xs) t u q us all e = inr (xs, let h : u ≡ x = cc in subst (λ v. IsTail (x ∷ xs) (v ∷ xs)) (sym h) all)
tail_last (x ∷ xs) t u q us (skip tail) e = elim (tail_last xs t u q us tail e) as (λ _. ((u ≡ t) × (q ≡ [])) ⊎ ((r : List Token) × IsTail (x ∷ xs) (u ∷ r))) [
  | inl h ↦ inl h
  | inr (r, h) ↦ inr (r, skip h)
]

-- where reading stopped
stopped : (text : List ℕ) (limit : ℕ) (fault : Fault) {us more : List Token} {a b : Answer Parts} → Goes text limit [] us more a b → a ≡ Err fault →
    (fault ≡ Syntax (length text)) ⊎ ((t : Token) × (r : List Token) × IsTail us (t ∷ r) × (place_of_fault fault ≡ t.start))
stopped text limit fault (goes_same _) e = absurd (cc)
stopped text limit fault (goes_ended _ _) e = absurd (cc)
stopped text limit fault (goes_out _ _) e = inl (let h : fault ≡ Syntax (length text) = cc in h)
stopped text limit fault (goes_refused {e = other} {t} {r} tail at _) e =
    let same : other ≡ fault = cc in inr (t, r, tail, subst (λ o. place_of_fault o ≡ t.start) same at)

stays_place : (text : List ℕ) (fault : Fault) {ts : List Token} {a : Answer Parts} → Stays text ts a → a ≡ Err fault → IsPlace text ts (place_of_fault fault)
stays_place text fault (leaves _) e = absurd (cc)
stays_place text fault {ts} (stops {fault = other} h) e = let same : other ≡ fault = cc in subst (λ o. IsPlace text ts (place_of_fault o)) same h

-- a last token that was refused, and why
last_reason : (text : List ℕ) (limit : ℕ) (fault : Fault) {us more : List Token} {a b : Answer Parts} → Goes text limit [] us more a b → b ≡ Err fault → (IsPlace text more (place_of_fault fault) → ⊥) →
    ((t : Token) (q : List Token) → IsTail us (t ∷ q) → place_of_fault fault ≡ t.start → (q ≡ []) × IsProper text t) → Reason text limit [] fault us × (a ≡ Err fault)
last_reason text limit fault (goes_same _) e none last = absurd (cc)
last_reason text limit fault (goes_ended _ h) e none last = absurd (none (stays_place text fault h e))
last_reason text limit fault (goes_out _ h) e none last = absurd (none (stays_place text fault h e))
last_reason text limit fault {us} (goes_refused {e = other} {t} {r} tail at why) e none last =
    let same : other ≡ fault = cc in
    let k = last t r tail (subst (λ o. place_of_fault o ≡ t.start) same at) in
    (subst (λ o. Reason text limit [] o us) same (why k.0 k.1), e)

-- a front isn't refused for the syntax
no_syntax : {text : List ℕ} {n limit at : ℕ} {a : Answer Parts} → Judged text n limit a → a ≡ Err (Syntax at) → at < length text → ⊥
no_syntax (judged (met ended_ok _)) e lt = cc
no_syntax {text} {at} (judged (met ended_out _)) e lt = let same : length text ≡ at = cc in absurd (omega arith)
no_syntax (judged deep) e lt = cc
no_syntax meets.twice e lt = cc

pub no_front_of : {text : List ℕ} (limit : ℕ) (opening : List Token) (t : Token) → read_of text limit (opening ++ t ∷ []) ≡ Err (Syntax t.start) → t.start < length text → IsFront text (opening ++ t ∷ []) → ⊥
no_front_of {text} limit opening t e lt front = elim (nests_of front) as (λ _. ⊥) [
  | inl none ↦ not_empty opening none
  | inr (n, k) ↦ no_syntax (program_meets text limit [] k) e lt
]
  where
    not_empty : (xs : List Token) → xs ++ t ∷ [] ≡ [] → ⊥
    not_empty [] h = cc
    not_empty (x ∷ xs) h = cc

-- Nor does any front begin with the tokens up to one that is refused for the syntax.
stays_refused : {text : List ℕ} {limit : ℕ} {us more : List Token} {a b : Answer Parts} (fault : Fault) → Goes text limit [] us more a b → a ≡ Err fault → (fault ≡ Syntax (length text) → ⊥) → b ≡ Err fault
stays_refused fault (goes_same _) e k = absurd (cc)
stays_refused fault (goes_ended _ _) e k = absurd (cc)
stays_refused {text} fault (goes_out _ _) e k = let same : fault ≡ Syntax (length text) = cc in absurd (k same)
stays_refused fault (goes_refused _ _ _) e k = e

pub no_longer_front : {text : List ℕ} (limit : ℕ) (opening : List Token) (t : Token) (q : List Token) → read_of text limit (opening ++ t ∷ []) ≡ Err (Syntax t.start) → t.start < length text
    → IsFront text ((opening ++ t ∷ []) ++ q) → ⊥
no_longer_front {text} limit opening t q e lt front = elim (nests_of front) as (λ _. ⊥) [
  | inl none ↦ not_empty opening none
  | inr (n, k) ↦ no_syntax (program_meets text limit [] k)
      (stays_refused (Syntax t.start) (reads_beside text limit (opening ++ t ∷ []) q) e (λ is. let same : t.start ≡ length text = cc in absurd (omega arith))) lt
]
  where
    not_empty : (xs : List Token) → (xs ++ t ∷ []) ++ q ≡ [] → ⊥
    not_empty [] h = cc
    not_empty (x ∷ xs) h = cc

-- a name that was declared
named_again : (text : List ℕ) (limit : ℕ) {us : List Token} → Again text [] us → IsFront text us × HasRoom text limit us × NamesAgain text us
named_again text limit (again {i} {n} {x} ds hi hn h) =
    (declares_front i n x ds refl hi hn, λ k d. (let top = named_level i n ds refl hi d in let le : k ≤ limit = omega arith in le), faults.names_again ds hi hn h)

module _ (text : List ℕ) (limit : ℕ) (ts : List Token) (fault : Fault) (order : StandInOrder text 0 ts)
    (proper : (opening rest : List Token) (t : Token) → ts ≡ opening ++ t ∷ rest → IsProper text t) (read : read_of text limit ts ≡ Err fault) where
  -- with the end of the text for a place, all tokens were taken
  all_pass : fault ≡ Syntax (length text) → AllPass text limit ts
  all_pass is opening rest e =
      let order_of : StandInOrder text 0 (opening ++ rest) = subst (StandInOrder text 0) e order in
      let within = λ (t : Token) (q : List Token) (tail : IsTail opening (t ∷ q)). tail_within text 0 t (q ++ rest) (tail_append rest tail) refl order_of in
      passes text limit opening
      (ended_prefix fault (reads_beside text limit opening rest) (subst (λ l. read_of text limit l ≡ Err fault) e read)
      (λ t q tail at. let lt = within t q tail in let place : length text ≡ t.start = subst (λ o. place_of_fault o ≡ t.start) is at in absurd (omega arith)))
      (λ t q tail at. let lt = within t q tail in absurd (omega arith))

  module _ (front : List Token) (t : Token) (back : List Token) (split : ts ≡ front ++ t ∷ back) (at_t : place_of_fault fault ≡ t.start) where
    order_split : StandInOrder text 0 (front ++ t ∷ back)
    order_split = subst (StandInOrder text 0) split order

    -- those before it were taken
    before_pass : AllPass text limit front
    before_pass opening rest e =
        let whole : ts ≡ opening ++ (rest ++ t ∷ back) = split ∙ ap (λ l. l ++ t ∷ back) e ∙ append_assoc opening rest (t ∷ back) in
        let order_of : StandInOrder text 0 ((opening ++ rest) ++ t ∷ back) = subst (λ l. StandInOrder text 0 (l ++ t ∷ back)) e order_split in
        let order_too : StandInOrder text 0 (opening ++ (rest ++ t ∷ back)) = subst (StandInOrder text 0) whole order in
        passes text limit opening
        (ended_prefix fault (reads_beside text limit opening (rest ++ t ∷ back)) (subst (λ l. read_of text limit l ≡ Err fault) whole read)
        (λ u q tail at. let lt = before text 0 u t (q ++ rest) back (tail_append rest tail) refl order_of in absurd (omega arith)))
        (λ u q tail at. let lt = tail_within text 0 u (q ++ (rest ++ t ∷ back)) (tail_append (rest ++ t ∷ back) tail) refl order_too in absurd (omega arith))

    with_it : ts ≡ (front ++ t ∷ []) ++ back
    with_it = split ∙ sym (append_assoc front (t ∷ []) back)

    pub why : Reason text limit [] fault (front ++ t ∷ []) × (read_of text limit (front ++ t ∷ []) ≡ Err fault)
    why =
        last_reason text limit fault (reads_beside text limit (front ++ t ∷ []) back) (subst (λ l. read_of text limit l ≡ Err fault) with_it read)
        (λ h. let k = order_behind text 0 front (t ∷ back) order_split in let le = place_from text t.end back (place_of_fault fault) k.2.3 h in absurd (omega (arith, k.2.1)))
        (λ u q tail at. elim (tail_last front t u q (u ∷ q) tail refl) as (λ _. (q ≡ []) × IsProper text u) [
          | inl (same, none) ↦ (none, subst (IsProper text) (sym same) (proper front back t split))
          | inr (r, h) ↦ (let lt = before text 0 u t r back h refl order_split in absurd (omega arith))
        ])

    pub starts_inside : t.start < length text
    starts_inside = let k = order_behind text 0 front (t ∷ back) order_split in starts_within text k.0 t back k.2

    exact_syntax : (at : ℕ) → fault ≡ Syntax at → RefusesToken text limit ts (Syntax at)
    exact_syntax at is =
        let here : at ≡ t.start = subst (λ o. place_of_fault o ≡ t.start) is at_t in
        (front, t, back, split, before_pass, no_front_of limit front t (why.1 ∙ ap Err (is ∙ ap Syntax here)) starts_inside, here)

    exact_depth : (at : ℕ) → fault ≡ Depth at → RefusesToken text limit ts (Depth at)
    exact_depth at is =
        let deep_it : Exceeds text (f.program ∷ []) limit (front ++ t ∷ []) = subst (λ o. Reason text limit [] o (front ++ t ∷ [])) is why.0 in
        (front, t, back, split, before_pass, (fronts_of deep_it.1, deep_it), subst (λ o. place_of_fault o ≡ t.start) is at_t)

    exact_twice : (at : ℕ) → fault ≡ Twice at → RefusesToken text limit ts (Twice at)
    exact_twice at is =
        (front, t, back, split, before_pass, named_again text limit (subst (λ o. Reason text limit [] o (front ++ t ∷ [])) is why.0), subst (λ o. place_of_fault o ≡ t.start) is at_t)

-- by the fault
by_fault : (text : List ℕ) (limit : ℕ) (ts : List Token) (fault : Fault) → StandInOrder text 0 ts → ((opening rest : List Token) (t : Token) → ts ≡ opening ++ t ∷ rest → IsProper text t) →
    program_after text limit [] ts ≡ Err fault → (fault ≡ Syntax (length text)) ⊎ ((t : Token) × (r : List Token) × IsTail ts (t ∷ r) × (place_of_fault fault ≡ t.start)) → IsFirstFault text limit ts fault
by_fault text limit ts (Syntax at) order proper read (inl is) =
    inr ((all_pass text limit ts (Syntax at) order proper (ap done read) is, program_syntax text limit at ts read), is)
by_fault text limit ts (Depth at) order proper read (inl is) = absurd (cc)
by_fault text limit ts (Twice at) order proper read (inl is) = absurd (cc)
by_fault text limit ts (Syntax at) order proper read (inr (t, r, tail, here)) =
    let k = tail_split tail in inl (exact_syntax text limit ts (Syntax at) order proper (ap done read) k.0 t r k.1 here at refl)
by_fault text limit ts (Depth at) order proper read (inr (t, r, tail, here)) =
    let k = tail_split tail in inl (exact_depth text limit ts (Depth at) order proper (ap done read) k.0 t r k.1 here at refl)
by_fault text limit ts (Twice at) order proper read (inr (t, r, tail, here)) =
    let k = tail_split tail in inl (exact_twice text limit ts (Twice at) order proper (ap done read) k.0 t r k.1 here at refl)

-- the tokens of a text have names, if they are of the kind of names
pub proper_of : (text : List ℕ) (ts : List Token) → Tokenizes text (Tokens ts) → (opening rest : List Token) (t : Token) → ts ≡ opening ++ t ∷ rest → IsProper text t
proper_of text ts tokenizes opening rest t e is =
    let Named : Token → Type 0 = λ (t : Token). t.kind ≡ kind.Name → name_of text t ≡ Some (text_of text t) in
    let named = recursion_from_All Named ts (token_names text ts tokenizes) in
    (text_of text t, all_at Named opening t rest (subst (AllByRecursion Named) e named) is)

pub first_fault : FirstFault
first_fault text limit ts fault tokenizes read =
    by_fault text limit ts fault (in_order text ts tokenizes) (proper_of text ts tokenizes) read
    (stopped text limit fault (subst (λ l. Goes text limit [] ts [] (read_of text limit ts) (read_of text limit l)) (append-nil ts) (reads_beside text limit ts [])) (ap done read))
