-- Reading takes a front, and looks at one token more.
--
-- `Follows` is what a reading function answers on some tokens, beside what it answers on these with others behind them. `IsRead ps room f` says this
-- of each list of tokens: f reads the parts ps, with so much room. What it takes to the end is a front of ps in which no token nests
-- deeper than the room, and a token that it refuses for its nesting does.
use Rattle.std.proofs.Common.{◌≡◌, ℕ, suc, ◌<◌, ◌≤◌, refl, arith, inl, inr, List, [], ◌∷◌, ◌++◌, length, subst, sym, Bool, true, false}
use Rattle.std.specs.List.{Any}
use Rattle.std.specs.Prelude.{ℤ, Ok, Err, Option, Some, None, ◌⊎◌, if◌then◌else◌}
use Rattle.felm_lexer.specs.declared.kind.Symbol.{Symbol}
use Rattle.felm_lexer.specs.declared.kind.WordKind.{WordKind}
use Rattle.felm_lexer.specs.declared.kind.TokenKind.{TokenKind}
use Rattle.felm_lexer.specs.declared.kind.TokenKind.TheVariants as kind
use Rattle.felm_lexer.specs.declared.token.Token.{Token}
use Rattle.felm_syntax.specs.Nesting.{Nests}
use Rattle.felm_syntax.specs.Fronts.{Part, Rule, IsToken, Whole}
use Rattle.felm_syntax.specs.Fronts as f
use Rattle.felm_syntax.specs.Nesting as path
use Rattle.felm_syntax.specs.Kinds.{is_mark, is_keyword, name_of}
use Rattle.felm_syntax.specs.FirstFaults.{Fault, Syntax, Depth, Twice, place_of_fault}
use Rattle.felm_reading.specs.Reading.{◌>>=◌, Answer, place, expect, expect_word, name, numeral}
use Rattle.felm_reading.specs.Reading.{refused as refused_fault}
use Rattle.felm_reading.proofs.Tokens.{mark-is, keyword-is}

-- a token begins at the place, or the text ends there
abbrev pub IsPlace : List ℕ → List Token → ℕ → Type 0
IsPlace text ts at = Any (λ t. t.start ≡ at) ts ⊎ (at ≡ length text)

-- the tokens end with these
pub data IsTail : List Token → List Token → Type 0 where
  all : {ts : List Token} → IsTail ts ts
  skip : {t : Token} {ts rest : List Token} → IsTail ts rest → IsTail (t ∷ ts) rest

pub tail_tail : {ts us vs : List Token} → IsTail ts us → IsTail us vs → IsTail ts vs
tail_tail all h = h
tail_tail (skip t) h = skip (tail_tail t h)

pub no_tail : {t : Token} {ts us vs : List Token} → IsTail us vs → us ≡ [] → vs ≡ t ∷ ts → ⊥
no_tail all e h = cc
no_tail (skip k) e h = cc

no_tail_of_nothing : {X : Type 0} {t : Token} {ts : List Token} → IsTail [] (t ∷ ts) → X
no_tail_of_nothing h = absurd (no_tail h refl refl)

pub place_here : (text : List ℕ) (t : Token) (ts : List Token) → IsPlace text (t ∷ ts) t.start
place_here text t ts = let some : 0 < length (t ∷ ts) = omega arith in inl (0, t, some, refl, refl)

place_skip : (text : List ℕ) (t : Token) (ts : List Token) (at : ℕ) → IsPlace text ts at → IsPlace text (t ∷ ts) at
place_skip text t ts at (inl (k, u, lt, is, h)) = let more : suc k < length (t ∷ ts) = omega (arith, lt) in inl (suc k, u, more, is, h)
place_skip text t ts at (inr h) = inr h

pub place_tail : (text : List ℕ) {ts us : List Token} (at : ℕ) → IsTail ts us → IsPlace text us at → IsPlace text ts at
place_tail text at all h = h
place_tail text at (skip {t} {ts} tail) h = place_skip text t ts at (place_tail text at tail h)

-- the token has a name, if it is of the kind of names
abbrev pub IsProper : List ℕ → Token → Type 0
IsProper text t = t.kind ≡ kind.Name → (x : List ℕ) × (name_of text t ≡ Some x)

abbrev pub IsDeep : Fault → Type 0
IsDeep (Depth _) = Unit {0}
IsDeep (Syntax _) = ⊥
IsDeep (Twice _) = ⊥

abbrev pub NoTwice : Fault → Type 0
NoTwice (Depth _) = Unit {0}
NoTwice (Syntax _) = Unit {0}
NoTwice (Twice _) = ⊥

-- no tokens, or a front in which the last one has room
abbrev pub Fits : List ℕ → List Part → ℕ → List Token → Type 0
Fits text ps room us = (us ≡ []) ⊎ ((n : ℕ) × Nests text ps n us × (n ≤ room))

-- a front in which the last token has no room
abbrev pub Exceeds : List ℕ → List Part → ℕ → List Token → Type 0
Exceeds text ps room us = (n : ℕ) × Nests text ps n us × (room < n)

-- an answer leaves a tail of the tokens, or stops at one of them or at the end of the text
pub data Stays {X : Type 0} (text : List ℕ) (ts : List Token) : Answer X → Type 0 where
  leaves : {x : X} {rest : List Token} → IsTail ts rest → Stays text ts (Ok (x, rest))
  stops : {fault : Fault} → IsPlace text ts (place_of_fault fault) → Stays text ts (Err fault)

-- an answer on the tokens us, and the one on us with more tokens behind them
pub data Follows {X : Type 0} (text : List ℕ) (ps : List Part) (room : ℕ) (us more : List Token) : Answer X → Answer X → Type 0 where
  -- a token of us ended it
  same : {x : X} {t : Token} {r : List Token} → IsTail us (t ∷ r) → Follows text ps room us more (Ok (x, t ∷ r)) (Ok (x, t ∷ (r ++ more)))
  -- all of us was taken, and it may have ended there
  ended : {x : X} {b : Answer X} → Fits text ps room us → Stays text more b → Follows text ps room us more (Ok (x, [])) b
  -- all of us was taken, and it can't end there
  out : {b : Answer X} → Fits text ps room us → Stays text more b → Follows text ps room us more (Err (Syntax (length text))) b
  -- a token of us was refused
  refused : {e : Fault} {t : Token} {r : List Token} → IsTail us (t ∷ r) → place_of_fault e ≡ t.start → NoTwice e →
      (IsDeep e → r ≡ [] → IsProper text t → Exceeds text ps room us) → Follows text ps room us more (Err e) (Err e)

abbrev pub IsRead : {X : Type 0} → List ℕ → List Part → ℕ → (List Token → Answer X) → Type 0
IsRead text ps room f = (us more : List Token) → Follows text ps room us more (f us) (f (us ++ more))

pub stays_tail : {X : Type 0} (text : List ℕ) {ts us : List Token} {a : Answer X} → IsTail ts us → Stays text us a → Stays text ts a
stays_tail text tail (leaves h) = leaves (tail_tail tail h)
stays_tail text tail (stops {fault} h) = stops (place_tail text (place_of_fault fault) tail h)

-- what a front of the parts us is, is also one of others
pub follows_map : {X : Type 0} (text : List ℕ) (ps qs : List Part) (room also : ℕ) (us more : List Token) {a b : Answer X} →
    (Fits text ps room us → Fits text qs also us) → (Exceeds text ps room us → Exceeds text qs also us) →
    Follows text ps room us more a b → Follows text qs also us more a b
follows_map text ps qs room also us more k m (same tail) = same tail
follows_map text ps qs room also us more k m (ended fits h) = ended (k fits) h
follows_map text ps qs room also us more k m (out fits h) = out (k fits) h
follows_map text ps qs room also us more k m (refused tail at other deep) = refused tail at other (λ d e p. m (deep d e p))

pub no_front : {X : Type 0} {text : List ℕ} {ps : List Part} {n : ℕ} {ts : List Token} → Nests text ps n ts → ps ≡ [] → X
no_front (path.token h) e = absurd (cc)
no_front (path.inside _ _) e = absurd (cc)
no_front (path.deeper _ _) e = absurd (cc)
no_front (path.after _ _) e = absurd (cc)

-- a front of the first part is one of all
pub widen : {text : List ℕ} {p : Part} {ps : List Part} {n : ℕ} {ts : List Token} → Nests text (p ∷ []) n ts → Nests text (p ∷ ps) n ts
widen (path.token h) = path.token h
widen (path.inside r d) = path.inside r d
widen (path.deeper r d) = path.deeper r d
widen (path.after w d) = no_front d refl

fits_map : {text : List ℕ} {ps qs : List Part} {room : ℕ} {us : List Token} → ((n : ℕ) → Nests text ps n us → Nests text qs n us) → Fits text ps room us → Fits text qs room us
fits_map k (inl e) = inl e
fits_map k (inr (n, d, le)) = inr (n, k n d, le)

exceeds_map : {text : List ℕ} {ps qs : List Part} {room : ℕ} {us : List Token} → ((n : ℕ) → Nests text ps n us → Nests text qs n us) → Exceeds text ps room us → Exceeds text qs room us
exceeds_map k (n, d, lt) = (n, k n d, lt)

-- into a rule
pub by_rule : {X : Type 0} (text : List ℕ) {p : Part} {ps : List Part} (room : ℕ) (us more : List Token) {a b : Answer X} → Rule f.along p ps →
    Follows text ps room us more a b → Follows text (p ∷ []) room us more a b
by_rule text {p} {ps} room us more r h =
    follows_map text ps (p ∷ []) room room us more (fits_map (λ n d. path.inside r d)) (exceeds_map (λ n d. path.inside r d)) h

deeper_fits : {text : List ℕ} {p : Part} {ps : List Part} {room : ℕ} {us : List Token} → Rule f.below p ps → Fits text ps room us → Fits text (p ∷ []) (suc room) us
deeper_fits r (inl e) = inl e
deeper_fits r (inr (n, d, le)) = let more : suc n ≤ suc _ = omega (arith, le) in inr (suc n, path.deeper r d, more)

deeper_exceeds : {text : List ℕ} {p : Part} {ps : List Part} {room : ℕ} {us : List Token} → Rule f.below p ps → Exceeds text ps room us → Exceeds text (p ∷ []) (suc room) us
deeper_exceeds {room} r (n, d, lt) = let more : suc room < suc n = omega (arith, lt) in (suc n, path.deeper r d, more)

pub by_deeper : {X : Type 0} (text : List ℕ) {p : Part} {ps : List Part} (room : ℕ) (us more : List Token) {a b : Answer X} → Rule f.below p ps →
    Follows text ps room us more a b → Follows text (p ∷ []) (suc room) us more a b
by_deeper text {p} {ps} room us more r h = follows_map text ps (p ∷ []) room (suc room) us more (deeper_fits r) (deeper_exceeds r) h

-- behind a whole first part
behind_fits : {text : List ℕ} {p : Part} {ps : List Part} {room : ℕ} {t : Token} {us r : List Token} → Whole text p us (t ∷ r) →
    Fits text ps room (t ∷ r) → Fits text (p ∷ ps) room us
behind_fits w (inl e) = absurd (cc)
behind_fits w (inr (n, d, le)) = inr (n, path.after w d, le)

pub behind_exceeds : {text : List ℕ} {p : Part} {ps : List Part} {room : ℕ} {us r : List Token} → Whole text p us r →
    Exceeds text ps room r → Exceeds text (p ∷ ps) room us
behind_exceeds w (n, d, lt) = (n, path.after w d, lt)

behind : {X : Type 0} (text : List ℕ) {p : Part} {ps : List Part} (room : ℕ) {t : Token} {us r : List Token} (more : List Token) {a b : Answer X} →
    Whole text p us (t ∷ r) → IsTail us (t ∷ r) → Follows text ps room (t ∷ r) more a b → Follows text (p ∷ ps) room us more a b
behind text room more w tail (same h) = same (tail_tail tail h)
behind text room more w tail (ended fits h) = ended (behind_fits w fits) h
behind text room more w tail (out fits h) = out (behind_fits w fits) h
behind text room more w tail (refused h at other deep) = refused (tail_tail tail h) at other (λ d e p. behind_exceeds w (deep d e p))

-- what is answered at the end of the tokens
pub at_end : {X : Type 0} (text : List ℕ) {ps qs : List Part} {room : ℕ} {us more vs ws : List Token} {a b c : Answer X} → vs ≡ [] → Follows text ps room vs ws a b →
    Fits text qs room us → Stays text more c → Follows text qs room us more a c
at_end text e (same tail) fits h = absurd (no_tail tail e refl)
at_end text e (ended _ _) fits h = ended fits h
at_end text e (out _ _) fits h = out fits h
at_end text e (refused tail _ _ _) fits h = absurd (no_tail tail e refl)

pub to_end : (ts : List Token) → IsTail ts []
to_end [] = all
to_end (t ∷ ts) = skip (to_end ts)

-- where an answer stays
pub stays : {X : Type 0} (text : List ℕ) {ps : List Part} {room : ℕ} {us more : List Token} {a b : Answer X} → Follows text ps room us more a b → Stays text us a
stays text (same tail) = leaves tail
stays text {us} (ended fits h) = leaves (to_end us)
stays text (out fits h) = stops (inr refl)
stays text (refused {e} {t} {r} tail at other deep) = stops (place_tail text (place_of_fault e) tail (subst (λ k. IsPlace text (t ∷ r) k) (sym at) (place_here text t r)))

-- what is read behind all that an answer took
stays_then : {X Y : Type 0} (text : List ℕ) (ps : List Part) (room : ℕ) {ts : List Token} {a : Answer X} (k : X × List Token → Answer Y) →
    ((x : X) → IsRead text ps room (λ r. k (x, r))) → Stays text ts a → Stays text ts (a >>= k)
stays_then text ps room k read (leaves {x} {rest} tail) = stays_tail text tail (stays text (read x rest []))
stays_then text ps room k read (stops h) = stops h

fits_widen : {text : List ℕ} {p : Part} {ps : List Part} {room : ℕ} {us : List Token} → Fits text (p ∷ []) room us → Fits text (p ∷ ps) room us
fits_widen fits = fits_map (λ n d. widen d) fits

-- One part is read, and then the others.
pub bind_follows : {X Y : Type 0} (text : List ℕ) (p : Part) (ps : List Part) (room : ℕ) (us more : List Token) {a b : Answer X} (k : X × List Token → Answer Y) →
    ((x : X) (r : List Token) → a ≡ Ok (x, r) → Whole text p us r) → ((x : X) → IsRead text ps room (λ r. k (x, r))) →
    Follows text (p ∷ []) room us more a b → Follows text (p ∷ ps) room us more (a >>= k) (b >>= k)
bind_follows text p ps room us more k sound read (same {x} {t} {r} tail) = behind text room more (sound x (t ∷ r) refl) tail (read x (t ∷ r) more)
bind_follows text p ps room us more k sound read (ended {x} fits h) = at_end text refl (read x [] []) (fits_widen fits) (stays_then text ps room k read h)
bind_follows text p ps room us more k sound read (out fits h) = out (fits_widen fits) (stays_then text ps room k read h)
bind_follows text p ps room us more k sound read (refused tail at other deep) = refused tail at other (λ d e n. exceeds_map (λ m x. widen x) (deep d e n))

pub bind_read : {X Y : Type 0} (text : List ℕ) (p : Part) (ps : List Part) (room : ℕ) (g : List Token → Answer X) (k : X × List Token → Answer Y) →
    IsRead text (p ∷ []) room g → ((us : List Token) (x : X × List Token) → g us ≡ Ok x → Whole text p us x.1) →
    ((x : X) → IsRead text ps room (λ r. k (x, r))) → IsRead text (p ∷ ps) room (λ us. g us >>= k)
bind_read text p ps room g k reads sound others us more =
    bind_follows text p ps room us more k (λ x r e. sound us (x, r) e) others (reads us more)

-- nothing more is read
pub ok_read : {X : Type 0} (text : List ℕ) (ps : List Part) (room : ℕ) (x : X) → IsRead text ps room (λ r. Ok (x, r))
ok_read text ps room x [] more = ended (inl refl) (leaves all)
ok_read text ps room x (t ∷ us) more = same all

-- what a last part was read as is made into a value
stays_last : {X Y : Type 0} (text : List ℕ) {ts : List Token} {a : Answer X} (h : X → Y) → Stays text ts a → Stays text ts (a >>= λ x. Ok (h x.0, x.1))
stays_last text h (leaves tail) = leaves tail
stays_last text h (stops at) = stops at

pub last_follows : {X Y : Type 0} (text : List ℕ) (ps : List Part) (room : ℕ) (us more : List Token) {a b : Answer X} (h : X → Y) →
    Follows text ps room us more a b → Follows text ps room us more (a >>= λ x. Ok (h x.0, x.1)) (b >>= λ x. Ok (h x.0, x.1))
last_follows text ps room us more h (same tail) = same tail
last_follows text ps room us more h (ended fits k) = ended fits (stays_last text h k)
last_follows text ps room us more h (out fits k) = out fits (stays_last text h k)
last_follows text ps room us more h (refused tail at other deep) = refused tail at other deep

pub last_read : {X Y : Type 0} (text : List ℕ) (ps : List Part) (room : ℕ) (g : List Token → Answer X) (h : X → Y) → IsRead text ps room g →
    IsRead text ps room (λ us. g us >>= λ x. Ok (h x.0, x.1))
last_read text ps room g h reads us more = last_follows text ps room us more h (reads us more)

-- a first token is taken
token_fits : {text : List ℕ} {p : Part} {ps : List Part} {room : ℕ} {t : Token} {us : List Token} → IsToken text p t → Fits text ps room us → Fits text (p ∷ ps) room (t ∷ us)
token_fits {text} {p} {ps} {room} {t} {us} h (inl e) =
    let le : 0 ≤ room = omega arith in subst (λ r. Fits text (p ∷ ps) room (t ∷ r)) (sym e) (inr (0, path.token h, le))
token_fits h (inr (n, d, le)) = inr (n, path.after (f.whole_token h) d, le)

pub token_follows : {X : Type 0} (text : List ℕ) (p : Part) (ps : List Part) (room : ℕ) (t : Token) (us more : List Token) {a b : Answer X} → IsToken text p t →
    Follows text ps room us more a b → Follows text (p ∷ ps) room (t ∷ us) more a b
token_follows text p ps room t us more h (same tail) = same (skip tail)
token_follows text p ps room t us more h (ended fits k) = ended (token_fits h fits) k
token_follows text p ps room t us more h (out fits k) = out (token_fits h fits) k
token_follows text p ps room t us more h (refused tail at other deep) = refused (skip tail) at other (λ d e n. behind_exceeds (f.whole_token h) (deep d e n))

-- a first token is refused for the syntax
pub refused_follows : {X : Type 0} (text : List ℕ) (ps : List Part) (room : ℕ) (t : Token) (us more : List Token) →
    Follows {X = X} text ps room (t ∷ us) more (Err (Syntax t.start)) (Err (Syntax t.start))
refused_follows text ps room t us more = refused all refl tt (λ d. absurd d)

-- a function that needs a token
pub needs : {X : Type 0} (text : List ℕ) (ps : List Part) (room : ℕ) (g : List Token → Answer X) → g [] ≡ Err (Syntax (length text)) →
    ((t : Token) (us more : List Token) → Follows text ps room (t ∷ us) more (g (t ∷ us)) (g (t ∷ (us ++ more)))) → IsRead text ps room g
needs {X} text ps room g none some [] more =
    subst (λ a. Follows text ps room [] more a (g more)) (sym none) (out (inl refl) (stays_all more))
  where
    stays_all : (ts : List Token) → Stays text ts (g ts)
    stays_all [] = subst (Stays text []) (sym none) (stops (inr refl))
    stays_all (t ∷ ts) = stays text (some t ts [])
needs text ps room g none some (t ∷ us) more = some t us more

-- a function that can end with no token
pub may_end : {X : Type 0} (text : List ℕ) (ps : List Part) (room : ℕ) (x : X) (g : List Token → Answer X) → g [] ≡ Ok (x, []) →
    ((t : Token) (us more : List Token) → Follows text ps room (t ∷ us) more (g (t ∷ us)) (g (t ∷ (us ++ more)))) → IsRead text ps room g
may_end {X} text ps room x g none some [] more =
    subst (λ a. Follows text ps room [] more a (g more)) (sym none) (ended (inl refl) (stays_all more))
  where
    stays_all : (ts : List Token) → Stays text ts (g ts)
    stays_all [] = subst (Stays text []) (sym none) (leaves all)
    stays_all (t ∷ ts) = stays text (some t ts [])
may_end text ps room x g none some (t ∷ us) more = some t us more

-- a test of the first token
pub if_follows : {X : Type 0} (text : List ℕ) (ps : List Part) (room : ℕ) (us more : List Token) (b : Bool) (x y z w : Answer X) →
    (b ≡ true → Follows text ps room us more x z) → (b ≡ false → Follows text ps room us more y w) →
    Follows text ps room us more (if b then x else y) (if b then z else w)
if_follows text ps room us more true x y z w h k = h refl
if_follows text ps room us more false x y z w h k = k refl

pub expect_read : {X : Type 0} (text : List ℕ) (s : Symbol) (ps : List Part) (room : ℕ) (k : List Token → Answer X) → IsRead text ps room k →
    IsRead text (f.mark s ∷ ps) room (λ us. expect text s us >>= k)
unfolding expect
expect_read text s ps room k read =
    needs text (f.mark s ∷ ps) room (λ us. expect text s us >>= k) refl
    (λ t us more. elim (is_mark s t.kind) as (λ b. is_mark s t.kind ≡ b → Follows text (f.mark s ∷ ps) room (t ∷ us) more
    ((if b then Ok us else Err (Syntax t.start)) >>= k) ((if b then Ok (us ++ more) else Err (Syntax t.start)) >>= k)) [
      | true ↦ λ h. token_follows text (f.mark s) ps room t us more (mark-is s t.kind h) (read us more)
      | false ↦ λ h. refused_follows text (f.mark s ∷ ps) room t us more
    ] refl)

pub expect_word_read : {X : Type 0} (text : List ℕ) (w : WordKind) (ps : List Part) (room : ℕ) (k : List Token → Answer X) → IsRead text ps room k →
    IsRead text (f.word_of w ∷ ps) room (λ us. expect_word text w us >>= k)
unfolding expect_word
expect_word_read text w ps room k read =
    needs text (f.word_of w ∷ ps) room (λ us. expect_word text w us >>= k) refl
    (λ t us more. elim (is_keyword w t.kind) as (λ b. is_keyword w t.kind ≡ b → Follows text (f.word_of w ∷ ps) room (t ∷ us) more
    ((if b then Ok us else Err (Syntax t.start)) >>= k) ((if b then Ok (us ++ more) else Err (Syntax t.start)) >>= k)) [
      | true ↦ λ h. token_follows text (f.word_of w) ps room t us more (keyword-is w t.kind h) (read us more)
      | false ↦ λ h. refused_follows text (f.word_of w ∷ ps) room t us more
    ] refl)

pub name_reads : (text : List ℕ) (room : ℕ) → IsRead text (f.name ∷ []) room (name text)
unfolding name
name_reads text room =
    needs text (f.name ∷ []) room (name text) refl
    (λ t us more. elim (name_of text t) as (λ m. name_of text t ≡ m → Follows text (f.name ∷ []) room (t ∷ us) more
    (elim m [ Some x ↦ Ok (x, us) | None ↦ Err (Syntax t.start) ]) (elim m [ Some x ↦ Ok (x, us ++ more) | None ↦ Err (Syntax t.start) ])) [
      | Some x ↦ λ h. token_follows text f.name [] room t us more (x, h) (ok_read text [] room x us more)
      | None ↦ λ h. refused_follows text (f.name ∷ []) room t us more
    ] refl)

pub numeral_reads : (text : List ℕ) (room : ℕ) (p : Part) (test : TokenKind → Option ℤ) → ((t : Token) (n : ℤ) → test t.kind ≡ Some n → IsToken text p t) →
    IsRead text (p ∷ []) room (numeral test text)
unfolding numeral
numeral_reads text room p test is =
    needs text (p ∷ []) room (numeral test text) refl
    (λ t us more. elim (test t.kind) as (λ m. test t.kind ≡ m → Follows text (p ∷ []) room (t ∷ us) more
    (elim m [ Some x ↦ Ok (x, us) | None ↦ Err (Syntax t.start) ]) (elim m [ Some x ↦ Ok (x, us ++ more) | None ↦ Err (Syntax t.start) ])) [
      | Some x ↦ λ h. token_follows text p [] room t us more (is t x h) (ok_read text [] room x us more)
      | None ↦ λ h. refused_follows text (p ∷ []) room t us more
    ] refl)

-- A token that may stand here is refused for its nesting, and another one for the syntax.
pub full_follows : {X : Type 0} (text : List ℕ) (ps : List Part) (t : Token) (us more : List Token) (b : Bool) →
    (b ≡ true → us ≡ [] → IsProper text t → Exceeds text ps 0 (t ∷ us)) →
    Follows {X = X} text ps 0 (t ∷ us) more (Err (refused_fault text b (t ∷ us))) (Err (refused_fault text b (t ∷ (us ++ more))))
full_follows text ps t us more true h = refused all refl tt (λ d. h refl)
full_follows text ps t us more false h = refused all refl tt (λ d. absurd d)

-- a function behind a token, whose parts depend on what follows
pub token_needs : {X : Type 0} (text : List ℕ) (ps qs : List Part) (room : ℕ) (t : Token) (g : List Token → Answer X) → Follows text qs room [] [] (g []) (g []) →
    Fits text ps room (t ∷ []) → ((ts : List Token) → Stays text ts (g ts)) →
    ((u : Token) (us more : List Token) → Follows text ps room (t ∷ u ∷ us) more (g (u ∷ us)) (g (u ∷ (us ++ more)))) →
    (us more : List Token) → Follows text ps room (t ∷ us) more (g us) (g (us ++ more))
token_needs text ps qs room t g none fits stay some [] more = at_end text refl none fits (stay more)
token_needs text ps qs room t g none fits stay some (u ∷ us) more = some u us more

pub stays_if : {X : Type 0} (text : List ℕ) (ts : List Token) (b : Bool) (x y : Answer X) → Stays text ts x → Stays text ts y → Stays text ts (if b then x else y)
stays_if text ts true x y h k = h
stays_if text ts false x y h k = k

-- what is read may say where the first token stands
pub placed_read : {X : Type 0} (text : List ℕ) (ps : List Part) (room : ℕ) (g : ℕ → List Token → Answer X) → ((at : ℕ) → IsRead text ps room (g at)) →
    IsRead text ps room (λ us. g (place text us) us)
placed_read text ps room g read [] more = at_end text refl (read (length text) [] []) (inl refl) (stays text (read (place text more) more []))
placed_read text ps room g read (t ∷ us) more = read t.start (t ∷ us) more
