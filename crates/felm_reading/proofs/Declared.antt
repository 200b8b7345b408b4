-- What is read as a declaration is one by the grammar, and the other way round.
use Rattle.std.proofs.Common.{◌≡◌, ℕ, ◌<◌, refl, arith, inl, inr, List, ◌∷◌, length, drop, ap, ◌∙◌, Bool, true, false}
use Rattle.std.specs.Prelude.{ℤ, Result, Ok, Err, if◌then◌else◌, bytes_eq, Some, pos}
use Rattle.std.specs.List.{list_any}
use Rattle.felm_term.specs.Inputs.{names_of}
use Rattle.felm_term.specs.declared.input.InputDecl.{InputDecl}
use Rattle.felm_term.specs.declared.input.InputTy.TheVariants as input
use Rattle.felm_lexer.specs.declared.kind.Symbol.TheVariants as symbol
use Rattle.felm_lexer.specs.declared.kind.TokenKind.TheVariants as kind
use Rattle.felm_lexer.specs.declared.kind.WordKind.TheVariants as word
use Rattle.felm_lexer.specs.declared.token.Token.{Token}
use Rattle.felm_syntax.specs.Kinds.{unsigned_number, negated, name_of}
use Rattle.felm_syntax.specs.Grammar.{ReadsLiteral, ReadsDeclaration}
use Rattle.felm_syntax.specs.Grammar as g
use Rattle.felm_syntax.specs.FirstFaults.{Fault, Twice}
use Rattle.felm_reading.specs.Reading.{◌>>=◌, place, has_mark, has_word, expect, name, literal, new_name, int_input, unit_input, described, declaration}
use Rattle.felm_reading.proofs.Tokens.{Took, took, TookName, took_name, TookNumber, took_number, number-is, mark_took, word_took, expect_took, name_took, numeral_took, name_read, number_read, chosen, bind_ok, ok_move, no_ok}

-- the rules, over tokens that were taken
signed_of : {ts us rest : List Token} {n : ℤ} → Took (kind.Mark symbol.Minus) ts us → TookNumber negated n us rest → ReadsLiteral ts rest n
signed_of (took h) (took_number k) = g.signed h k

unsigned_of : {ts rest : List Token} {n : ℤ} → TookNumber unsigned_number n ts rest → ReadsLiteral ts rest n
unsigned_of (took_number k) = g.unsigned k

int_of : {text : List ℕ} {ts us vs ws xs ys rest : List Token} {x : List ℕ} {n : ℤ} →
    Took (kind.Word word.Input) ts us → TookName text x us vs → Took (kind.Mark symbol.Colon) vs ws → Took (kind.Word word.Int) ws xs →
    Took (kind.Mark symbol.Equals) xs ys → ReadsLiteral ys rest n →
    ReadsDeclaration text ts rest (record { name = x; ty = input.Int; default = n })
int_of (took a) (took_name b) (took c) (took d) (took e) n = g.int_input a b c d e n

unit_of : {text : List ℕ} {ts us vs ws xs ys zs rest : List Token} {x : List ℕ} →
    Took (kind.Word word.Input) ts us → TookName text x us vs → Took (kind.Mark symbol.Colon) vs ws → Took (kind.Word word.Unit) ws xs →
    Took (kind.Mark symbol.Equals) xs ys → Took (kind.Mark symbol.OpenBracket) ys zs → Took (kind.Mark symbol.CloseBracket) zs rest →
    ReadsDeclaration text ts rest (record { name = x; ty = input.Unit; default = pos 0 })
unit_of (took a) (took_name b) (took c) (took d) (took e) (took o) (took f) = g.unit_input a b c d e o f

literal_sound : (text : List ℕ) (ts : List Token) (x : ℤ × List Token) → literal text ts ≡ Ok x → ReadsLiteral ts x.1 x.0
unfolding literal
literal_sound text ts x h =
    elim (chosen (has_mark symbol.Minus ts) _ _ (Ok x) h) as (λ _. ReadsLiteral ts x.1 x.0) [
      | inl (m, q) ↦ signed_of (mark_took symbol.Minus ts m) (numeral_took negated text (drop 1 ts) x q)
      | inr (m, q) ↦ unsigned_of (numeral_took unsigned_number text ts x q)
    ]

-- a new name is a name, and none of those that were seen
pub new_name_is : (text : List ℕ) (seen : List InputDecl) (ts : List Token) (x : List ℕ × List Token) → new_name text seen ts ≡ Ok x →
    TookName text x.0 ts x.1 × (list_any (bytes_eq x.0) (names_of seen) ≡ false)
unfolding new_name
new_name_is text seen ts x h =
    let P : List ℕ × List Token → Type 0 = λ y. TookName text y.0 ts y.1 × (list_any (bytes_eq y.0) (names_of seen) ≡ false) in
    let a = bind_ok (name text ts) _ x h in
    elim (chosen (list_any (bytes_eq a.0.0) (names_of seen)) _ _ (Ok x) a.2) as (λ _. P x) [
      | inl (m, q) ↦ absurd (no_ok _ x q)
      | inr (m, q) ↦ ok_move P a.0 x q (name_took text ts a.0 a.1, m)
    ]

-- What is described behind a name and a colon is a declaration with this name.
abbrev IsDescribed : List ℕ → List Token → List ℕ → InputDecl × List Token → Type 0
IsDescribed text ts x d = ReadsDeclaration text ts d.1 d.0 × (d.0.name ≡ x)

int_sound : (text : List ℕ) {all us vs ts : List Token} {x : List ℕ} (d : InputDecl × List Token) →
    Took (kind.Word word.Input) all us → TookName text x us vs → Took (kind.Mark symbol.Colon) vs ts → has_word word.Int ts ≡ true →
    int_input text x ts ≡ Ok d → IsDescribed text all x d
unfolding int_input
int_sound text {all} {ts} {x} d a b c m h =
    let e = bind_ok (expect text symbol.Equals (drop 1 ts)) _ d h in
    let n = bind_ok (literal text e.0) _ d e.2 in
    ok_move (IsDescribed text all x) (record { name = x; ty = input.Int; default = n.0.0 }, n.0.1) d n.2
    (int_of a b c (word_took word.Int ts m) (expect_took text symbol.Equals (drop 1 ts) e.0 e.1) (literal_sound text e.0 n.0 n.1), refl)

unit_sound : (text : List ℕ) {all us vs ts : List Token} {x : List ℕ} (d : InputDecl × List Token) →
    Took (kind.Word word.Input) all us → TookName text x us vs → Took (kind.Mark symbol.Colon) vs ts → has_word word.Unit ts ≡ true →
    unit_input text x ts ≡ Ok d → IsDescribed text all x d
unfolding unit_input
unit_sound text {all} {ts} {x} d a b c m h =
    let e = bind_ok (expect text symbol.Equals (drop 1 ts)) _ d h in
    let o = bind_ok (expect text symbol.OpenBracket e.0) _ d e.2 in
    let f = bind_ok (expect text symbol.CloseBracket o.0) _ d o.2 in
    ok_move (IsDescribed text all x) (record { name = x; ty = input.Unit; default = pos 0 }, f.0) d f.2 (
      unit_of a b c (word_took word.Unit ts m) (expect_took text symbol.Equals (drop 1 ts) e.0 e.1)
          (expect_took text symbol.OpenBracket e.0 o.0 o.1) (expect_took text symbol.CloseBracket o.0 f.0 f.1),
      refl,
    )

described_sound : (text : List ℕ) {all us vs ts : List Token} {x : List ℕ} (d : InputDecl × List Token) →
    Took (kind.Word word.Input) all us → TookName text x us vs → Took (kind.Mark symbol.Colon) vs ts →
    described text x ts ≡ Ok d → IsDescribed text all x d
unfolding described
described_sound text {all} {ts} {x} d a b c h =
    elim (chosen (has_word word.Int ts) _ _ (Ok d) h) as (λ _. IsDescribed text all x d) [
      | inl (m, q) ↦ int_sound text d a b c m q
      | inr (m, q) ↦ elim (chosen (has_word word.Unit ts) _ _ (Ok d) q) as (λ _. IsDescribed text all x d) [
        | inl (n, r) ↦ unit_sound text d a b c n r
        | inr (n, r) ↦ absurd (no_ok _ d r)
      ]
    ]

-- what is read as a declaration is one, with a name that wasn't seen
pub declaration_sound : (text : List ℕ) (seen : List InputDecl) (ts : List Token) (d : InputDecl × List Token) → has_word word.Input ts ≡ true →
    declaration text seen ts ≡ Ok d → ReadsDeclaration text ts d.1 d.0 × (list_any (bytes_eq d.0.name) (names_of seen) ≡ false)
unfolding declaration
declaration_sound text seen ts d m h =
    let x = bind_ok (new_name text seen (drop 1 ts)) _ d h in
    let c = bind_ok (expect text symbol.Colon x.0.1) _ d x.2 in
    let new = new_name_is text seen (drop 1 ts) x.0 x.1 in
    let read = described_sound text d (word_took word.Input ts m) new.0 (expect_took text symbol.Colon x.0.1 c.0 c.1) c.2 in
    (read.0, rw read.1 new.1)

-- a declaration takes tokens
pub literal_shorter : {ts rest : List Token} {n : ℤ} → ReadsLiteral ts rest n → length rest < length ts
literal_shorter (g.unsigned h) = omega arith
literal_shorter (g.signed h k) = omega arith

pub shorter : {text : List ℕ} {ts rest : List Token} {d : InputDecl} → ReadsDeclaration text ts rest d → length rest < length ts
shorter (g.int_input _ _ _ _ _ n) = omega (arith, literal_shorter n)
shorter (g.unit_input _ _ _ _ _ _ _) = omega arith

-- what begins with a declaration begins with its word
pub declaration_word : {text : List ℕ} {ts rest : List Token} {d : InputDecl} → ReadsDeclaration text ts rest d → has_word word.Input ts ≡ true
declaration_word (g.int_input h _ _ _ _ _) = rw h refl
declaration_word (g.unit_input h _ _ _ _ _ _) = rw h refl

pub literal_read : (text : List ℕ) {ts rest : List Token} {n : ℤ} → ReadsLiteral ts rest n → literal text ts ≡ Ok (n, rest)
unfolding literal
literal_read text (g.unsigned {t} {rest} {n} h) =
    let plain : has_mark symbol.Minus (t ∷ rest) ≡ false = rw (number-is t.kind n h) refl in
    rw plain (number_read unsigned_number text t rest n h)
literal_read text (g.signed {m} {t} {rest} {n} h k) = rw h (number_read negated text t rest n k)

-- a name is refused if it was seen
abbrev pub if_new : {A : Type 0} → List ℕ → List InputDecl → Token → A → Result A Fault
if_new x seen n a = if list_any (bytes_eq x) (names_of seen) then Err (Twice n.start) else Ok a

pub new_name_read : (text : List ℕ) (seen : List InputDecl) (n : Token) (ts : List Token) (x : List ℕ) → name_of text n ≡ Some x →
    new_name text seen (n ∷ ts) ≡ if_new x seen n (x, ts)
unfolding new_name
new_name_read text seen n ts x h = rw (name_read text n ts x h, new_name) refl

if_bind : {A B : Type 0} (b : Bool) (e : Fault) (a : A) (f : A → Result B Fault) (c : B) → f a ≡ Ok c →
    ((if b then Err e else Ok a) >>= f) ≡ (if b then Err e else Ok c)
if_bind true e a f c h = refl
if_bind false e a f c h = h

named_read : (text : List ℕ) (seen : List InputDecl) (t n : Token) (ts rest : List Token) (x : List ℕ) (d : InputDecl) → name_of text n ≡ Some x →
    (expect text symbol.Colon ts >>= λ us. described text x us) ≡ Ok (d, rest) →
    declaration text seen (t ∷ n ∷ ts) ≡ if_new x seen n (d, rest)
unfolding declaration
named_read text seen t n ts rest x d h k =
    ap (λ r. r >>= λ x. (expect text symbol.Colon x.1 >>= λ us. described text x.0 us)) (new_name_read text seen n ts x h)
    ∙ if_bind (list_any (bytes_eq x) (names_of seen)) (Twice n.start) (x, ts)
    (λ x. (expect text symbol.Colon x.1 >>= λ us. described text x.0 us)) (d, rest) k

-- A declaration is read, or refused where its name was seen.
pub declaration_read : (text : List ℕ) (seen : List InputDecl) {ts rest : List Token} {d : InputDecl} → ReadsDeclaration text ts rest d →
    declaration text seen ts ≡ (if list_any (bytes_eq d.name) (names_of seen) then Err (Twice (place text (drop 1 ts))) else Ok (d, rest))
unfolding expect described int_input unit_input
declaration_read text seen (g.int_input {t} {n} {c} {i} {e} {ts} {rest} {x} {default} ht hn hc hi he hl) =
    named_read text seen t n (c ∷ i ∷ e ∷ ts) rest x _ hn (rw (hc, hi, he, literal_read text hl, int_input) refl)
declaration_read text seen (g.unit_input {t} {n} {c} {u} {e} {o} {d} {rest} {x} ht hn hc hu he ho hd) =
    named_read text seen t n (c ∷ u ∷ e ∷ o ∷ d ∷ rest) rest x _ hn (rw (hc, hu, he, ho, hd) refl)
