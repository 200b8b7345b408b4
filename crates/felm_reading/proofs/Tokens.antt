-- What the tests on tokens say.
use Rattle.std.proofs.Common.{◌≡◌, ℕ, refl, ap, subst, inl, inr, List, [], ◌∷◌, Bool, true, false, drop}
use Rattle.std.specs.Prelude.{ℤ, Option, Some, None, Result, Ok, Err, ◌⊎◌, ◌&&◌, if◌then◌else◌}
use Rattle.felm_syntax.specs.Kinds.{same_symbol, same_word, is_mark, is_keyword, unsigned_number, is_name_kind, is_named, text_of, name_of}
use Rattle.felm_lexer.specs.declared.kind.Symbol.{Symbol}
use Rattle.felm_lexer.specs.declared.kind.Symbol.TheVariants as symbol
use Rattle.felm_lexer.specs.declared.kind.WordKind.{WordKind}
use Rattle.felm_lexer.specs.declared.kind.WordKind.TheVariants as word
use Rattle.felm_lexer.specs.declared.kind.TokenKind.{TokenKind}
use Rattle.felm_lexer.specs.declared.kind.TokenKind.TheVariants as kind
use Rattle.felm_lexer.specs.declared.token.Token.{Token}
use Rattle.felm_syntax.specs.FirstFaults.{Fault, Syntax}
use Rattle.felm_reading.specs.Reading.{◌>>=◌, Answer, place, has_mark, has_word, expect, expect_word, name, numeral}

-- symbols and words are told apart
symbol-is : (a b : Symbol) → same_symbol a b ≡ true → a ≡ b
symbol-is symbol.Backslash symbol.Backslash h = refl
symbol-is symbol.Backslash _ h = cc
symbol-is symbol.Colon symbol.Colon h = refl
symbol-is symbol.Colon _ h = cc
symbol-is symbol.Dot symbol.Dot h = refl
symbol-is symbol.Dot _ h = cc
symbol-is symbol.Equals symbol.Equals h = refl
symbol-is symbol.Equals _ h = cc
symbol-is symbol.Arrow symbol.Arrow h = refl
symbol-is symbol.Arrow _ h = cc
symbol-is symbol.OpenBracket symbol.OpenBracket h = refl
symbol-is symbol.OpenBracket _ h = cc
symbol-is symbol.CloseBracket symbol.CloseBracket h = refl
symbol-is symbol.CloseBracket _ h = cc
symbol-is symbol.Plus symbol.Plus h = refl
symbol-is symbol.Plus _ h = cc
symbol-is symbol.Minus symbol.Minus h = refl
symbol-is symbol.Minus _ h = cc
symbol-is symbol.Star symbol.Star h = refl
symbol-is symbol.Star _ h = cc
symbol-is symbol.DoubleSlash symbol.DoubleSlash h = refl
symbol-is symbol.DoubleSlash _ h = cc
symbol-is symbol.Percent symbol.Percent h = refl
symbol-is symbol.Percent _ h = cc
symbol-is symbol.DoubleEquals symbol.DoubleEquals h = refl
symbol-is symbol.DoubleEquals _ h = cc
symbol-is symbol.SlashEquals symbol.SlashEquals h = refl
symbol-is symbol.SlashEquals _ h = cc
symbol-is symbol.Less symbol.Less h = refl
symbol-is symbol.Less _ h = cc
symbol-is symbol.LessEquals symbol.LessEquals h = refl
symbol-is symbol.LessEquals _ h = cc
symbol-is symbol.Greater symbol.Greater h = refl
symbol-is symbol.Greater _ h = cc
symbol-is symbol.GreaterEquals symbol.GreaterEquals h = refl
symbol-is symbol.GreaterEquals _ h = cc
symbol-is symbol.DoubleAmpersand symbol.DoubleAmpersand h = refl
symbol-is symbol.DoubleAmpersand _ h = cc
symbol-is symbol.DoubleBar symbol.DoubleBar h = refl
symbol-is symbol.DoubleBar _ h = cc

word-is : (a b : WordKind) → same_word a b ≡ true → a ≡ b
word-is word.Input word.Input h = refl
word-is word.Input _ h = cc
word-is word.Main word.Main h = refl
word-is word.Main _ h = cc
word-is word.Let word.Let h = refl
word-is word.Let _ h = cc
word-is word.In word.In h = refl
word-is word.In _ h = cc
word-is word.If word.If h = refl
word-is word.If _ h = cc
word-is word.Then word.Then h = refl
word-is word.Then _ h = cc
word-is word.Else word.Else h = refl
word-is word.Else _ h = cc
word-is word.Int word.Int h = refl
word-is word.Int _ h = cc
word-is word.Unit word.Unit h = refl
word-is word.Unit _ h = cc
word-is word.Signal word.Signal h = refl
word-is word.Signal _ h = cc
word-is word.Foldp word.Foldp h = refl
word-is word.Foldp _ h = cc
word-is word.Async word.Async h = refl
word-is word.Async _ h = cc
word-is word.Lift1 word.Lift1 h = refl
word-is word.Lift1 _ h = cc
word-is word.Lift2 word.Lift2 h = refl
word-is word.Lift2 _ h = cc
word-is word.Lift3 word.Lift3 h = refl
word-is word.Lift3 _ h = cc
word-is word.Lift4 word.Lift4 h = refl
word-is word.Lift4 _ h = cc
word-is word.Lift5 word.Lift5 h = refl
word-is word.Lift5 _ h = cc
word-is word.Lift6 word.Lift6 h = refl
word-is word.Lift6 _ h = cc
word-is word.Lift7 word.Lift7 h = refl
word-is word.Lift7 _ h = cc
word-is word.Lift8 word.Lift8 h = refl
word-is word.Lift8 _ h = cc
word-is word.Lift9 word.Lift9 h = refl
word-is word.Lift9 _ h = cc
word-is word.Merge word.Merge h = refl
word-is word.Merge _ h = cc
word-is word.SampleOn word.SampleOn h = refl
word-is word.SampleOn _ h = cc
word-is word.DropRepeats word.DropRepeats h = refl
word-is word.DropRepeats _ h = cc
word-is word.KeepIf word.KeepIf h = refl
word-is word.KeepIf _ h = cc
word-is word.Output word.Output h = refl
word-is word.Output _ h = cc

pub mark-is : (s : Symbol) (k : TokenKind) → is_mark s k ≡ true → k ≡ kind.Mark s
mark-is s (kind.Mark m) h = ap kind.Mark (symbol-is m s h)
mark-is s kind.Name h = cc
mark-is s (kind.Int _) h = cc
mark-is s kind.Big h = cc
mark-is s (kind.Word _) h = cc

pub keyword-is : (w : WordKind) (k : TokenKind) → is_keyword w k ≡ true → k ≡ kind.Word w
keyword-is w (kind.Word v) h = ap kind.Word (word-is v w h)
keyword-is w kind.Name h = cc
keyword-is w (kind.Int _) h = cc
keyword-is w kind.Big h = cc
keyword-is w (kind.Mark _) h = cc

-- the first token is of the kind, and the others are the rest
pub data Took : TokenKind → List Token → List Token → Type 0 where
  took : {k : TokenKind} {t : Token} {ts : List Token} → t.kind ≡ k → Took k (t ∷ ts) ts

pub mark_took : (s : Symbol) (ts : List Token) → has_mark s ts ≡ true → Took (kind.Mark s) ts (drop 1 ts)
mark_took s [] h = cc
mark_took s (t ∷ ts) h = took (mark-is s t.kind h)

pub word_took : (w : WordKind) (ts : List Token) → has_word w ts ≡ true → Took (kind.Word w) ts (drop 1 ts)
word_took w [] h = cc
word_took w (t ∷ ts) h = took (keyword-is w t.kind h)

-- which way a test went
pub chosen : {X : Type 0} (b : Bool) (x y z : X) → (if b then x else y) ≡ z → ((b ≡ true) × (x ≡ z)) ⊎ ((b ≡ false) × (y ≡ z))
chosen true x y z h = inl (refl, h)
chosen false x y z h = inr (refl, h)

pub bind_ok : {X Y : Type 0} (answer : Result X Fault) (f : X → Result Y Fault) (y : Y) → (answer >>= f) ≡ Ok y →
    (x : X) × (answer ≡ Ok x) × (f x ≡ Ok y)
bind_ok (Ok x) f y h = (x, refl, h)
bind_ok (Err e) f y h = cc

pub ok_move : {X : Type 0} (P : X → Type 0) (x y : X) → ◌≡◌ {A = Result X Fault} (Ok x) (Ok y) → P x → P y
ok_move P x y h p = let e : x ≡ y = cc in subst P e p

pub no_ok : {X : Type 0} (e : Fault) (x : X) → ◌≡◌ {A = Result X Fault} (Err e) (Ok x) → ⊥
no_ok e x q = cc

pub expect_took : (text : List ℕ) (s : Symbol) (ts us : List Token) → expect text s ts ≡ Ok us → Took (kind.Mark s) ts us
unfolding expect
expect_took text s ts us h =
    elim (chosen (has_mark s ts) (Ok (drop 1 ts)) (Err (Syntax (place text ts))) (Ok us) h) as (λ _. Took (kind.Mark s) ts us) [
      | inl (m, q) ↦ ok_move (λ r. Took (kind.Mark s) ts r) _ us q (mark_took s ts m)
      | inr (m, q) ↦ absurd (no_ok _ us q)
    ]

pub expect_word_took : (text : List ℕ) (w : WordKind) (ts us : List Token) → expect_word text w ts ≡ Ok us → Took (kind.Word w) ts us
unfolding expect_word
expect_word_took text w ts us h =
    elim (chosen (has_word w ts) (Ok (drop 1 ts)) (Err (Syntax (place text ts))) (Ok us) h) as (λ _. Took (kind.Word w) ts us) [
      | inl (m, q) ↦ ok_move (λ r. Took (kind.Word w) ts r) _ us q (word_took w ts m)
      | inr (m, q) ↦ absurd (no_ok _ us q)
    ]

-- a number token is one
pub number-is : (k : TokenKind) (n : ℤ) → unsigned_number k ≡ Some n → k ≡ kind.Int n
number-is (kind.Int m) n h = let e : m ≡ n = cc in ap kind.Int e
number-is kind.Name n h = cc
number-is kind.Big n h = cc
number-is (kind.Word _) n h = cc
number-is (kind.Mark _) n h = cc

-- a name token is of the kind of names
name_kind-is : (k : TokenKind) → is_name_kind k ≡ true → k ≡ kind.Name
name_kind-is kind.Name h = refl
name_kind-is (kind.Int _) h = cc
name_kind-is kind.Big h = cc
name_kind-is (kind.Word _) h = cc
name_kind-is (kind.Mark _) h = cc

and_first : (a b : Bool) → (a && b) ≡ true → a ≡ true
and_first true b h = refl
and_first false b h = cc

named_is : {X : Type 0} (b : Bool) (x y : X) → (if b then Some x else None) ≡ Some y → b ≡ true
named_is true x y h = refl
named_is false x y h = cc

pub name-is : (text : List ℕ) (t : Token) (x : List ℕ) → name_of text t ≡ Some x → t.kind ≡ kind.Name
unfolding name_of
name-is text t x h =
    name_kind-is t.kind (and_first _ _ (and_first _ _ (and_first _ _ (named_is (is_named text t) (text_of text t) x h))))

-- the first token is this name, and the others are the rest
pub data TookName (text : List ℕ) : List ℕ → List Token → List Token → Type 0 where
  took_name : {x : List ℕ} {t : Token} {ts : List Token} → name_of text t ≡ Some x → TookName text x (t ∷ ts) ts

abbrev name_or : Token → List Token → Option (List ℕ) → Answer (List ℕ)
name_or t ts (Some x) = Ok (x, ts)
name_or t ts None = Err (Syntax t.start)

name_by : (text : List ℕ) (t : Token) (ts : List Token) (m : Option (List ℕ)) (x : List ℕ × List Token) → name_of text t ≡ m →
    name_or t ts m ≡ Ok x → TookName text x.0 (t ∷ ts) x.1
name_by text t ts (Some n) x e h = ok_move (λ (y : List ℕ × List Token). TookName text y.0 (t ∷ ts) y.1) (n, ts) x h (took_name e)
name_by text t ts None x e h = absurd (no_ok _ x h)

pub name_took : (text : List ℕ) (ts : List Token) (x : List ℕ × List Token) → name text ts ≡ Ok x → TookName text x.0 ts x.1
unfolding name
name_took text [] x h = absurd (no_ok _ x h)
name_took text (t ∷ ts) x h = name_by text t ts (name_of text t) x refl h

-- the first token is a number by this test, and the others are the rest
pub data TookNumber (test : TokenKind → Option ℤ) : ℤ → List Token → List Token → Type 0 where
  took_number : {n : ℤ} {t : Token} {ts : List Token} → test t.kind ≡ Some n → TookNumber test n (t ∷ ts) ts

abbrev number_or : Token → List Token → Option ℤ → Answer ℤ
number_or t ts (Some n) = Ok (n, ts)
number_or t ts None = Err (Syntax t.start)

number_by : (test : TokenKind → Option ℤ) (t : Token) (ts : List Token) (m : Option ℤ) (x : ℤ × List Token) → test t.kind ≡ m →
    number_or t ts m ≡ Ok x → TookNumber test x.0 (t ∷ ts) x.1
number_by test t ts (Some n) x e h = ok_move (λ (y : ℤ × List Token). TookNumber test y.0 (t ∷ ts) y.1) (n, ts) x h (took_number e)
number_by test t ts None x e h = absurd (no_ok _ x h)

pub numeral_took : (test : TokenKind → Option ℤ) (text : List ℕ) (ts : List Token) (x : ℤ × List Token) → numeral test text ts ≡ Ok x →
    TookNumber test x.0 ts x.1
unfolding numeral
numeral_took test text [] x h = absurd (no_ok _ x h)
numeral_took test text (t ∷ ts) x h = number_by test t ts (test t.kind) x refl h

-- a name and a number are read
pub name_read : (text : List ℕ) (t : Token) (ts : List Token) (x : List ℕ) → name_of text t ≡ Some x → name text (t ∷ ts) ≡ Ok (x, ts)
unfolding name
name_read text t ts x h = rw (h, name) refl

pub number_read : (test : TokenKind → Option ℤ) (text : List ℕ) (t : Token) (ts : List Token) (n : ℤ) → test t.kind ≡ Some n →
    numeral test text (t ∷ ts) ≡ Ok (n, ts)
unfolding numeral
number_read test text t ts n h = rw (h, numeral) refl
