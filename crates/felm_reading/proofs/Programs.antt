-- A program is read declaration by declaration, and then the expression of `main`.
use Rattle.std.proofs.Common.{◌≡◌, ℕ, zero, suc, ◌≤◌, ◌<◌, refl, arith, List, [], ◌∷◌, ◌++◌, length, Bool, true, false, sym, ◌∙◌}
use Rattle.std.specs.Prelude.{Result, Ok, Err, if◌then◌else◌}
use Rattle.felm_term.specs.declared.input.InputDecl.{InputDecl}
use Rattle.felm_lexer.specs.declared.kind.WordKind.TheVariants as word
use Rattle.felm_lexer.specs.declared.token.Token.{Token}
use Rattle.felm_syntax.specs.FirstFaults.{Fault}
use Rattle.felm_reading.specs.Reading.{◌>>=◌, has_word, declaration, main_of, program_in, program_after}
use Rattle.felm_reading.proofs.Declared.{declaration_sound, shorter}

-- an answer is followed alike, if what was read is followed alike
follow_alike : {A B : Type 0} (answer : Result A Fault) (f h : A → Result B Fault) → ((x : A) → answer ≡ Ok x → f x ≡ h x) →
    (answer >>= f) ≡ (answer >>= h)
follow_alike (Ok x) f h alike = alike x refl
follow_alike (Err e) f h alike = refl

then_is : {A : Type 0} (b : Bool) (x y : A) → b ≡ true → (if b then x else y) ≡ x
then_is b x y h = rw h refl

else_is : {A : Type 0} (b : Bool) (x y : A) → b ≡ false → (if b then x else y) ≡ y
else_is b x y h = rw h refl

-- a step with a declaration
input_step : (text : List ℕ) (room more : ℕ) (seen : List InputDecl) (ts : List Token) → has_word word.Input ts ≡ true →
    program_in text room (suc more) seen ts ≡ (declaration text seen ts >>= λ d. program_in text room more (seen ++ d.0 ∷ []) d.1)
unfolding program_in
input_step text room more seen ts h = then_is (has_word word.Input ts) _ _ h

-- `main` is read with any number of declarations still to come
main_step : (text : List ℕ) (room n : ℕ) (seen : List InputDecl) (ts : List Token) → has_word word.Input ts ≡ false →
    program_in text room n seen ts ≡ (main_of text room ts >>= λ main. Ok (seen, main))
unfolding program_in
main_step text room zero seen ts h = refl
main_step text room (suc more) seen ts h = else_is (has_word word.Input ts) _ _ h

-- what is left behind a declaration has fewer tokens
left_shorter : (text : List ℕ) (seen : List InputDecl) (ts : List Token) (d : InputDecl × List Token) → has_word word.Input ts ≡ true →
    declaration text seen ts ≡ Ok d → length d.1 < length ts
left_shorter text seen ts d m h = let read = declaration_sound text seen ts d m h in shorter read.0

some_tokens : (ts : List Token) → has_word word.Input ts ≡ true → 0 < length ts
some_tokens [] h = cc
some_tokens (t ∷ ts) h = omega arith

-- more declarations than tokens make no difference
pub enough : (text : List ℕ) (room n m : ℕ) (seen : List InputDecl) (ts : List Token) → length ts ≤ n → length ts ≤ m → (b : Bool) →
    has_word word.Input ts ≡ b → program_in text room n seen ts ≡ program_in text room m seen ts
enough text room n m seen ts le also false h = main_step text room n seen ts h ∙ sym (main_step text room m seen ts h)
enough text room zero m seen ts le also true h = absurd (omega (arith, some_tokens ts h))
enough text room (suc n) zero seen ts le also true h = absurd (omega (arith, some_tokens ts h))
enough text room (suc n) (suc m) seen ts le also true h =
    input_step text room n seen ts h
    ∙ follow_alike (declaration text seen ts) _ _ (λ d k.
    let less = left_shorter text seen ts d h k in
    enough text room n m (seen ++ d.0 ∷ []) d.1 (omega (arith, less)) (omega (arith, less)) (has_word word.Input d.1) refl)
    ∙ sym (input_step text room m seen ts h)

-- a program that goes on with a declaration
pub program_step : (text : List ℕ) (room : ℕ) (seen : List InputDecl) (ts : List Token) → has_word word.Input ts ≡ true →
    program_after text room seen ts ≡ (declaration text seen ts >>= λ d. program_after text room (seen ++ d.0 ∷ []) d.1)
unfolding program_after
program_step text room seen [] h = cc
program_step text room seen (t ∷ ts) h =
    input_step text room (length ts) seen (t ∷ ts) h
    ∙ follow_alike (declaration text seen (t ∷ ts)) _ _ (λ d k.
    let less = left_shorter text seen (t ∷ ts) d h k in
    enough text room (length ts) (length d.1) (seen ++ d.0 ∷ []) d.1 (omega (arith, less)) (omega arith) (has_word word.Input d.1) refl)

-- a program that goes on with `main`
pub program_end : (text : List ℕ) (room : ℕ) (seen : List InputDecl) (ts : List Token) → has_word word.Input ts ≡ false →
    program_after text room seen ts ≡ (main_of text room ts >>= λ main. Ok (seen, main))
unfolding program_after
program_end text room seen ts h = main_step text room (length ts) seen ts h
