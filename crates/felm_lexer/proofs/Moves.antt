-- Readings of a text with more bytes before it.
use Rattle.std.proofs.Common.{◌≡◌, ℕ, ◌+◌, List, [], ◌∷◌, ◌++◌, map, refl, sym, ap, ◌∙◌, add_assoc, zero-add, append_assoc}
use Rattle.felm_lexer.specs.declared.token.Token.{Token}
use Rattle.felm_lexer.specs.Readings.{Reading, Whole, NoToken, TooWide, moved_token, moved, behind}

-- a token that moves twice
moved_token_twice : (m n : ℕ) (t : Token) → moved_token m (moved_token n t) ≡ moved_token (m + n) t
moved_token_twice m n t =
    ap (λ (a : ℕ). let u : Token = record { kind = t.kind; start = a; end = m + (n + t.end) } in u) (sym (add_assoc m n t.start))
    ∙ ap (λ (b : ℕ). let u : Token = record { kind = t.kind; start = m + n + t.start; end = b } in u) (sym (add_assoc m n t.end))

-- a token that moves by no bytes
moved_token_nowhere : (t : Token) → moved_token 0 t ≡ t
moved_token_nowhere t =
    ap (λ (a : ℕ). let u : Token = record { kind = t.kind; start = a; end = 0 + t.end } in u) (zero-add t.start)
    ∙ ap (λ (b : ℕ). let u : Token = record { kind = t.kind; start = t.start; end = b } in u) (zero-add t.end)

-- tokens that move twice
moved_tokens_twice : (m n : ℕ) (ts : List Token) → map (moved_token m) (map (moved_token n) ts) ≡ map (moved_token (m + n)) ts
moved_tokens_twice m n [] = refl
moved_tokens_twice m n (t ∷ ts) = rw (moved_token_twice m n t, moved_tokens_twice m n ts) refl

-- tokens that move by no bytes
moved_tokens_nowhere : (ts : List Token) → map (moved_token 0) ts ≡ ts
moved_tokens_nowhere [] = refl
moved_tokens_nowhere (t ∷ ts) = rw (moved_token_nowhere t, moved_tokens_nowhere ts) refl

-- two moves are one
pub moved_twice : (m n : ℕ) (reading : Reading) → moved m (moved n reading) ≡ moved (m + n) reading
moved_twice m n (Whole tokens) = ap Whole (moved_tokens_twice m n tokens)
moved_twice m n (NoToken at) = ap NoToken (sym (add_assoc m n at))
moved_twice m n (TooWide at) = ap TooWide (sym (add_assoc m n at))

-- no bytes move nothing
pub moved_nowhere : (reading : Reading) → moved 0 reading ≡ reading
moved_nowhere (Whole tokens) = ap Whole (moved_tokens_nowhere tokens)
moved_nowhere (NoToken at) = ap NoToken (zero-add at)
moved_nowhere (TooWide at) = ap TooWide (zero-add at)

-- a token before a reading moves with it
pub moved-behind : (n : ℕ) (token : Token) (reading : Reading) → moved n (behind token reading) ≡ behind (moved_token n token) (moved n reading)
moved-behind n token (Whole tokens) = refl
moved-behind n token (NoToken at) = refl
moved-behind n token (TooWide at) = refl

-- the same reading with these tokens before it
abbrev pub behind_all : List Token → Reading → Reading
behind_all front (Whole tokens) = Whole (front ++ tokens)
behind_all front (NoToken at) = NoToken at
behind_all front (TooWide at) = TooWide at

-- no tokens before a reading leave it
pub behind_none : (reading : Reading) → behind_all [] reading ≡ reading
behind_none (Whole tokens) = refl
behind_none (NoToken at) = refl
behind_none (TooWide at) = refl

-- one more token before a reading is one more behind those before it
pub behind_more : (front : List Token) (token : Token) (reading : Reading) → behind_all front (behind token reading) ≡ behind_all (front ++ token ∷ []) reading
behind_more front token (Whole tokens) = ap Whole (sym (append_assoc front (token ∷ []) tokens))
behind_more front token (NoToken at) = refl
behind_more front token (TooWide at) = refl
