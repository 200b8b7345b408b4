-- Reading gives what the grammar says, if there is room for it.
use Rattle.std.proofs.Common.{◌≡◌, ℕ, suc, ◌<◌, max, refl, arith, inl, inr}
use Rattle.std.specs.Prelude.{Result, Ok, Err, ◌⊎◌}
use Rattle.felm_syntax.specs.FirstFaults.{Fault, Depth}
use Rattle.felm_reading.specs.Reading.{◌>>=◌}

abbrev pub IsDepth : {X : Type 0} → Result X Fault → Type 0
IsDepth answer = (at : ℕ) × (answer ≡ Err (Depth at))

-- Ok with x, or refused for the nesting with less room than is needed
abbrev pub Agrees : {X : Type 0} → Result X Fault → X → ℕ → ℕ → Type 0
Agrees answer x need room = (answer ≡ Ok x) ⊎ (IsDepth answer × (room < need))

-- so for each room
abbrev pub Settles : {X : Type 0} → (ℕ → Result X Fault) → X → Type 0
Settles answer x = (need : ℕ) × ((room : ℕ) → Agrees (answer room) x need room)

pub settles_ok : {X : Type 0} (answer : ℕ → Result X Fault) (x : X) → ((room : ℕ) → answer room ≡ Ok x) → Settles answer x
settles_ok answer x h = (0, λ room. inl (h room))

pub agrees_suc : {X : Type 0} (answer : Result X Fault) (x : X) (need room : ℕ) → Agrees answer x need room → Agrees answer x (suc need) (suc room)
agrees_suc answer x need room a = elim a as (λ _. Agrees answer x (suc need) (suc room)) [
  | inl h ↦ inl h
  | inr (h, lt) ↦ (let more : suc room < suc need = omega arith in inr (h, more))
]

pub agrees_full : {X : Type 0} (answer : Result X Fault) (x : X) (need at : ℕ) → answer ≡ Err (Depth at) → Agrees answer x (suc need) 0
agrees_full answer x need at h = let lt : 0 < suc need = omega arith in inr ((at, h), lt)

pub agrees_bind : {X Y : Type 0} (answer : Result X Fault) (f : X → Result Y Fault) (x : X) (y : Y) (d e room : ℕ) →
    Agrees answer x d room → Agrees (f x) y e room → Agrees (answer >>= f) y (max d e) room
agrees_bind answer f x y d e room a b = elim a as (λ _. Agrees (answer >>= f) y (max d e) room) [
  | inl h ↦ rw h (elim b as (λ _. Agrees (f x) y (max d e) room) [
    | inl k ↦ inl k
    | inr (k, above) ↦ (let more : room < max d e = omega arith in inr (k, more))
  ])
  | inr ((at, h), above) ↦ rw h (let more : room < max d e = omega arith in inr ((at, refl), more))
]

-- a last step that can't fail
pub agrees_last : {X Y : Type 0} (answer : Result X Fault) (f : X → Result Y Fault) (x : X) (y : Y) (need room : ℕ) →
    Agrees answer x need room → f x ≡ Ok y → Agrees (answer >>= f) y need room
agrees_last answer f x y need room a last = elim a as (λ _. Agrees (answer >>= f) y need room) [
  | inl h ↦ rw h (inl last)
  | inr ((at, h), above) ↦ rw h (inr ((at, refl), above))
]

-- the same of an answer that is equal
pub agrees_is : {X : Type 0} (answer other : Result X Fault) (x : X) (need room : ℕ) → answer ≡ other → Agrees other x need room → Agrees answer x need room
agrees_is answer other x need room h a = rw h a
