-- Copies of a message that are taken one by one.
use Rattle.std.proofs.Common.{◌≡◌, ℕ, ◌+◌, ◌-◌, ◌<◌, List, replicate, get_or, take, Option, Some, None, refl, sym, ap, ◌∙◌, arith}
use Rattle.std.specs.Option.{IsSome}
use Rattle.std.proofs.lemmas.Bool.{false≢true}
use Rattle.std.proofs.lemmas.List.{take-replicate, get_or-replicate}
use Rattle.felm_term.specs.declared.message.Message.{Message}

-- what is left after the last one was taken
pub rest_are : (n after : ℕ) (m : Message) (copies rest : List Message) → copies ≡ replicate n m → rest ≡ take (n - 1) copies → after + 1 ≡ n
    → rest ≡ replicate after m
rest_are n after m copies rest e r l =
    let s : n - 1 ≡ after = omega arith in
    r ∙ ap (λ (xs : List Message). take (n - 1) xs) e ∙ take-replicate (n - 1) n m (omega arith) ∙ ap (λ (k : ℕ). replicate k m) s

-- and what was taken
pub taken_is : (n : ℕ) (m x : Message) (copies : List Message) → copies ≡ replicate n m → 0 < n → Some x ≡ Some (get_or copies (n - 1) x) → m ≡ x
taken_is n m x copies e l h =
    let s : x ≡ get_or copies (n - 1) x = cc in
    sym (s ∙ ap (λ (xs : List Message). get_or xs (n - 1) x) e ∙ get_or-replicate n (n - 1) m x (omega arith))

-- the message that is there
pub some_message : (o : Option Message) → IsSome o → (m : Message) × (o ≡ Some m)
some_message None h = absurd (false≢true h)
some_message (Some m) h = (m, refl)
