-- The flags of turns that are out, and their count.
use Rattle.std.proofs.Common.{◌≡◌, ℕ, suc, zero, ◌+◌, ◌<◌, ◌≤◌, inl, inr, Bool, true, false, cond, List, [], ◌∷◌, length, set, refl, sym, ap, ◌∙◌, arith}
use Rattle.std.specs.Prelude.{replicate, count_by}
use Rattle.std.proofs.lemmas.Bool.{cases_lt, false≢true}
use Rattle.std.proofs.lemmas.List.{set-get_or, set_past, get_or_past}
use Rattle.std.proofs.lemmas.List.Sums.{sum_by-set, get_or-le-sum_by, sum_by-cons, count_by-le-length}
use Rattle.felm_core.specs.Positions.{is_out}

abbrev pub out_count : List Bool → ℕ
out_count out = count_by (λ b. b) out

abbrev weight : Bool → ℕ
weight b = cond b 1 0

set_weight : (out : List Bool) (k : ℕ) (b : Bool) → k < length out → out_count (set out k b) + weight (is_out out k) ≡ out_count out + weight b
set_weight out k b l = sum_by-set (λ x. cond x 1 0) out k b false l

-- a turn more is out
pub count-set : (out : List Bool) (k : ℕ) → k < length out → is_out out k ≡ false → out_count (set out k true) ≡ out_count out + 1
count-set out k l h =
    let e : out_count (set out k true) + weight (is_out out k) ≡ out_count out + weight true = set_weight out k true l in
    let z : weight (is_out out k) ≡ 0 = ap weight h in
    omega (arith, e, z)

out_within : (out : List Bool) (k : ℕ) → is_out out k ≡ true → k < length out
out_within out k h = elim (cases_lt k (length out)) [ inl l ↦ l | inr l ↦ absurd (false≢true (sym (get_or_past out k false l) ∙ h)) ]

-- a turn less
pub count-clear : (out : List Bool) (k : ℕ) → is_out out k ≡ true → out_count (set out k false) + 1 ≡ out_count out
count-clear out k h =
    let e : out_count (set out k false) + weight (is_out out k) ≡ out_count out + weight false = set_weight out k false (out_within out k h) in
    let z : weight (is_out out k) ≡ 1 = ap weight h in
    omega (arith, e, z)

-- clearing a clear flag does nothing
pub clear_same : (out : List Bool) (k : ℕ) → is_out out k ≡ false → set out k false ≡ out
clear_same out k h = ap (set out k) (sym h) ∙ set-get_or out k false

pub clear_past : (out : List Bool) (k : ℕ) → length out ≤ k → set out k false ≡ out
clear_past out k l = set_past out k false l

-- no turn is out exactly where none is counted
pub none-counted : (out : List Bool) → out_count out ≡ 0 → (k : ℕ) → is_out out k ≡ false
none-counted out h k = go (is_out out k) refl
  where
    go : (b : Bool) → is_out out k ≡ b → is_out out k ≡ false
    go false q = q
    go true q =
        let l : weight (is_out out k) ≤ out_count out = get_or-le-sum_by (λ x. cond x 1 0) out k false (out_within out k q) in
        let z : weight (is_out out k) ≡ 1 = ap weight q in
        absurd (omega (arith, l, z))

pub counted-none : (out : List Bool) → ((k : ℕ) → is_out out k ≡ false) → out_count out ≡ 0
counted-none [] h = refl
counted-none (b ∷ out) h =
    let e : out_count (b ∷ out) ≡ weight b + out_count out = sum_by-cons (λ x. cond x 1 0) b out in
    let z : weight b ≡ 0 = ap weight (h 0) in
    let r : out_count out ≡ 0 = counted-none out (λ k. h (suc k)) in
    omega (arith, e, z, r)

pub replicate-clear : (n k : ℕ) → is_out (replicate n false) k ≡ false
replicate-clear zero k = refl
replicate-clear (suc n) zero = refl
replicate-clear (suc n) (suc k) = replicate-clear n k

pub count-replicate : (n : ℕ) → out_count (replicate n false) ≡ 0
count-replicate n = counted-none (replicate n false) (replicate-clear n)

pub count-most : (out : List Bool) → out_count out ≤ length out
count-most out = count_by-le-length (λ b. b) out
