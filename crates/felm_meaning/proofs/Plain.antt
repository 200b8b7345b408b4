-- The journal of a run on one thread: it grows while it can, and it is legal.
use Rattle.std.proofs.Common.{◌≡◌, ℕ, suc, zero, ◌+◌, ◌-◌, ◌<◌, ◌≤◌, ◌⊎◌, inl, inr, Bool, true, false, cond, Option, Some, None, List, [], ◌∷◌, ◌++◌, length, take, refl, sym, ap, ◌∙◌, subst, arith}
use Rattle.std.specs.List.{slice_get}
use Rattle.std.proofs.lemmas.Option.{none-some, same_Some, slice_get_within}
use Rattle.std.proofs.lemmas.Bool.{cases_eq, cases_lt, false≢true}
use Rattle.std.proofs.lemmas.List.{length-append}
use Rattle.felm_term.specs.declared.message.Message.{Message}
use Rattle.felm_term.specs.declared.event.Event.{Event}
use Rattle.felm_graph.specs.GraphValue.{GraphValue}
use Rattle.felm_meaning.specs.Meaning.{at, row, msg, IsThere}
use Rattle.felm_meaning.specs.Journals.{IsLegal, NamesInputs, AllThere, IsLeastNone, next, all_there, with_event, grown, plain_journal}
use Rattle.felm_meaning.specs.Words.{CameNext, IsPlainJournal}
use Rattle.felm_meaning.proofs.Rows.{slice_get-append_left, slice_get_last, take_front, take_whole, item_within, length-row}
use Rattle.felm_meaning.proofs.Legal.{legal-nothing, legal-next}

-- ---- whether all messages of a row are there

all_there-true : (r : List (Option Message)) → ((k : ℕ) → k < length r → IsThere (at r k)) → all_there r ≡ true
all_there-true [] h = refl
all_there-true (m ∷ ms) h = go m (h 0 (omega arith)) (all_there-true ms (λ k l. h (suc k) (omega arith)))
  where
    go : (o : Option Message) → IsThere o → all_there ms ≡ true → all_there (o ∷ ms) ≡ true
    go None t ih = absurd (none-some t.0 t.1)
    go (Some x) t ih = ih

all_there-false : (r : List (Option Message)) (k : ℕ) → k < length r → at r k ≡ None → all_there r ≡ false
all_there-false [] k l h = absurd (omega arith)
all_there-false (m ∷ ms) zero l h = ap (λ (o : Option Message). all_there (o ∷ ms)) h
all_there-false (None ∷ ms) (suc k) l h = refl
all_there-false (Some x ∷ ms) (suc k) l h = all_there-false ms k (omega arith) h

all_there-is : (r : List (Option Message)) → all_there r ≡ true → (k : ℕ) → k < length r → IsThere (at r k)
all_there-is [] h k l = absurd (omega arith)
all_there-is (None ∷ ms) h k l = absurd (false≢true h)
all_there-is (Some x ∷ ms) h zero l = (x, refl)
all_there-is (Some x ∷ ms) h (suc k) l = all_there-is ms h k (omega arith)

-- a front of a journal, one event longer
pub take-more : {X : Type 0} (xs : List X) (n : ℕ) (x : X) → slice_get xs n ≡ Some x → take (suc n) xs ≡ take n xs ++ x ∷ []
take-more [] n x h = absurd (none-some x h)
take-more (y ∷ ys) zero x h = ap (λ (z : _). z ∷ []) (same_Some y x h)
take-more (y ∷ ys) (suc n) x h = ap (λ (zs : List _). y ∷ zs) (take-more ys n x h)

module _ (g : GraphValue) (budget : ℕ) where
  row-all : (j : List Event) → AllThere g budget j → all_there (row g budget j (length j)) ≡ true
  unfolding msg
  row-all j h =
      all_there-true (row g budget j (length j))
      (λ k l. h k (let n : length (row g budget j (length j)) ≡ length g.nodes = length-row g budget j (length j) (omega arith) in omega arith))

  row-all-is : (j : List Event) → all_there (row g budget j (length j)) ≡ true → AllThere g budget j
  unfolding msg
  row-all-is j h =
      λ k l. all_there-is (row g budget j (length j)) h k
      (let n : length (row g budget j (length j)) ≡ length g.nodes = length-row g budget j (length j) (omega arith) in omega arith)

  -- ---- how a journal grows

  pub grown-more : (script j : List Event) (e : Event) → AllThere g budget j → next g budget script j ≡ Some e → grown g budget script j ≡ j ++ e ∷ []
  grown-more script j e h n =
      ap (λ (t : Bool). with_event j (cond t (next g budget script j) None)) (row-all j h) ∙ ap (with_event j) n

  pub grown-none : (script j : List Event) → next g budget script j ≡ None → grown g budget script j ≡ j
  grown-none script j n = go (all_there (row g budget j (length j)))
    where
      go : (t : Bool) → with_event j (cond t (next g budget script j) None) ≡ j
      go true = ap (with_event j) n
      go false = refl

  pub grown-over : (script j : List Event) (k : ℕ) → IsLeastNone g (row g budget j (length j)) k → grown g budget script j ≡ j
  grown-over script j k h =
      let n : length (row g budget j (length j)) ≡ length g.nodes = length-row g budget j (length j) (omega arith) in
      let l : k < length (row g budget j (length j)) = let l' : k < length g.nodes = h.0 in omega arith in
      ap (λ (t : Bool). with_event j (cond t (next g budget script j) None)) (all_there-false (row g budget j (length j)) k l h.1)

  -- a journal whose events all came next is the plain journal up to its length
  came-front : (script j : List Event) (limit n : ℕ) → CameNext g budget script limit j → n ≤ length j → plain_journal g budget script n ≡ take n j
  unfolding plain_journal
  came-front script j limit zero c l = refl
  came-front script j limit (suc n) c l =
      let e = item_within j n (omega arith) in
      let s = c n e.0 e.1 in
      ap (grown g budget script) (came-front script j limit n c (omega arith)) ∙
      (grown-more script (take n j) e.0 s.0 s.2 ∙ sym (take-more j n e.0 e.1))

  pub came-within : (script j : List Event) (limit : ℕ) → CameNext g budget script limit j → length j ≤ limit
  came-within script j limit c = go (length j) refl
    where
      go : (n : ℕ) → length j ≡ n → n ≤ limit
      go zero h = omega arith
      go (suc n) h =
          let e = item_within j n (omega arith) in
          let s = c n e.0 e.1 in
          let l : n < limit = s.1 in
          omega arith

  stays : (script j : List Event) (n m : ℕ) → plain_journal g budget script n ≡ j → grown g budget script j ≡ j → plain_journal g budget script (n + m) ≡ j
  unfolding plain_journal
  stays script j n zero p h = let z : n + zero ≡ n = omega arith in ap (plain_journal g budget script) z ∙ p
  stays script j n (suc m) p h =
      let z : n + suc m ≡ suc (n + m) = omega arith in
      ap (plain_journal g budget script) z ∙ (ap (grown g budget script) (stays script j n m p h) ∙ h)

  -- a journal whose events all came next, and that grows no more, is the plain journal
  pub plain-here : (script j : List Event) (limit : ℕ) → CameNext g budget script limit j → (length j ≡ limit) ⊎ (grown g budget script j ≡ j)
      → j ≡ plain_journal g budget script limit
  plain-here script j limit c h =
      let l : length j ≤ limit = came-within script j limit c in
      let p : plain_journal g budget script (length j) ≡ j = came-front script j limit (length j) c (omega arith) ∙ take_whole j in
      go h l p
    where
      go : (length j ≡ limit) ⊎ (grown g budget script j ≡ j) → length j ≤ limit → plain_journal g budget script (length j) ≡ j
          → j ≡ plain_journal g budget script limit
      go (inl e) l p = sym (subst (λ (x : ℕ). plain_journal g budget script x ≡ j) e p)
      go (inr e) l p =
          let z : length j + (limit - length j) ≡ limit = omega arith in
          sym (subst (λ (x : ℕ). plain_journal g budget script x ≡ j) z (stays script j (length j) (limit - length j) p e))

  -- one more event that came next
  pub came-more : (script j : List Event) (limit : ℕ) (e : Event) → CameNext g budget script limit j → AllThere g budget j → length j < limit
      → next g budget script j ≡ Some e → CameNext g budget script limit (j ++ e ∷ [])
  came-more script j limit e c h l n = λ p d q. go p d q (cases_lt p (length j)) (cases_eq p (length j))
    where
      go : (p : ℕ) (d : Event) → slice_get (j ++ e ∷ []) p ≡ Some d → (p < length j) ⊎ (length j ≤ p) → (p ≡ length j) ⊎ (p ≡ length j → ⊥)
          → AllThere g budget (take p (j ++ e ∷ [])) × (p < limit) × (next g budget script (take p (j ++ e ∷ [])) ≡ Some d)
      go p d q (inl w) z =
          let f : take p j ≡ take p (j ++ e ∷ []) = sym (take_front j (e ∷ []) p (omega arith)) in
          subst (λ (x : List Event). AllThere g budget x × (p < limit) × (next g budget script x ≡ Some d)) f
          (c p d (sym (slice_get-append_left j (e ∷ []) p w) ∙ q))
      go p d q (inr w) (inl z) =
          let f : j ≡ take p (j ++ e ∷ []) =
          sym (take_whole j) ∙ (sym (take_front j (e ∷ []) (length j) (omega arith)) ∙ ap (λ (x : ℕ). take x (j ++ e ∷ [])) (sym z)) in
          let s : Some e ≡ Some d = sym (slice_get_last j e) ∙ (ap (slice_get (j ++ e ∷ [])) (sym z) ∙ q) in
          subst (λ (x : List Event). AllThere g budget x × (p < limit) × (next g budget script x ≡ Some d)) f (h, omega arith, n ∙ s)
      go p d q (inr w) (inr z) =
          let u : p < length (j ++ e ∷ []) = slice_get_within (j ++ e ∷ []) p d q in
          let v : length (j ++ e ∷ []) ≡ length j + 1 = length-append j (e ∷ []) in
          absurd (omega arith)

  came-later : (script j : List Event) (limit more : ℕ) → limit ≤ more → CameNext g budget script limit j → CameNext g budget script more j
  came-later script j limit more l c = λ n e h.
      let s = c n e h in
      let w : n < limit = s.1 in
      (s.0, omega arith, s.2)

  -- ---- the plain journal grows while it can, and no longer

  plain-came : (script : List Event) (limit : ℕ) → CameNext g budget script limit (plain_journal g budget script limit)
  unfolding plain_journal
  plain-came script zero = λ n e h. absurd (none-some e h)
  plain-came script (suc limit) =
      let j = plain_journal g budget script limit in
      go j (all_there (row g budget j (length j))) refl (next g budget script j) refl (plain-came script limit) (came-within script j limit (plain-came script limit))
    where
      go : (j : List Event) (t : Bool) → all_there (row g budget j (length j)) ≡ t → (o : Option Event) → next g budget script j ≡ o
          → CameNext g budget script limit j → length j ≤ limit → CameNext g budget script (suc limit) (with_event j (cond t o None))
      go j false p o q c l = came-later script j limit (suc limit) (omega arith) c
      go j true p None q c l = came-later script j limit (suc limit) (omega arith) c
      go j true p (Some e) q c l =
          came-more script j (suc limit) e (came-later script j limit (suc limit) (omega arith) c) (row-all-is j p) (omega arith) q

  plain-stops : (script : List Event) (limit : ℕ) → length (plain_journal g budget script limit) < limit
      → grown g budget script (plain_journal g budget script limit) ≡ plain_journal g budget script limit
  unfolding plain_journal
  plain-stops script zero h = absurd (omega arith)
  plain-stops script (suc limit) h =
      let j = plain_journal g budget script limit in
      go j (cond (all_there (row g budget j (length j))) (next g budget script j) None) refl h (plain-stops script limit)
    where
      go : (j : List Event) (o : Option Event) → cond (all_there (row g budget j (length j))) (next g budget script j) None ≡ o
          → length (with_event j o) < suc limit → (length j < limit → grown g budget script j ≡ j)
          → grown g budget script (with_event j o) ≡ with_event j o
      go j None p l ih = ap (with_event j) p
      go j (Some e) p l ih =
          let n : length (j ++ e ∷ []) ≡ length j + 1 = length-append j (e ∷ []) in
          let s : j ++ e ∷ [] ≡ j = sym (ap (with_event j) p) ∙ ih (omega arith) in
          let m : length (j ++ e ∷ []) ≡ length j = ap length s in
          absurd (omega arith)

  pub plain-is : (script : List Event) (limit : ℕ) → IsPlainJournal g budget script limit (plain_journal g budget script limit)
  plain-is script limit =
      let j = plain_journal g budget script limit in
      record { steps = plain-came script limit; ends = λ h l. go j (next g budget script j) refl h l (plain-stops script limit) }
    where
      go : (j : List Event) (o : Option Event) → next g budget script j ≡ o → AllThere g budget j → length j < limit
          → (length j < limit → grown g budget script j ≡ j) → o ≡ None
      go j None q h l stops = refl
      go j (Some e) q h l stops =
          let s : j ++ e ∷ [] ≡ j = sym (grown-more script j e h q) ∙ stops l in
          let n : length (j ++ e ∷ []) ≡ length j + 1 = length-append j (e ∷ []) in
          let m : length (j ++ e ∷ []) ≡ length j = ap length s in
          absurd (omega arith)

  -- no other journal does
  pub plain-only : (script j : List Event) (limit : ℕ) → IsPlainJournal g budget script limit j → j ≡ plain_journal g budget script limit
  plain-only script j limit p =
      plain-here script j limit p.steps (go (cases_lt (length j) limit) (all_there (row g budget j (length j))) refl)
    where
      go : (length j < limit) ⊎ (limit ≤ length j) → (t : Bool) → all_there (row g budget j (length j)) ≡ t
          → (length j ≡ limit) ⊎ (grown g budget script j ≡ j)
      go (inr l) t q = let w : length j ≤ limit = came-within script j limit p.steps in inl (omega arith)
      go (inl l) true q = inr (grown-none script j (p.ends (row-all-is j q) l))
      go (inl l) false q = inr (ap (λ (t : Bool). with_event j (cond t (next g budget script j) None)) q)

  -- it is legal at every step
  pub plain-legal : (script : List Event) (limit : ℕ) → NamesInputs g.nodes script → IsLegal g budget script (plain_journal g budget script limit)
  unfolding plain_journal
  plain-legal script zero named = legal-nothing g budget script
  plain-legal script (suc limit) named =
      let j = plain_journal g budget script limit in
      go j (all_there (row g budget j (length j))) (next g budget script j) refl (plain-legal script limit named)
    where
      go : (j : List Event) (t : Bool) (o : Option Event) → next g budget script j ≡ o → IsLegal g budget script j
          → IsLegal g budget script (with_event j (cond t o None))
      go j false o q ok = ok
      go j true None q ok = ok
      go j true (Some e) q ok = legal-next g budget script j e named ok q
