-- What an edge holds, and facts on fronts in the words of the laws.
use Rattle.std.proofs.Common.{◌≡◌, ℕ, suc, zero, ◌+◌, ◌-◌, ◌<◌, ◌≤◌, ◌⊎◌, inl, inr, Option, List, [], ◌∷◌, ◌++◌, length, take, drop, refl, sym, ap, ◌∙◌, arith, length-drop}
use Rattle.std.specs.List.{slice_get}
use Rattle.std.proofs.lemmas.Bool.{cases_eq}
use Rattle.std.proofs.lemmas.List.{length-append}
use Rattle.std.specs.Option.{option_to_list}
use Rattle.felm_term.specs.declared.message.Message.{Message}
use Rattle.felm_term.specs.declared.event.Event.{Event}
use Rattle.felm_graph.specs.GraphValue.{GraphValue}
use Rattle.felm_graph.specs.Graphs.{IsGraph}
use Rattle.felm_meaning.specs.Meaning.{msg, val, value_at, sends, edge, IsThere, row}
use Rattle.felm_meaning.specs.Laws.{DefaultsThere}
use Rattle.felm_meaning.proofs.Graphs.{ordered}
use Rattle.felm_meaning.proofs.Rows.{slice_get-append_left, slice_get_last, msg-take}
use Rattle.felm_meaning.proofs.Fronts.{message_there, there_upto}

slice_get-drop : {X : Type 0} (xs : List X) (r i : ℕ) → slice_get (drop r xs) i ≡ slice_get xs (r + i)
slice_get-drop xs zero i = let e : i ≡ 0 + i = omega arith in ap (slice_get xs) e
slice_get-drop [] (suc r) i = refl
slice_get-drop (x ∷ xs) (suc r) i = let e : suc r + i ≡ suc (r + i) = omega arith in slice_get-drop xs r i ∙ ap (slice_get (x ∷ xs)) (sym e)

module _ (g : GraphValue) (budget : ℕ) (j : List Event) where
  -- one message a position
  length-sends : (k w : ℕ) → ((p : ℕ) → p < w → IsThere (msg g budget j k (suc p))) → length (sends g budget j k w) ≡ w
  unfolding sends
  length-sends k zero h = refl
  length-sends k (suc w) h =
      let m = h w (omega arith) in
      let ih : length (sends g budget j k w) ≡ w = length-sends k w (λ p l. h p (omega arith)) in
      let e : length (sends g budget j k w ++ option_to_list (msg g budget j k (suc w))) ≡ length (sends g budget j k w ++ m.0 ∷ []) =
      ap (λ (o : Option Message). length (sends g budget j k w ++ option_to_list o)) m.1 in
      e ∙ (length-append (sends g budget j k w) (m.0 ∷ []) ∙ (let r : length (sends g budget j k w) + 1 ≡ suc w = omega arith in r))

  sent-at : (k w i : ℕ) → ((p : ℕ) → p < w → IsThere (msg g budget j k (suc p))) → i < w → slice_get (sends g budget j k w) i ≡ msg g budget j k (suc i)
  unfolding sends
  sent-at k zero i h l = absurd (omega arith)
  sent-at k (suc w) i h l = go (cases_eq i w) (sent-at k w i (λ p u. h p (omega arith)))
    where
      front : length (sends g budget j k w) ≡ w
      front = length-sends k w (λ p u. h p (omega arith))

      go : (i ≡ w) ⊎ (i ≡ w → ⊥) → (i < w → slice_get (sends g budget j k w) i ≡ msg g budget j k (suc i))
          → slice_get (sends g budget j k w ++ option_to_list (msg g budget j k (suc w))) i ≡ msg g budget j k (suc i)
      go (inr n) ih =
          let u : i < w = omega arith in
          slice_get-append_left (sends g budget j k w) (option_to_list (msg g budget j k (suc w))) i (omega (arith, front)) ∙ ih u
      go (inl e) ih =
          let m = h w (omega arith) in
          let s : length (sends g budget j k w) ≡ i = omega (arith, front) in
          ap (λ (o : Option Message). slice_get (sends g budget j k w ++ option_to_list o) i) m.1 ∙
          (ap (slice_get (sends g budget j k w ++ m.0 ∷ [])) (sym s) ∙
          (slice_get_last (sends g budget j k w) m.0 ∙ (sym m.1 ∙ ap (λ (x : ℕ). msg g budget j k (suc x)) (sym e))))

  pub edge-holds : (k r w : ℕ) → r ≤ w → ((p : ℕ) → p < w → IsThere (msg g budget j k (suc p)))
      → (r + length (edge g budget j k r w) ≡ w) × ((i : ℕ) → r + i < w → slice_get (edge g budget j k r w) i ≡ msg g budget j k (suc (r + i)))
  edge-holds k r w l h =
      let n : length (sends g budget j k w) ≡ w = length-sends k w h in
      let d : length (drop r (sends g budget j k w)) ≡ length (sends g budget j k w) - r = length-drop r (sends g budget j k w) in
      (omega arith, λ i u. slice_get-drop (sends g budget j k w) r i ∙ sent-at k w (r + i) h u)

  -- ---- fronts

  pub meaning-take : (k p q : ℕ) → p ≤ q → (msg g budget j k p ≡ msg g budget (take q j) k p) × (val g budget j k p ≡ val g budget (take q j) k p)
  unfolding val
  meaning-take k p q h = (msg-take g budget j k p q h, ap value_at (msg-take g budget j k p q h))

  -- the defaults are those of any journal
  pub default-there : (k : ℕ) → IsThere (val g budget [] k 0) → IsThere (msg g budget j k 0)
  unfolding val msg row
  default-there k h = message_there (msg g budget [] k 0) h

  pub front-there : (k p q : ℕ) → IsGraph g → DefaultsThere g budget → k < length g.nodes → p ≤ q → IsThere (msg g budget j k q) → IsThere (msg g budget j k p)
  front-there k p q graph defaults l h t = there_upto g budget j k q p (ordered g graph) l (default-there k (defaults k l)) h t
