-- The list of a graph's sources.
use Rattle.std.proofs.Common.{◌≡◌, ℕ, suc, zero, ◌<◌, ◌⊎◌, inl, inr, Bool, true, false, cond, List, [], ◌∷◌, ◌++◌, length, refl, sym, ap, ◌∙◌, arith, Some}
use Rattle.std.specs.List.{slice_get, All}
use Rattle.std.proofs.lemmas.Bool.{cases_eq, false≢true}
use Rattle.std.proofs.lemmas.Option.{none-some, slice_get-get_or}
use Rattle.std.proofs.lemmas.List.{append-nil}
use Rattle.std.proofs.lemmas.List.Elements.{All-from_get_or}
use Rattle.felm_graph.specs.declared.node.Node.{Node}
use Rattle.felm_graph.specs.Nodes.{is_source}
use Rattle.felm_meaning.proofs.Legal.{source_within}
use Rattle.felm_engine.specs.Lists.{sources_of}
use Rattle.felm_engine.specs.Queued.{AreDistinct, IsIn}
use Rattle.felm_engine.proofs.OverLists.{get_push, get_more, get_pushed}

-- each is a source
pub sources-are : (nodes : List Node) (n i k : ℕ) → slice_get (sources_of nodes n) i ≡ Some k → (k < n) × (is_source nodes k ≡ true)
unfolding sources_of
sources-are nodes zero i k h = absurd (none-some k h)
sources-are nodes (suc n) i k h = go (λ e. sources-are nodes n i k e) (is_source nodes n) refl h
  where
    later : (k < n) × (is_source nodes k ≡ true) → (k < suc n) × (is_source nodes k ≡ true)
    later p = let l : k < n = p.0 in (omega arith, p.1)

    go : (slice_get (sources_of nodes n) i ≡ Some k → (k < n) × (is_source nodes k ≡ true)) → (t : Bool) → is_source nodes n ≡ t
        → slice_get (sources_of nodes n ++ cond t (n ∷ []) []) i ≡ Some k → (k < suc n) × (is_source nodes k ≡ true)
    go ih true q h = elim (get_push (sources_of nodes n) n k i h) [
      | inl e ↦ later (ih e)
      | inr e ↦ (omega (arith, e.1), ap (is_source nodes) e.1 ∙ q)
    ]
    go ih false q h = later (ih (ap (λ (xs : List ℕ). slice_get xs i) (sym (append-nil (sources_of nodes n))) ∙ h))

-- and each source is there
are-sources : (nodes : List Node) (n k : ℕ) → k < n → is_source nodes k ≡ true → IsIn (sources_of nodes n) k
unfolding sources_of
are-sources nodes zero k l h = absurd (omega arith)
are-sources nodes (suc n) k l h = go (λ m. are-sources nodes n k m h) (cases_eq k n) (is_source nodes n) refl
  where
    go : (k < n → IsIn (sources_of nodes n) k) → (k ≡ n) ⊎ (k ≡ n → ⊥) → (t : Bool) → is_source nodes n ≡ t
        → IsIn (sources_of nodes n ++ cond t (n ∷ []) []) k
    go ih (inl e) true q = (length (sources_of nodes n), get_pushed (sources_of nodes n) n ∙ ap (λ (y : ℕ). Some y) (sym e))
    go ih (inl e) false q = absurd (false≢true (sym q ∙ (ap (is_source nodes) (sym e) ∙ h)))
    go ih (inr d) true q = let p : IsIn (sources_of nodes n) k = ih (omega arith) in (p.0, get_more (sources_of nodes n) n k p.0 p.1)
    go ih (inr d) false q =
        let p : IsIn (sources_of nodes n) k = ih (omega arith) in
        (p.0, ap (λ (xs : List ℕ). slice_get xs p.0) (append-nil (sources_of nodes n)) ∙ p.1)

pub sources-distinct : (nodes : List Node) (n : ℕ) → AreDistinct (sources_of nodes n)
unfolding sources_of
sources-distinct nodes zero i j a h k = absurd (none-some a h)
sources-distinct nodes (suc n) i j a h k = go (sources-distinct nodes n i j a) (is_source nodes n) h k
  where
    less : (i : ℕ) → slice_get (sources_of nodes n) i ≡ Some a → a < n
    less i e = (sources-are nodes n i a e).0

    go : (slice_get (sources_of nodes n) i ≡ Some a → slice_get (sources_of nodes n) j ≡ Some a → i ≡ j) → (t : Bool)
        → slice_get (sources_of nodes n ++ cond t (n ∷ []) []) i ≡ Some a → slice_get (sources_of nodes n ++ cond t (n ∷ []) []) j ≡ Some a → i ≡ j
    go ih true h k = elim (get_push (sources_of nodes n) n a i h) [
      | inl e ↦ elim (get_push (sources_of nodes n) n a j k) [ inl f ↦ ih e f | inr f ↦ absurd (omega (arith, less i e, f.1)) ]
      | inr e ↦ elim (get_push (sources_of nodes n) n a j k) [ inl f ↦ absurd (omega (arith, less j f, e.1)) | inr f ↦ e.0 ∙ sym f.0 ]
    ]
    go ih false h k =
        ih (ap (λ (xs : List ℕ). slice_get xs i) (sym (append-nil (sources_of nodes n))) ∙ h)
        (ap (λ (xs : List ℕ). slice_get xs j) (sym (append-nil (sources_of nodes n))) ∙ k)

-- ---- the list of all sources

module _ (nodes : List Node) (sources : List ℕ) (are : sources ≡ sources_of nodes (length nodes)) where
  pub source_there : (k : ℕ) → is_source nodes k ≡ true → IsIn sources k
  source_there k h =
      let p = are-sources nodes (length nodes) k (source_within nodes k h) h in
      (p.0, ap (λ (xs : List ℕ). slice_get xs p.0) are ∙ p.1)

  pub there_source : (k : ℕ) → IsIn sources k → is_source nodes k ≡ true
  there_source k w = (sources-are nodes (length nodes) w.0 k (ap (λ (xs : List ℕ). slice_get xs w.0) (sym are) ∙ w.1)).1

  pub no_source : (k : ℕ) → is_source nodes k ≡ false → IsIn sources k → ⊥
  no_source k h w = false≢true (sym h ∙ there_source k w)

  pub all_distinct : AreDistinct sources
  all_distinct = λ i j a h k.
      sources-distinct nodes (length nodes) i j a (ap (λ (xs : List ℕ). slice_get xs i) (sym are) ∙ h)
      (ap (λ (xs : List ℕ). slice_get xs j) (sym are) ∙ k)

  -- what holds of each source holds of all of them
  pub all_sources : (P : ℕ → Type 0) → ((k : ℕ) → is_source nodes k ≡ true → P k) → All P sources
  all_sources P f = All-from_get_or P sources 0 (λ i l. f _ (there_source _ (i, slice_get-get_or sources i 0 l)))
