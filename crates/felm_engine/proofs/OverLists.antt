-- The lists of the asyncs over each node and of the sources.
use Rattle.std.proofs.Common.{◌≡◌, ℕ, suc, zero, ◌+◌, ◌<◌, ◌⊎◌, inl, inr, Bool, true, false, cond, Option, Some, None, List, [], ◌∷◌, ◌++◌, length, set, get_or, eqb, refl, sym, ap, ◌∙◌, subst, arith, add-one}
use Rattle.std.specs.List.{slice_get}
use Rattle.std.specs.Option.{option_map_or, option_and_then}
use Rattle.std.proofs.lemmas.Bool.{cases_eq, false≢true, eqb-true, eq-eqb}
use Rattle.std.proofs.lemmas.Option.{none-some, same_Some, slice_get-get_or}
use Rattle.std.proofs.lemmas.List.{length_push, append-nil, length-set, map-set, get_or-map, get_or-set_same, get_or-set_other}
use Rattle.felm_term.specs.Spared.{Spared}
use Rattle.felm_graph.specs.declared.node.Node.{Node}
use Rattle.felm_graph.specs.GraphValue.{GraphValue}
use Rattle.felm_graph.specs.Graphs.{IsGraph}
use Rattle.felm_graph.specs.Nodes.{is_source}
use Rattle.felm_meaning.specs.Nodes.{inner, inner_of_kind}
use Rattle.felm_meaning.proofs.Graphs.{ordered}
use Rattle.felm_meaning.proofs.Legal.{async_is_source, source_within}
use Rattle.felm_core.specs.Contents.{turning}
use Rattle.felm_engine.specs.Lists.{is_over, asyncs_over, sources_of, items_in, with_async}
use Rattle.felm_engine.specs.Queued.{AreDistinct, IsIn}

-- ---- lists with one more item

pub get_push : {X : Type 0} (xs : List X) (y a : X) (i : ℕ) → slice_get (xs ++ y ∷ []) i ≡ Some a → (slice_get xs i ≡ Some a) ⊎ ((i ≡ length xs) × (a ≡ y))
get_push [] y a zero h = inr (refl, sym (same_Some y a h))
get_push [] y a (suc i) h = absurd (none-some a h)
get_push (x ∷ xs) y a zero h = inl h
get_push (x ∷ xs) y a (suc i) h = elim (get_push xs y a i h) [ inl e ↦ inl e | inr e ↦ inr (ap suc e.0, e.1) ]

pub get_more : {X : Type 0} (xs : List X) (y a : X) (i : ℕ) → slice_get xs i ≡ Some a → slice_get (xs ++ y ∷ []) i ≡ Some a
get_more [] y a i h = absurd (none-some a h)
get_more (x ∷ xs) y a zero h = h
get_more (x ∷ xs) y a (suc i) h = get_more xs y a i h

pub get_pushed : {X : Type 0} (xs : List X) (y : X) → slice_get (xs ++ y ∷ []) (length xs) ≡ Some y
get_pushed [] y = refl
get_pushed (x ∷ xs) y = get_pushed xs y

-- ---- lists of lists

pub list_at : (lists : List (Spared ℕ)) (x : ℕ) (d : Spared ℕ) → x < length lists → get_or (items_in lists) x [] ≡ (get_or lists x d).items
list_at lists x d l = get_or-map (λ (s : Spared ℕ). s.items) lists x d [] l

-- one list more, which is empty
pub empty-push : (lists : List (Spared ℕ)) (list : Spared ℕ) → list.items ≡ [] → ((x : ℕ) → get_or (items_in lists) x [] ≡ []) → (x : ℕ)
    → get_or (items_in (lists ++ list ∷ [])) x [] ≡ []
empty-push [] list e h zero = e
empty-push [] list e h (suc x) = refl
empty-push (l ∷ lists) list e h zero = h 0
empty-push (l ∷ lists) list e h (suc x) = empty-push lists list e (λ y. h (suc y)) x

-- one list has one item more
pub added-list : (lists : List (Spared ℕ)) (x n : ℕ) (d new : Spared ℕ) → x < length lists → new.items ≡ (get_or lists x d).items ++ n ∷ []
    → items_in (set lists x new) ≡ set (items_in lists) x (get_or (items_in lists) x [] ++ n ∷ [])
added-list lists x n d new l e =
    map-set (λ (s : Spared ℕ). s.items) lists x new ∙
    ap (set (items_in lists) x) (e ∙ ap (λ (xs : List ℕ). xs ++ n ∷ []) (sym (list_at lists x d l)))

pub length-with_async : (o : Option ℕ) (a : ℕ) (asyncs : List (List ℕ)) → length (with_async o a asyncs) ≡ length asyncs
length-with_async None a asyncs = refl
length-with_async (Some x) a asyncs = length-set asyncs x _

-- ---- asyncs

-- the inner signal of a node that was read
pub inner_read : (g : GraphValue) (nodes : List Node) (k : ℕ) (n : Node) → nodes ≡ g.nodes → k < length g.nodes
    → inner g.nodes k ≡ inner_of_kind (get_or nodes k n).kind
inner_read g nodes k n e l =
    let w : k < length nodes = omega (arith, l, ap length e) in
    ap (λ (ns : List Node). inner ns k) (sym e) ∙
    ap (λ (o : Option Node). option_and_then (λ m. inner_of_kind m.kind) o) (slice_get-get_or nodes k n w)

-- it is a node
pub inner_within : (g : GraphValue) → IsGraph g → (k x : ℕ) → inner g.nodes k ≡ Some x → x < length g.nodes
inner_within g graph k x h =
    let l : x < k = (ordered g graph).inner_down k x h in
    let m : k < length g.nodes = source_within g.nodes k (async_is_source g.nodes k x h).0 in
    omega arith

over_inner : (nodes : List Node) (x a : ℕ) → is_over nodes x a ≡ true → inner nodes a ≡ Some x
over_inner nodes x a h = go (inner nodes a) refl h
  where
    go : (o : Option ℕ) → inner nodes a ≡ o → option_map_or (λ i. eqb i x) o false ≡ true → inner nodes a ≡ Some x
    go None e q = absurd (false≢true q)
    go (Some i) e q = e ∙ ap (λ (y : ℕ). Some y) (eqb-true i x q)

inner_over : (nodes : List Node) (x a : ℕ) → inner nodes a ≡ Some x → is_over nodes x a ≡ true
inner_over nodes x a h = ap (λ (o : Option ℕ). option_map_or (λ i. eqb i x) o false) h ∙ eq-eqb x x refl

-- each is an async over the node
pub asyncs-over : (nodes : List Node) (x n i a : ℕ) → slice_get (asyncs_over nodes x n) i ≡ Some a → (a < n) × (inner nodes a ≡ Some x)
unfolding asyncs_over
asyncs-over nodes x zero i a h = absurd (none-some a h)
asyncs-over nodes x (suc n) i a h = go (is_over nodes x n) refl h (asyncs-over nodes x n i a)
  where
    later : (a < n) × (inner nodes a ≡ Some x) → (a < suc n) × (inner nodes a ≡ Some x)
    later p = let l : a < n = p.0 in (omega (arith, l), p.1)

    go : (t : Bool) → is_over nodes x n ≡ t → slice_get (asyncs_over nodes x n ++ cond t (n ∷ []) []) i ≡ Some a
        → (slice_get (asyncs_over nodes x n) i ≡ Some a → (a < n) × (inner nodes a ≡ Some x)) → (a < suc n) × (inner nodes a ≡ Some x)
    go true q h ih = elim (get_push (asyncs_over nodes x n) n a i h) [
      | inl e ↦ later (ih e)
      | inr e ↦ (omega (arith, e.1), ap (inner nodes) e.1 ∙ over_inner nodes x n q)
    ]
    go false q h ih = later (ih (ap (λ (xs : List ℕ). slice_get xs i) (sym (append-nil (asyncs_over nodes x n))) ∙ h))

-- and each async over the node is there
pub over-asyncs : (nodes : List Node) (x n a : ℕ) → a < n → inner nodes a ≡ Some x → IsIn (asyncs_over nodes x n) a
unfolding asyncs_over
over-asyncs nodes x zero a l h = absurd (omega (arith, l))
over-asyncs nodes x (suc n) a l h = go (cases_eq a n) (is_over nodes x n) refl (λ m. over-asyncs nodes x n a m h)
  where
    go : (a ≡ n) ⊎ (a ≡ n → ⊥) → (t : Bool) → is_over nodes x n ≡ t → (a < n → IsIn (asyncs_over nodes x n) a)
        → IsIn (asyncs_over nodes x n ++ cond t (n ∷ []) []) a
    go (inl e) true q ih = (length (asyncs_over nodes x n), get_pushed (asyncs_over nodes x n) n ∙ ap (λ (y : ℕ). Some y) (sym e))
    go (inl e) false q ih = absurd (false≢true (sym q ∙ (ap (is_over nodes x) (sym e) ∙ inner_over nodes x a h)))
    go (inr k) true q ih = let p = ih (omega (arith, l)) in (p.0, get_more (asyncs_over nodes x n) n a p.0 p.1)
    go (inr k) false q ih =
        let p = ih (omega (arith, l)) in (p.0, ap (λ (xs : List ℕ). slice_get xs p.0) (append-nil (asyncs_over nodes x n)) ∙ p.1)

pub asyncs-distinct : (nodes : List Node) (x n : ℕ) → AreDistinct (asyncs_over nodes x n)
unfolding asyncs_over
asyncs-distinct nodes x zero i j a h k = absurd (none-some a h)
asyncs-distinct nodes x (suc n) i j a h k = go (is_over nodes x n) h k (asyncs-distinct nodes x n i j a)
  where
    before : List ℕ
    before = asyncs_over nodes x n

    less : (i : ℕ) → slice_get before i ≡ Some a → a < n
    less i e = (asyncs-over nodes x n i a e).0

    both : (slice_get before i ≡ Some a) ⊎ ((i ≡ length before) × (a ≡ n)) → (slice_get before j ≡ Some a) ⊎ ((j ≡ length before) × (a ≡ n))
        → (slice_get before i ≡ Some a → slice_get before j ≡ Some a → i ≡ j) → i ≡ j
    both (inl e) (inl f) ih = ih e f
    both (inl e) (inr f) ih = absurd (omega (arith, less i e, f.1))
    both (inr e) (inl f) ih = absurd (omega (arith, less j f, e.1))
    both (inr e) (inr f) ih = e.0 ∙ sym f.0

    go : (t : Bool) → slice_get (before ++ cond t (n ∷ []) []) i ≡ Some a → slice_get (before ++ cond t (n ∷ []) []) j ≡ Some a
        → (slice_get before i ≡ Some a → slice_get before j ≡ Some a → i ≡ j) → i ≡ j
    go true h k ih = both (get_push before n a i h) (get_push before n a j k) ih
    go false h k ih =
        ih (ap (λ (xs : List ℕ). slice_get xs i) (sym (append-nil before)) ∙ h) (ap (λ (xs : List ℕ). slice_get xs j) (sym (append-nil before)) ∙ k)

-- one node further: the node is put at the end of one list, if it is an async
pub asyncs-none : (nodes : List Node) (n x : ℕ) → inner nodes n ≡ None → asyncs_over nodes x (suc n) ≡ asyncs_over nodes x n
unfolding asyncs_over
asyncs-none nodes n x h =
    let t : is_over nodes x n ≡ false = ap (λ (o : Option ℕ). option_map_or (λ i. eqb i x) o false) h in
    ap (λ (b : Bool). asyncs_over nodes x n ++ cond b (n ∷ []) []) t ∙ append-nil (asyncs_over nodes x n)

pub asyncs-same : (nodes : List Node) (n x : ℕ) → inner nodes n ≡ Some x → asyncs_over nodes x (suc n) ≡ asyncs_over nodes x n ++ n ∷ []
unfolding asyncs_over
asyncs-same nodes n x h = ap (λ (b : Bool). asyncs_over nodes x n ++ cond b (n ∷ []) []) (inner_over nodes x n h)

pub asyncs-other : (nodes : List Node) (n x y : ℕ) → inner nodes n ≡ Some y → (x ≡ y → ⊥) → asyncs_over nodes x (suc n) ≡ asyncs_over nodes x n
unfolding asyncs_over
asyncs-other nodes n x y h k = go (is_over nodes x n) refl
  where
    go : (t : Bool) → is_over nodes x n ≡ t → asyncs_over nodes x n ++ cond t (n ∷ []) [] ≡ asyncs_over nodes x n
    go true q = absurd (k (same_Some x y (sym (over_inner nodes x n q) ∙ h)))
    go false q = append-nil (asyncs_over nodes x n)

-- ---- sources

pub sources-more : (nodes : List Node) (n : ℕ) → is_source nodes n ≡ true → sources_of nodes (suc n) ≡ sources_of nodes n ++ n ∷ []
unfolding sources_of
sources-more nodes n h = ap (λ (b : Bool). sources_of nodes n ++ cond b (n ∷ []) []) h

pub sources-same : (nodes : List Node) (n : ℕ) → is_source nodes n ≡ false → sources_of nodes (suc n) ≡ sources_of nodes n
unfolding sources_of
sources-same nodes n h = ap (λ (b : Bool). sources_of nodes n ++ cond b (n ∷ []) []) h ∙ append-nil (sources_of nodes n)

-- each node is one of them, or takes turns
pub sources-and-turning : (nodes : List Node) (n : ℕ) → turning nodes n + length (sources_of nodes n) ≡ n
unfolding sources_of turning
sources-and-turning nodes zero = refl
sources-and-turning nodes (suc n) = go (is_source nodes n) (sources-and-turning nodes n)
  where
    go : (t : Bool) → turning nodes n + length (sources_of nodes n) ≡ n
        → (turning nodes n + cond t 0 1) + length (sources_of nodes n ++ cond t (n ∷ []) []) ≡ suc n
    go true ih = omega (arith, length_push (sources_of nodes n) n)
    go false ih = omega (arith, ap length (append-nil (sources_of nodes n)))

-- one node further
pub over-more : (nodes : List Node) (n : ℕ) (asyncs : List (List ℕ)) → length asyncs ≡ length nodes
    → ((x : ℕ) → x < length nodes → get_or asyncs x [] ≡ asyncs_over nodes x n) → ((y : ℕ) → inner nodes n ≡ Some y → y < length nodes)
    → (x : ℕ) → x < length nodes → get_or (with_async (inner nodes n) n asyncs) x [] ≡ asyncs_over nodes x (n + 1)
over-more nodes n asyncs lengths over within x l = go (inner nodes n) refl ∙ ap (asyncs_over nodes x) (sym (add-one n))
  where
    go : (o : Option ℕ) → inner nodes n ≡ o → get_or (with_async o n asyncs) x [] ≡ asyncs_over nodes x (suc n)
    go None h = over x l ∙ sym (asyncs-none nodes n x h)
    go (Some y) h = by (cases_eq x y)
      where
        by : (x ≡ y) ⊎ (x ≡ y → ⊥) → get_or (set asyncs y (get_or asyncs y [] ++ n ∷ [])) x [] ≡ asyncs_over nodes x (suc n)
        by (inl q) =
            let m : y < length nodes = within y h in
            subst (λ (z : ℕ). get_or (set asyncs y (get_or asyncs y [] ++ n ∷ [])) z [] ≡ asyncs_over nodes z (suc n)) (sym q)
            (get_or-set_same asyncs y _ [] (omega (arith, m, lengths)) ∙ (ap (λ (xs : List ℕ). xs ++ n ∷ []) (over y m) ∙ sym (asyncs-same nodes n y h)))
        by (inr k) = get_or-set_other asyncs y x _ [] k ∙ (over x l ∙ sym (asyncs-other nodes n x y h k))

pub asyncs-zero : (nodes : List Node) (x : ℕ) → asyncs_over nodes x 0 ≡ []
unfolding asyncs_over
asyncs-zero nodes x = refl

pub sources-zero : (nodes : List Node) → sources_of nodes 0 ≡ []
unfolding sources_of
sources-zero nodes = refl

-- one node further
module _ (nodes : List Node) (n : ℕ) (before after : List ℕ) (so_far : before ≡ sources_of nodes n) where
  pub sources-then : is_source nodes n ≡ true → after ≡ before ++ n ∷ [] → after ≡ sources_of nodes (n + 1)
  sources-then h e =
      e ∙ (ap (λ (xs : List ℕ). xs ++ n ∷ []) so_far ∙ (sym (sources-more nodes n h) ∙ ap (sources_of nodes) (sym (add-one n))))

  pub sources-else : is_source nodes n ≡ false → after ≡ before → after ≡ sources_of nodes (n + 1)
  sources-else h e = e ∙ (so_far ∙ (sym (sources-same nodes n h) ∙ ap (sources_of nodes) (sym (add-one n))))
