-- Readers that are listed port by port.
use Rattle.std.proofs.Common.{◌≡◌, ◌≢◌, ℕ, zero, suc, ◌+◌, ◌<◌, ◌≤◌, ◌⊎◌, inl, inr, List, [], ◌∷◌, ◌++◌, length, set, replicate, get_or, Some, refl, sym, ap, ◌∙◌, subst, arith}
use Rattle.std.specs.List.{slice_get}
use Rattle.std.proofs.lemmas.Bool.{cases_eq, cases_lt}
use Rattle.std.proofs.lemmas.List.{length-set, length-replicate, get_or-set_same, get_or-set_other, get_or_past}
use Rattle.std.proofs.lemmas.Option.{none-some, slice_get_within}
use Rattle.felm_edges.specs.EdgesValue.{IsWired}
use Rattle.felm_edges.specs.Readers.{AreReaders, AreReadersBefore, readers_of, StandsAt, IsBefore}
use Rattle.felm_edges.specs.declared.readers.Reader.{Reader}

-- ---- one more in a list

stood : (xs : List Reader) (x y : Reader) (i : ℕ) → slice_get (xs ++ x ∷ []) i ≡ Some y → (slice_get xs i ≡ Some y) ⊎ ((i ≡ length xs) × (x ≡ y))
stood [] x y zero h = inr (refl, cc)
stood [] x y (suc i) h = absurd (none-some y h)
stood (z ∷ xs) x y zero h = inl h
stood (z ∷ xs) x y (suc i) h = elim (stood xs x y i h) [ inl e ↦ inl e | inr e ↦ inr ((let l : i ≡ length xs = e.0 in omega arith), e.1) ]

still : (xs : List Reader) (x y : Reader) (i : ℕ) → slice_get xs i ≡ Some y → slice_get (xs ++ x ∷ []) i ≡ Some y
still [] x y i h = absurd (none-some y h)
still (z ∷ xs) x y zero h = h
still (z ∷ xs) x y (suc i) h = still xs x y i h

last : (xs : List Reader) (x : Reader) → slice_get (xs ++ x ∷ []) (length xs) ≡ Some x
last [] x = refl
last (z ∷ xs) x = last xs x

-- ---- one port more

-- the reader stood there before, or is the new one
abbrev StoodOrNew : List (List Reader) → ℕ → Reader → ℕ → ℕ → Reader → Type 0
StoodOrNew readers source x k i y = StandsAt readers k i y ⊎ ((k ≡ source) × (i ≡ length (readers_of readers source)) × (x ≡ y))

-- the readers with one more of this node
abbrev pub with_reader : List (List Reader) → ℕ → Reader → List (List Reader)
with_reader readers source x = set readers source (readers_of readers source ++ x ∷ [])

stands_or_new : (readers : List (List Reader)) (source : ℕ) (x : Reader) (k i : ℕ) (y : Reader) → source < length readers
    → StandsAt (with_reader readers source x) k i y → StoodOrNew readers source x k i y
stands_or_new readers source x k i y l h = go (cases_eq k source)
  where
    own : StandsAt (with_reader readers source x) source i y → StoodOrNew readers source x source i y
    own g =
        let s : slice_get (readers_of readers source ++ x ∷ []) i ≡ Some y =
        subst (λ (xs : List Reader). slice_get xs i ≡ Some y) (get_or-set_same readers source (readers_of readers source ++ x ∷ []) [] l) g in
        elim (stood (readers_of readers source) x y i s) [ inl e ↦ inl e | inr e ↦ inr (refl, e.0, e.1) ]

    go : (k ≡ source) ⊎ (k ≡ source → ⊥) → StoodOrNew readers source x k i y
    go (inr n) = inl (subst (λ (xs : List Reader). slice_get xs i ≡ Some y) (get_or-set_other readers source k (readers_of readers source ++ x ∷ []) [] n) h)
    go (inl e) =
        let P : ℕ → Type 0 = λ a. StandsAt (with_reader readers source x) a i y → StoodOrNew readers source x a i y in
        subst P (sym e) own h

still_stands : (readers : List (List Reader)) (source : ℕ) (x : Reader) (k i : ℕ) (y : Reader) → source < length readers
    → StandsAt readers k i y → StandsAt (with_reader readers source x) k i y
still_stands readers source x k i y l h = go (cases_eq k source)
  where
    own : StandsAt readers source i y → StandsAt (with_reader readers source x) source i y
    own g =
        subst (λ (xs : List Reader). slice_get xs i ≡ Some y) (sym (get_or-set_same readers source (readers_of readers source ++ x ∷ []) [] l))
        (still (readers_of readers source) x y i g)

    go : (k ≡ source) ⊎ (k ≡ source → ⊥) → StandsAt (with_reader readers source x) k i y
    go (inr n) = subst (λ (xs : List Reader). slice_get xs i ≡ Some y) (sym (get_or-set_other readers source k (readers_of readers source ++ x ∷ []) [] n)) h
    go (inl e) =
        let P : ℕ → Type 0 = λ a. StandsAt readers a i y → StandsAt (with_reader readers source x) a i y in
        subst P (sym e) own h

new_stands : (readers : List (List Reader)) (source : ℕ) (x : Reader) → source < length readers
    → StandsAt (with_reader readers source x) source (length (readers_of readers source)) x
new_stands readers source x l =
    subst (λ (xs : List Reader). slice_get xs (length (readers_of readers source)) ≡ Some x)
    (sym (get_or-set_same readers source (readers_of readers source ++ x ∷ []) [] l)) (last (readers_of readers source) x)

-- the next port of a node is before the one after it, and not before itself
not_before : (node port : ℕ) (y : Reader) → IsBefore node port y → y ≡ record { node = node; port = port } → ⊥
not_before node port y (inl l) e = let q : y.node ≡ node = ap (λ (r : Reader). r.node) e in omega arith
not_before node port y (inr p) e = let q : y.port ≡ port = ap (λ (r : Reader). r.port) e in let l : y.port < port = p.1 in omega arith

before_next : (node port : ℕ) (y : Reader) → IsBefore node port y → IsBefore node (port + 1) y
before_next node port y (inl l) = inl l
before_next node port y (inr p) = inr (p.0, (let l : y.port < port = p.1 in omega arith))

before_or_this : (node port : ℕ) (y : Reader) → IsBefore node (port + 1) y
    → IsBefore node port y ⊎ (record { node = node; port = port } ≡ y)
before_or_this node port y (inl l) = inl (inl l)
before_or_this node port y (inr p) = go (cases_eq y.port port)
  where
    go : (y.port ≡ port) ⊎ (y.port ≡ port → ⊥) → IsBefore node port y ⊎ (record { node = node; port = port } ≡ y)
    go (inr n) = inl (inr (p.0, (let l : y.port < port + 1 = p.1 in let m : y.port ≢ port = n in omega arith)))
    go (inl e) = inr (λ i. record { node = sym p.0 i; port = sym e i })

pub with_port : (wiring : List (List ℕ)) (node port source : ℕ) (readers : List (List Reader)) (added : List Reader)
    → AreReadersBefore wiring node port readers → IsWired wiring node port source → source < length readers
    → added ≡ readers_of readers source ++ record { node = node; port = port } ∷ []
    → AreReadersBefore wiring node (port + 1) (set readers source added)
with_port wiring node port source readers added are wired l a =
    subst (λ (xs : List Reader). AreReadersBefore wiring node (port + 1) (set readers source xs)) (sym a) (record {
      nodes = length-set readers source (readers_of readers source ++ x ∷ []) ∙ are.nodes;
      read = λ k i y h. read k i y (stands_or_new readers source x k i y l h);
      before = λ k i y h. before k i y (stands_or_new readers source x k i y l h);
      all = λ k y w b. all k y w (before_or_this node port y b);
      once = λ k i j y g h. once k i j y (stands_or_new readers source x k i y l g) (stands_or_new readers source x k j y l h);
    })
  where
    x : Reader
    x = record { node = node; port = port }

    read : (k i : ℕ) (y : Reader) → StoodOrNew readers source (record { node = node; port = port }) k i y → IsWired wiring y.node y.port k
    read k i y (inl h) = are.read k i y h
    read k i y (inr e) =
        subst (λ (r : Reader). IsWired wiring r.node r.port k) e.2 (subst (λ (a : ℕ). IsWired wiring node port a) (sym e.0) wired)

    before : (k i : ℕ) (y : Reader) → StoodOrNew readers source (record { node = node; port = port }) k i y → IsBefore node (port + 1) y
    before k i y (inl h) = before_next node port y (are.before k i y h)
    before k i y (inr e) = subst (λ (r : Reader). IsBefore node (port + 1) r) e.2 (inr (refl, omega arith))

    all : (k : ℕ) (y : Reader) → IsWired wiring y.node y.port k → IsBefore node port y ⊎ (record { node = node; port = port } ≡ y)
        → (i : ℕ) × StandsAt (with_reader readers source (record { node = node; port = port })) k i y
    all k y w (inl b) = let s = are.all k y w b in (s.0, still_stands readers source (record { node = node; port = port }) k s.0 y l s.1)
    all k y w (inr e) =
        let v : IsWired wiring node port k = subst (λ (r : Reader). IsWired wiring r.node r.port k) (sym e) w in
        let q : source ≡ k = some_same (sym wired ∙ v) in (
          length (readers_of readers source),
          subst (λ (r : Reader). StandsAt (with_reader readers source (record { node = node; port = port })) k (length (readers_of readers source)) r) e
              (subst (λ (a : ℕ). StandsAt (with_reader readers source (record { node = node; port = port })) a (length (readers_of readers source)) (record { node = node; port = port })) q
              (new_stands readers source (record { node = node; port = port }) l)),
        )
      where
        some_same : {a b : ℕ} → Some a ≡ Some b → a ≡ b
        some_same {a} {b} h = cc

    once : (k i j : ℕ) (y : Reader) → StoodOrNew readers source (record { node = node; port = port }) k i y
        → StoodOrNew readers source (record { node = node; port = port }) k j y → i ≡ j
    once k i j y (inl g) (inl h) = are.once k i j y g h
    once k i j y (inl g) (inr e) = absurd (not_before node port y (are.before k i y g) (sym e.2))
    once k i j y (inr e) (inl h) = absurd (not_before node port y (are.before k j y h) (sym e.2))
    once k i j y (inr e) (inr f) = e.1 ∙ sym f.1

-- ---- from node to node

-- all ports of this node are listed
pub next_node : (wiring : List (List ℕ)) (node port : ℕ) (readers : List (List Reader)) → AreReadersBefore wiring node port readers
    → length (get_or wiring node []) ≤ port → AreReadersBefore wiring (node + 1) 0 readers
next_node wiring node port readers are past = record {
  nodes = are.nodes;
  read = are.read;
  before = λ k i y h. later y (are.before k i y h);
  all = λ k y w b. are.all k y w (earlier k y w b);
  once = are.once;
}
  where
    later : (y : Reader) → IsBefore node port y → IsBefore (node + 1) 0 y
    later y (inl l) = inl (omega arith)
    later y (inr p) = inl (let e : y.node ≡ node = p.0 in omega arith)

    earlier : (k : ℕ) (y : Reader) → IsWired wiring y.node y.port k → IsBefore (node + 1) 0 y → IsBefore node port y
    earlier k y w (inr p) = absurd (let l : y.port < 0 = p.1 in omega arith)
    earlier k y w (inl l) = go (cases_eq y.node node)
      where
        go : (y.node ≡ node) ⊎ (y.node ≡ node → ⊥) → IsBefore node port y
        go (inr n) = inl (let m : y.node ≢ node = n in omega arith)
        go (inl e) =
            let q : y.port < length (get_or wiring y.node []) = slice_get_within (get_or wiring y.node []) y.port k w in
            let s : length (get_or wiring y.node []) ≡ length (get_or wiring node []) = ap (λ (a : ℕ). length (get_or wiring a [])) e in
            inr (e, omega arith)

nobody : (n k : ℕ) → readers_of (replicate n []) k ≡ []
nobody zero k = refl
nobody (suc n) zero = refl
nobody (suc n) (suc k) = nobody n k

-- no port is listed at first
pub first_node : (wiring : List (List ℕ)) (n : ℕ) (readers : List (List Reader)) → readers ≡ replicate n [] → n ≡ length wiring
    → AreReadersBefore wiring 0 0 readers
first_node wiring n readers e l =
    subst (λ (rs : List (List Reader)). AreReadersBefore wiring 0 0 rs) (sym e) (record {
      nodes = length-replicate n [] ∙ l;
      read = λ k i y h. absurd (none k i y h);
      before = λ k i y h. absurd (none k i y h);
      all = λ k y w b. absurd (at_first y b);
      once = λ k i j y g h. absurd (none k i y g);
    })
  where
    none : (k i : ℕ) (y : Reader) → StandsAt (replicate n []) k i y → ⊥
    none k i y h = none-some y (subst (λ (xs : List Reader). slice_get xs i ≡ Some y) (nobody n k) h)

    at_first : (y : Reader) → IsBefore 0 0 y → ⊥
    at_first y (inl l) = omega arith
    at_first y (inr p) = let l : y.port < 0 = p.1 in omega arith

-- all ports are listed at last
pub last_node : (wiring : List (List ℕ)) (n : ℕ) (readers : List (List Reader)) → AreReadersBefore wiring n 0 readers → length wiring ≤ n
    → AreReaders wiring readers
last_node wiring n readers are past = record {
  nodes = are.nodes;
  read = are.read;
  all = λ k y w. are.all k y w (inl (within k y w (cases_lt y.node n)));
  once = are.once;
}
  where
    within : (k : ℕ) (y : Reader) → IsWired wiring y.node y.port k → (y.node < n) ⊎ (n ≤ y.node) → y.node < n
    within k y w (inl l) = l
    within k y w (inr m) =
        let e : get_or wiring y.node [] ≡ [] = get_or_past wiring y.node [] (omega arith) in
        absurd (none-some k (subst (λ (row : List ℕ). slice_get row y.port ≡ Some k) e w))
