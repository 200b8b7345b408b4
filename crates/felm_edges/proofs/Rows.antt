-- The edges into all nodes, after changes at some ports.
use Rattle.std.proofs.Common.{◌≡◌, ℕ, zero, suc, ◌<◌, ◌≤◌, ◌⊎◌, inl, inr, List, [], ◌∷◌, ◌++◌, length, map, set, get_or, Some, refl, sym, ap, ◌∙◌, subst, arith}
use Rattle.std.specs.List.{slice_get}
use Rattle.std.proofs.lemmas.Bool.{cases_eq, cases_lt}
use Rattle.std.proofs.lemmas.Option.{none-some}
use Rattle.std.proofs.lemmas.List.{length-set, map-set, set-get_or, get_or-set_same, get_or-set_other, get_or_past}
use Rattle.felm_term.specs.declared.message.Message.{Message}
use Rattle.felm_edges.specs.Parts.{EdgeValue, no_edge, row_of, edge_of, sources_of, messages_of, IsThere, changed_at, changed_at_each}
use Rattle.felm_edges.specs.Readers.{AllOnce}
use Rattle.felm_edges.specs.declared.readers.Reader.{Reader}

-- ---- reads of mapped lists

pub get_or_mapped : {A B : Type 0} (f : A → B) (xs : List A) (i : ℕ) (d : A) → get_or (map f xs) i (f d) ≡ f (get_or xs i d)
get_or_mapped f [] i d = refl
get_or_mapped f (x ∷ xs) zero d = refl
get_or_mapped f (x ∷ xs) (suc i) d = get_or_mapped f xs i d

-- the source of an edge, among what the nodes read
pub sources_at : (rows : List (List EdgeValue)) (k : ℕ) → get_or (sources_of rows) k [] ≡ map (λ (e : EdgeValue). e.source) (row_of rows k)
sources_at rows k = get_or_mapped (map (λ (e : EdgeValue). e.source)) rows k []

-- the messages of an edge, among all lists
pub messages_at : (rows : List (List EdgeValue)) (k port : ℕ) → get_or (get_or (messages_of rows) k []) port [] ≡ (edge_of rows k port).messages
messages_at rows k port =
    ap (λ (row : List (List Message)). get_or row port []) (get_or_mapped (map (λ (e : EdgeValue). e.messages)) rows k []) ∙
    get_or_mapped (λ (e : EdgeValue). e.messages) (row_of rows k) port no_edge

-- ---- one change

pub node_there : (rows : List (List EdgeValue)) (k port : ℕ) → port < length (row_of rows k) → k < length rows
node_there rows k port h = go (cases_lt k (length rows))
  where
    go : (k < length rows) ⊎ (length rows ≤ k) → k < length rows
    go (inl l) = l
    go (inr m) = let e : row_of rows k ≡ [] = get_or_past rows k [] m in absurd (omega (arith, ap length e))

pub row_changed_same : (f : EdgeValue → EdgeValue) (rows : List (List EdgeValue)) (x : Reader) → IsThere rows x
    → row_of (changed_at f rows x) x.node ≡ set (row_of rows x.node) x.port (f (edge_of rows x.node x.port))
row_changed_same f rows x there = get_or-set_same rows x.node _ [] (node_there rows x.node x.port there)

pub row_changed_other : (f : EdgeValue → EdgeValue) (rows : List (List EdgeValue)) (x : Reader) (k : ℕ) → (k ≡ x.node → ⊥)
    → row_of (changed_at f rows x) k ≡ row_of rows k
row_changed_other f rows x k n = get_or-set_other rows x.node k _ [] n

pub edge_changed_same : (f : EdgeValue → EdgeValue) (rows : List (List EdgeValue)) (x : Reader) → IsThere rows x
    → edge_of (changed_at f rows x) x.node x.port ≡ f (edge_of rows x.node x.port)
edge_changed_same f rows x there =
    ap (λ (row : List EdgeValue). get_or row x.port no_edge) (row_changed_same f rows x there) ∙
    get_or-set_same (row_of rows x.node) x.port (f (edge_of rows x.node x.port)) no_edge there

pub edge_changed_other : (f : EdgeValue → EdgeValue) (rows : List (List EdgeValue)) (x : Reader) (k port : ℕ) → IsThere rows x
    → (k ≡ x.node → port ≡ x.port → ⊥) → edge_of (changed_at f rows x) k port ≡ edge_of rows k port
edge_changed_other f rows x k port there n = go (cases_eq k x.node)
  where
    go : (k ≡ x.node) ⊎ (k ≡ x.node → ⊥) → edge_of (changed_at f rows x) k port ≡ edge_of rows k port
    go (inr m) = ap (λ (row : List EdgeValue). get_or row port no_edge) (row_changed_other f rows x k m)
    go (inl e) =
        let P : ℕ → Type 0 = λ m. edge_of (changed_at f rows x) m port ≡ edge_of rows m port in
        subst P (sym e) (
        ap (λ (row : List EdgeValue). get_or row port no_edge) (row_changed_same f rows x there) ∙
        get_or-set_other (row_of rows x.node) x.port port (f (edge_of rows x.node x.port)) no_edge (n e)
        )

pub length_changed : (f : EdgeValue → EdgeValue) (rows : List (List EdgeValue)) (x : Reader) (k : ℕ) → IsThere rows x
    → length (row_of (changed_at f rows x) k) ≡ length (row_of rows k)
length_changed f rows x k there = go (cases_eq k x.node)
  where
    go : (k ≡ x.node) ⊎ (k ≡ x.node → ⊥) → length (row_of (changed_at f rows x) k) ≡ length (row_of rows k)
    go (inr m) = ap length (row_changed_other f rows x k m)
    go (inl e) =
        let P : ℕ → Type 0 = λ m. length (row_of (changed_at f rows x) m) ≡ length (row_of rows m) in
        subst P (sym e) (ap length (row_changed_same f rows x there) ∙ length-set (row_of rows x.node) x.port _)

-- what each node reads stays, where a change keeps the source
pub sources_changed : (f : EdgeValue → EdgeValue) (rows : List (List EdgeValue)) (x : Reader) → ((e : EdgeValue) → (f e).source ≡ e.source)
    → sources_of (changed_at f rows x) ≡ sources_of rows
sources_changed f rows x keeps =
    let source : EdgeValue → ℕ = λ e. e.source in
    let edge = edge_of rows x.node x.port in
    let row = row_of rows x.node in
    let inner : map source (set row x.port (f edge)) ≡ map source row =
    map-set source row x.port (f edge) ∙ (
    ap (λ (s : ℕ). set (map source row) x.port s) (keeps edge ∙ sym (get_or_mapped source row x.port no_edge)) ∙
    set-get_or (map source row) x.port 0
    ) in
    map-set (map source) rows x.node (set row x.port (f edge)) ∙ (
    ap (λ (r : List ℕ). set (map (map source) rows) x.node r) (inner ∙ sym (get_or_mapped (map source) rows x.node [])) ∙
    set-get_or (map (map source) rows) x.node []
    )

-- ---- changes at each of some ports

pub each_more : (f : EdgeValue → EdgeValue) (rows : List (List EdgeValue)) (xs : List Reader) (y : Reader)
    → changed_at_each f rows (xs ++ y ∷ []) ≡ changed_at f (changed_at_each f rows xs) y
each_more f rows [] y = refl
each_more f rows (x ∷ xs) y = each_more f (changed_at f rows x) xs y

-- all of these edges are there
abbrev pub AllThere : List (List EdgeValue) → List Reader → Type 0
AllThere rows xs = (i : ℕ) (x : Reader) → slice_get xs i ≡ Some x → IsThere rows x

there_after : (f : EdgeValue → EdgeValue) (rows : List (List EdgeValue)) (x : Reader) (xs : List Reader) → AllThere rows (x ∷ xs)
    → AllThere (changed_at f rows x) xs
there_after f rows x xs there i y e =
    let h : y.port < length (row_of rows y.node) = there (suc i) y e in
    let s : length (row_of (changed_at f rows x) y.node) ≡ length (row_of rows y.node) = length_changed f rows x y.node (there 0 x refl) in
    omega arith

pub each_rows : (f : EdgeValue → EdgeValue) (rows : List (List EdgeValue)) (xs : List Reader) → length (changed_at_each f rows xs) ≡ length rows
each_rows f rows [] = refl
each_rows f rows (x ∷ xs) = each_rows f (changed_at f rows x) xs ∙ length-set rows x.node _

pub each_length : (f : EdgeValue → EdgeValue) (rows : List (List EdgeValue)) (xs : List Reader) (k : ℕ) → AllThere rows xs
    → length (row_of (changed_at_each f rows xs) k) ≡ length (row_of rows k)
each_length f rows [] k there = refl
each_length f rows (x ∷ xs) k there =
    each_length f (changed_at f rows x) xs k (there_after f rows x xs there) ∙ length_changed f rows x k (there 0 x refl)

pub each_sources : (f : EdgeValue → EdgeValue) (rows : List (List EdgeValue)) (xs : List Reader) → ((e : EdgeValue) → (f e).source ≡ e.source)
    → sources_of (changed_at_each f rows xs) ≡ sources_of rows
each_sources f rows [] keeps = refl
each_sources f rows (x ∷ xs) keeps = each_sources f (changed_at f rows x) xs keeps ∙ sources_changed f rows x keeps

-- an edge at none of them stays
pub each_other : (f : EdgeValue → EdgeValue) (rows : List (List EdgeValue)) (xs : List Reader) (k port : ℕ) → AllThere rows xs
    → ((i : ℕ) → slice_get xs i ≡ Some (record { node = k; port = port }) → ⊥) → edge_of (changed_at_each f rows xs) k port ≡ edge_of rows k port
each_other f rows [] k port there n = refl
each_other f rows (x ∷ xs) k port there n =
    let here : k ≡ x.node → port ≡ x.port → ⊥ =
    λ e q. n 0 (ap (λ (r : Reader). Some r) (same x k port e q)) in
    each_other f (changed_at f rows x) xs k port (there_after f rows x xs there) (λ i e. n (suc i) e) ∙
    edge_changed_other f rows x k port (there 0 x refl) here
  where
    same : (x : Reader) (k port : ℕ) → k ≡ x.node → port ≡ x.port → x ≡ record { node = k; port = port }
    same x k port e q = λ i. record { node = sym e i; port = sym q i }

-- an edge at one of them is changed once, where no port stands twice
pub each_same : (f : EdgeValue → EdgeValue) (rows : List (List EdgeValue)) (xs : List Reader) (i : ℕ) (y : Reader) → AllThere rows xs → AllOnce xs
    → slice_get xs i ≡ Some y → edge_of (changed_at_each f rows xs) y.node y.port ≡ f (edge_of rows y.node y.port)
each_same f rows [] i y there once h = absurd (none-some y h)
each_same f rows (x ∷ xs) zero y there once h =
    let s : x ≡ y = cc in
    let behind : (j : ℕ) → slice_get xs j ≡ Some y → ⊥ = λ j e. (let q : 0 ≡ suc j = once 0 (suc j) y h e in omega arith) in
    let P : Reader → Type 0 = λ z. edge_of (changed_at f rows z) z.node z.port ≡ f (edge_of rows z.node z.port) in
    each_other f (changed_at f rows x) xs y.node y.port (there_after f rows x xs there) behind ∙
    ap (λ (z : Reader). edge_of (changed_at f rows z) y.node y.port) s ∙ edge_changed_same f rows y (there 0 y h)
each_same f rows (x ∷ xs) (suc i) y there once h =
    let apart : y.node ≡ x.node → y.port ≡ x.port → ⊥ =
    λ e q. (let r : 0 ≡ suc i = once 0 (suc i) y (ap (λ (z : Reader). Some z) (same x y e q)) h in omega arith) in
    each_same f (changed_at f rows x) xs i y (there_after f rows x xs there) (λ a b z p q. down (once (suc a) (suc b) z p q)) h ∙
    ap f (edge_changed_other f rows x y.node y.port (there 0 x refl) apart)
  where
    same : (x y : Reader) → y.node ≡ x.node → y.port ≡ x.port → x ≡ y
    same x y e q = λ i. record { node = sym e i; port = sym q i }

    down : {a b : ℕ} → suc a ≡ suc b → a ≡ b
    down {a} {b} h = omega arith
