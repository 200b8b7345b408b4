-- A message that is put at one port after another.
use Rattle.std.proofs.Common.{◌≡◌, ℕ, zero, suc, ◌+◌, ◌<◌, List, [], ◌∷◌, ◌++◌, length, set, take, get_or, Option, Some, sym, ap, ◌∙◌, subst, arith}
use Rattle.std.specs.List.{slice_get, All}
use Rattle.std.proofs.lemmas.List.{take_more, get_or_default}
use Rattle.std.proofs.lemmas.Option.{none-some, slice_get_within, get_or_from_slice_get}
use Rattle.felm_term.specs.declared.message.Message.{Message}
use Rattle.felm_edges.specs.Parts.{EdgeValue, no_edge, row_of, edge_of, IsThere, HasPlace, HasPlaceAt, with_message, changed_at, changed_at_each}
use Rattle.felm_edges.specs.Readers.{AllOnce}
use Rattle.felm_edges.specs.declared.readers.Reader.{Reader}
use Rattle.felm_edges.proofs.Rows.{AllThere, node_there, each_more, each_length, each_other}

pub there_each : (rows : List (List EdgeValue)) (xs : List Reader) → All (IsThere rows) xs → AllThere rows xs
there_each rows xs all i x e = subst (λ (y : Reader). IsThere rows y) (get_or_from_slice_get xs i x x e) (all i x (slice_get_within xs i x e))

slice_get_taken : (xs : List Reader) (n i : ℕ) (x : Reader) → slice_get (take n xs) i ≡ Some x → (slice_get xs i ≡ Some x) × (i < n)
slice_get_taken xs zero i x h = absurd (none-some x h)
slice_get_taken [] (suc n) i x h = absurd (none-some x h)
slice_get_taken (y ∷ xs) (suc n) zero x h = (h, omega arith)
slice_get_taken (y ∷ xs) (suc n) (suc i) x h = let r = slice_get_taken xs n i x h in (r.0, (let l : i < n = r.1 in omega arith))

pub taken_there : (rows : List (List EdgeValue)) (xs : List Reader) (n : ℕ) → AllThere rows xs → AllThere rows (take n xs)
taken_there rows xs n there i x h = there i x (slice_get_taken xs n i x h).0

-- the next edge is as it was
pub next_edge : (f : EdgeValue → EdgeValue) (rows : List (List EdgeValue)) (xs : List Reader) (n : ℕ) (x : Reader) → AllThere rows xs → AllOnce xs
    → slice_get xs n ≡ Some x → edge_of (changed_at_each f rows (take n xs)) x.node x.port ≡ edge_of rows x.node x.port
next_edge f rows xs n x there once h =
    each_other f rows (take n xs) x.node x.port (taken_there rows xs n there) (λ i e.
    let r = slice_get_taken xs n i x e in
    let q : i ≡ n = once i n x r.0 h in
    let l : i < n = r.1 in
    omega arith)

-- the port of the next one is there, and has a place
pub next_there : (f : EdgeValue → EdgeValue) (rows now : List (List EdgeValue)) (xs : List Reader) (n : ℕ) (x : Reader) (d : List EdgeValue)
    → AllThere rows xs → slice_get xs n ≡ Some x → now ≡ changed_at_each f rows (take n xs)
    → (x.port < length (get_or now x.node d)) × (get_or now x.node d ≡ row_of now x.node)
next_there f rows now xs n x d there h e =
    let s : length (row_of now x.node) ≡ length (row_of rows x.node) =
    ap (λ (rs : List (List EdgeValue)). length (row_of rs x.node)) e ∙ each_length f rows (take n xs) x.node (taken_there rows xs n there) in
    let t : x.port < length (row_of rows x.node) = there n x h in
    let u : x.port < length (row_of now x.node) = omega arith in
    let q : get_or now x.node d ≡ row_of now x.node = get_or_default now x.node d [] (node_there now x.node x.port u) in
    ((let w : length (get_or now x.node d) ≡ length (row_of now x.node) = ap length q in omega arith), q)

pub next_place : (f : EdgeValue → EdgeValue) (rows now : List (List EdgeValue)) (xs : List Reader) (n : ℕ) (x : Reader) (row : List EdgeValue)
    → AllThere rows xs → AllOnce xs → All (HasPlaceAt rows) xs → slice_get xs n ≡ Some x → now ≡ changed_at_each f rows (take n xs)
    → row ≡ row_of now x.node → HasPlace (get_or row x.port no_edge)
next_place f rows now xs n x row there once places h e r =
    let q : get_or row x.port no_edge ≡ edge_of rows x.node x.port =
    ap (λ (es : List EdgeValue). get_or es x.port no_edge) r ∙ ap (λ (rs : List (List EdgeValue)). edge_of rs x.node x.port) e ∙
    next_edge f rows xs n x there once h in
    let p : HasPlaceAt rows x = subst (λ (y : Reader). HasPlaceAt rows y) (get_or_from_slice_get xs n x x h) (places n x (slice_get_within xs n x h)) in
    subst (λ (edge : EdgeValue). HasPlace edge) (sym q) p

-- and what all are after it
pub next_sent : (message : Option Message) (rows now : List (List EdgeValue)) (xs : List Reader) (n : ℕ) (x : Reader) (row after : List EdgeValue)
    (m : Message) → slice_get xs n ≡ Some x → now ≡ changed_at_each (with_message message) rows (take n xs) → row ≡ row_of now x.node
    → message ≡ Some m → after ≡ set row x.port (with_message (Some m) (get_or row x.port no_edge))
    → set now x.node after ≡ changed_at_each (with_message message) rows (take (n + 1) xs)
next_sent message rows now xs n x row after m h e r s a =
    let f = with_message message in
    let l : n < length xs = slice_get_within xs n x h in
    let q : after ≡ set (row_of now x.node) x.port (f (edge_of now x.node x.port)) =
    a ∙ ap (λ (o : Option Message). set row x.port (with_message o (get_or row x.port no_edge))) (sym s) ∙
    ap (λ (es : List EdgeValue). set es x.port (f (get_or es x.port no_edge))) r in
    ap (λ (es : List EdgeValue). set now x.node es) q ∙ ap (λ (rs : List (List EdgeValue)). changed_at f rs x) e ∙
    sym (each_more f rows (take n xs) x) ∙
    ap (λ (rs : List Reader). changed_at_each f rows rs)
    (sym (take_more xs n x l ∙ ap (λ (y : Reader). take n xs ++ y ∷ []) (get_or_from_slice_get xs n x x h)))
