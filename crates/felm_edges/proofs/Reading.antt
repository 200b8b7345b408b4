-- What is read off the parts of edges.
use Rattle.std.proofs.Common.{◌≡◌, ℕ, ◌<◌, ◌≤◌, ◌⊎◌, inl, inr, List, [], length, map, get_or, Some, None, sym, ap, ◌∙◌, subst, arith}
use Rattle.std.specs.List.{slice_get, All}
use Rattle.std.proofs.lemmas.Bool.{cases_lt}
use Rattle.std.proofs.lemmas.List.{length-map, get_or_past, get_or_read, get_or_default}
use Rattle.std.proofs.lemmas.Option.{slice_get_within, get_or_from_slice_get, slice_get-get_or}
use Rattle.felm_term.specs.declared.message.Message.{Message}
use Rattle.felm_edges.specs.EdgesValue.{EdgesValue, IsWired, read_in, edge_in, HasRoomIn, IsFedIn, AreEdges}
use Rattle.felm_edges.specs.Parts.{EdgeValue, OutletValue, no_edge, new_outlet, row_of, edge_of, sources_of, messages_of, prepared_of, IsThere, HasPlace, HasPlaceAt, HasMessage}
use Rattle.felm_edges.specs.Readers.{AreReaders, readers_of}
use Rattle.felm_edges.specs.Inside.{edges_from, GoTogether}
use Rattle.felm_edges.specs.declared.readers.Reader.{Reader}
use Rattle.felm_edges.proofs.Rows.{get_or_mapped, sources_at, messages_at, node_there}

abbrev source : EdgeValue → ℕ
source e = e.source

-- ---- wiring

pub wired_there : (rows : List (List EdgeValue)) (r port k : ℕ) → IsWired (sources_of rows) r port k
    → (port < length (row_of rows r)) × ((edge_of rows r port).source ≡ k)
wired_there rows r port k h =
    let row = row_of rows r in
    let q : slice_get (map source row) port ≡ Some k = subst (λ (xs : List ℕ). slice_get xs port ≡ Some k) (sources_at rows r) h in
    let l : port < length (map source row) = slice_get_within (map source row) port k q in
    let m : port < length row = omega (arith, length-map row source) in
    (m, sym (get_or_mapped source row port no_edge) ∙ get_or_from_slice_get (map source row) port k 0 q)

pub there_wired : (rows : List (List EdgeValue)) (r port : ℕ) → port < length (row_of rows r)
    → IsWired (sources_of rows) r port (edge_of rows r port).source
there_wired rows r port h =
    let row = row_of rows r in
    let l : port < length (map source row) = omega (arith, length-map row source) in
    let q : slice_get (map source row) port ≡ Some (edge_of rows r port).source =
    slice_get-get_or (map source row) port 0 l ∙ ap (λ (s : ℕ). Some s) (get_or_mapped source row port no_edge) in
    subst (λ (xs : List ℕ). slice_get xs port ≡ Some (edge_of rows r port).source) (sym (sources_at rows r)) q

-- an edge as the code reads it
pub edge_wired : (rows : List (List EdgeValue)) (node port : ℕ) (d shown : List EdgeValue) (edge : EdgeValue) → node < length rows
    → shown ≡ get_or rows node d → port < length shown → edge ≡ get_or shown port edge → IsWired (sources_of rows) node port edge.source
edge_wired rows node port d shown edge l s p e =
    let q : shown ≡ row_of rows node = s ∙ get_or_default rows node d [] l in
    let t : port < length (row_of rows node) = subst (λ (row : List EdgeValue). port < length row) q p in
    let r : edge ≡ edge_of rows node port = get_or_read shown port edge p e no_edge ∙ ap (λ (row : List EdgeValue). get_or row port no_edge) q in
    subst (λ (x : EdgeValue). IsWired (sources_of rows) node port x.source) (sym r) (there_wired rows node port t)

-- a node has as many edges as it reads nodes
pub length-read : (rows : List (List EdgeValue)) (k : ℕ) → length (get_or (sources_of rows) k []) ≡ length (row_of rows k)
length-read rows k = ap length (sources_at rows k) ∙ length-map (row_of rows k) source

-- ---- one call each

-- the first message of the edge at a port
pub head_is : (capacity : ℕ) (rows : List (List EdgeValue)) (outlets : List OutletValue) (now : EdgesValue) (node port : ℕ) (row : List EdgeValue)
    (edge : EdgeValue) → edges_from capacity rows outlets ≡ now → port < length (read_in now node) → row ≡ get_or rows node row
    → slice_get row port ≡ Some edge → slice_get edge.messages 0 ≡ slice_get (edge_in now node port) 0
head_is capacity rows outlets now node port row edge v h r e =
    let l : port < length (get_or (sources_of rows) node []) = subst (λ (n : EdgesValue). port < length (read_in n node)) (sym v) h in
    let m : port < length (row_of rows node) = omega (arith, length-read rows node) in
    let s : row ≡ row_of rows node = get_or_read rows node row (node_there rows node port m) r [] in
    let q : edge_of rows node port ≡ edge =
    ap (λ (xs : List EdgeValue). get_or xs port no_edge) (sym s) ∙ get_or_from_slice_get row port edge no_edge e in
    subst (λ (n : EdgesValue). slice_get edge.messages 0 ≡ slice_get (edge_in n node port) 0) v
    (ap (λ (xs : List Message). slice_get xs 0) (sym (messages_at rows node port ∙ ap (λ (x : EdgeValue). x.messages) q)))

-- all edges of a node have messages
pub fed_is : (capacity : ℕ) (rows : List (List EdgeValue)) (outlets : List OutletValue) (now : EdgesValue) (node : ℕ) (row : List EdgeValue)
    → edges_from capacity rows outlets ≡ now → node < length now.wiring → row ≡ get_or rows node row
    → (All HasMessage row → IsFedIn now node) × (IsFedIn now node → All HasMessage row)
fed_is capacity rows outlets now node row v h r =
    let l : node < length (sources_of rows) = subst (λ (n : EdgesValue). node < length n.wiring) (sym v) h in
    let m : node < length rows = omega (arith, length-map rows (map source)) in
    let s : row ≡ row_of rows node = get_or_read rows node row m r [] in
    subst (λ (n : EdgesValue). (All HasMessage row → IsFedIn n node) × (IsFedIn n node → All HasMessage row)) v
    (subst (λ (xs : List EdgeValue). (All HasMessage xs → IsFedIn (edges_from capacity rows outlets) node) × (IsFedIn (edges_from capacity rows outlets) node → All HasMessage xs)) (sym s) (to, from))
  where
    to : All HasMessage (row_of rows node) → IsFedIn (edges_from capacity rows outlets) node
    to all port a w =
        let there = wired_there rows node port a w in
        subst (λ (ms : List Message). 0 < length ms) (sym (messages_at rows node port)) (all port no_edge there.0)

    from : IsFedIn (edges_from capacity rows outlets) node → All HasMessage (row_of rows node)
    from fed port d there =
        let f = fed port (edge_of rows node port).source (there_wired rows node port there) in
        let g : 0 < length (edge_of rows node port).messages = subst (λ (ms : List Message). 0 < length ms) (messages_at rows node port) f in
        subst (λ (e : EdgeValue). 0 < length e.messages) (get_or_default (row_of rows node) port no_edge d there) g

-- the ports that read a node are there
pub readers_there : (rows : List (List EdgeValue)) (readers : List (List Reader)) (node : ℕ) → AreReaders (sources_of rows) readers
    → (i : ℕ) (x : Reader) → slice_get (readers_of readers node) i ≡ Some x → IsThere rows x
readers_there rows readers node are i x e = (wired_there rows x.node x.port node (are.read node i x e)).0

pub all_there : (rows : List (List EdgeValue)) (xs : List Reader) → ((i : ℕ) (x : Reader) → slice_get xs i ≡ Some x → IsThere rows x)
    → All (IsThere rows) xs
all_there rows xs there k d l = there k (get_or xs k d) (slice_get-get_or xs k d l)

-- the edge at a reader has a place
pub place_is : (rows : List (List EdgeValue)) (reader : Reader) (row : List EdgeValue) (edge : EdgeValue) → IsThere rows reader
    → row ≡ get_or rows reader.node row → slice_get row reader.port ≡ Some edge
    → (HasPlace edge → HasPlaceAt rows reader) × (HasPlaceAt rows reader → HasPlace edge)
place_is rows reader row edge there r e =
    let s : row ≡ row_of rows reader.node = get_or_read rows reader.node row (node_there rows reader.node reader.port there) r [] in
    let q : edge_of rows reader.node reader.port ≡ edge =
    ap (λ (xs : List EdgeValue). get_or xs reader.port no_edge) (sym s) ∙ get_or_from_slice_get row reader.port edge no_edge e in
    (λ h. subst (λ (x : EdgeValue). HasPlace x) (sym q) h, λ h. subst (λ (x : EdgeValue). HasPlace x) q h)

-- all edges that read a node have a place
pub room_is : (capacity : ℕ) (rows : List (List EdgeValue)) (readers : List (List Reader)) (outlets : List OutletValue) (node : ℕ)
    → GoTogether capacity rows readers outlets
    → (All (HasPlaceAt rows) (readers_of readers node) → HasRoomIn (edges_from capacity rows outlets) node)
    × (HasRoomIn (edges_from capacity rows outlets) node → All (HasPlaceAt rows) (readers_of readers node))
room_is capacity rows readers outlets node together = (to, from)
  where
    to : All (HasPlaceAt rows) (readers_of readers node) → HasRoomIn (edges_from capacity rows outlets) node
    to all r port w =
        let x : Reader = record { node = r; port = port } in
        let stands = together.readers_are.all node x w in
        let l = slice_get_within (readers_of readers node) stands.0 x stands.1 in
        let p = subst (λ (y : Reader). HasPlaceAt rows y) (get_or_from_slice_get (readers_of readers node) stands.0 x x stands.1) (all stands.0 x l) in
        let c = (together.within r port (wired_there rows r port node w).0).capacity_is in
        let q : length (edge_of rows r port).messages < capacity = subst (λ (n : ℕ). length (edge_of rows r port).messages < n) c p in
        subst (λ (ms : List Message). length ms < capacity) (sym (messages_at rows r port)) q

    from : HasRoomIn (edges_from capacity rows outlets) node → All (HasPlaceAt rows) (readers_of readers node)
    from room k d l =
        let x = get_or (readers_of readers node) k d in
        let w = together.readers_are.read node k x (slice_get-get_or (readers_of readers node) k d l) in
        let f = room x.node x.port w in
        let g : length (edge_of rows x.node x.port).messages < capacity = subst (λ (ms : List Message). length ms < capacity) (messages_at rows x.node x.port) f in
        let c = (together.within x.node x.port (wired_there rows x.node x.port node w).0).capacity_is in
        subst (λ (n : ℕ). length (edge_of rows x.node x.port).messages < n) (sym c) g

-- the node of a call is one of the rows, and has its readers and its outlet
pub node_within : (capacity : ℕ) (rows : List (List EdgeValue)) (outlets : List OutletValue) (now : EdgesValue) (node : ℕ)
    → edges_from capacity rows outlets ≡ now → node < length now.wiring → node < length rows
node_within capacity rows outlets now node v h =
    let l : node < length (sources_of rows) = subst (λ (n : EdgesValue). node < length n.wiring) (sym v) h in
    omega (arith, length-map rows (map source))

-- the list of its readers, as the code reads it
pub shown_readers : (capacity : ℕ) (rows : List (List EdgeValue)) (readers : List (List Reader)) (outlets : List OutletValue) (node : ℕ)
    (found : List Reader) → GoTogether capacity rows readers outlets → node < length rows → found ≡ get_or readers node found
    → found ≡ readers_of readers node
shown_readers capacity rows readers outlets node found together h r =
    let l : node < length readers = omega (arith, together.readers_are.nodes, length-map rows (map source)) in
    get_or_read readers node found l r []

-- what always holds
pub are_edges : (capacity : ℕ) (rows : List (List EdgeValue)) (readers : List (List Reader)) (outlets : List OutletValue)
    → GoTogether capacity rows readers outlets → AreEdges (edges_from capacity rows outlets)
are_edges capacity rows readers outlets together = record {
  least = together.least;
  most = together.most;
  nodes = length-map rows (map (λ (e : EdgeValue). e.messages)) ∙ sym (length-map rows (map source));
  ports = λ k. rows_are k;
  fit = λ k port. fits k port (cases_lt port (length (row_of rows k)));
  places = length-map outlets (λ (o : OutletValue). o.message) ∙ together.places ∙ sym (length-map rows (map source));
}
  where
    rows_are : (k : ℕ) → length (get_or (messages_of rows) k []) ≡ length (get_or (sources_of rows) k [])
    rows_are k =
        ap length (get_or_mapped (map (λ (e : EdgeValue). e.messages)) rows k []) ∙ length-map (row_of rows k) (λ (e : EdgeValue). e.messages) ∙
        sym (length-read rows k)

    fits : (k port : ℕ) → (port < length (row_of rows k)) ⊎ (length (row_of rows k) ≤ port)
        → length (edge_in (edges_from capacity rows outlets) k port) ≤ capacity
    fits k port (inl l) = subst (λ (ms : List Message). length ms ≤ capacity) (sym (messages_at rows k port)) (together.within k port l).fits
    fits k port (inr m) =
        let e : edge_of rows k port ≡ no_edge = get_or_past (row_of rows k) port no_edge m in
        let n : length (edge_of rows k port).messages ≡ 0 = ap (λ (x : EdgeValue). length x.messages) e in
        let q : length (edge_of rows k port).messages ≤ capacity = omega arith in
        subst (λ (ms : List Message). length ms ≤ capacity) (sym (messages_at rows k port)) q

-- ---- what is prepared

pub prepared_at : (outlets : List OutletValue) (k : ℕ) → get_or (prepared_of outlets) k None ≡ (get_or outlets k (new_outlet 0)).message
prepared_at outlets k = get_or_mapped (λ (o : OutletValue). o.message) outlets k (new_outlet 0)
