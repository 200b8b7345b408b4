-- The parts of new edges.
use Rattle.std.proofs.Common.{◌≡◌, ℕ, zero, suc, ◌<◌, ◌≤◌, List, [], ◌∷◌, ◌++◌, ◌+◌, take, length, map, get_or, refl, sym, ap, ◌∙◌, subst, arith}
use Rattle.std.proofs.lemmas.Bool.{false≢true}
use Rattle.std.proofs.lemmas.List.{length-map, map_more}
use Rattle.felm_graph.specs.declared.node.Node.{Node}
use Rattle.felm_graph.specs.GraphValue.{GraphValue}
use Rattle.felm_graph.specs.Graphs.{IsGraph}
use Rattle.felm_graph.specs.Nodes.{arguments_of}
use Rattle.felm_edges.specs.EdgesValue.{wiring_of, IsWired}
use Rattle.felm_edges.specs.Changes.{AreNew}
use Rattle.felm_edges.specs.Parts.{EdgeValue, OutletValue, new_edge, new_outlet, row_of, edge_of, sources_of}
use Rattle.felm_edges.specs.Readers.{AreReaders, readers_of}
use Rattle.felm_edges.specs.Inside.{edges_from, IsStocked, GoTogether}
use Rattle.felm_edges.specs.declared.readers.Reader.{Reader}
use Rattle.felm_edges.proofs.Rows.{get_or_mapped, messages_at, node_there}
use Rattle.felm_edges.proofs.Reading.{wired_there, prepared_at}
use Rattle.felm_edges.proofs.Wiring.{length-wiring_of, wired_row, wired_below}

abbrev pub new_rows : ℕ → List (List ℕ) → List (List EdgeValue)
new_rows capacity wiring = map (map (new_edge capacity)) wiring

abbrev pub new_outlets : List (List Reader) → List OutletValue
new_outlets readers = map (λ rs. new_outlet (length rs)) readers

sources_of_row : (capacity : ℕ) (row : List ℕ) → map (λ (e : EdgeValue). e.source) (map (new_edge capacity) row) ≡ row
sources_of_row capacity [] = refl
sources_of_row capacity (a ∷ row) = ap (λ (xs : List ℕ). a ∷ xs) (sources_of_row capacity row)

pub sources_of-new_rows : (capacity : ℕ) (wiring : List (List ℕ)) → sources_of (new_rows capacity wiring) ≡ wiring
sources_of-new_rows capacity [] = refl
sources_of-new_rows capacity (row ∷ more) =
    ap (λ (xs : List ℕ). xs ∷ sources_of (new_rows capacity more)) (sources_of_row capacity row) ∙
    ap (λ (rows : List (List ℕ)). row ∷ rows) (sources_of-new_rows capacity more)

-- the rows, one node further
pub next_row : (nodes : List Node) (capacity node : ℕ) (rows : List (List EdgeValue)) (ports : List EdgeValue) → node < length nodes
    → rows ≡ new_rows capacity (take node (wiring_of nodes)) → ports ≡ map (new_edge capacity) (arguments_of nodes node)
    → rows ++ ports ∷ [] ≡ new_rows capacity (take (node + 1) (wiring_of nodes))
next_row nodes capacity node rows ports l r p =
    let m : node < length (wiring_of nodes) = omega (arith, length-wiring_of nodes) in
    ap (λ (rs : List (List EdgeValue)). rs ++ ports ∷ []) r ∙
    ap (λ (row : List EdgeValue). new_rows capacity (take node (wiring_of nodes)) ++ row ∷ [])
    (p ∙ ap (λ (row : List ℕ). map (new_edge capacity) row) (sym (wired_row nodes node))) ∙
    sym (map_more (map (new_edge capacity)) (wiring_of nodes) node [] m)

-- there are few rows, and none reads a node behind the last
pub few_rows : (g : GraphValue) (capacity : ℕ) (rows : List (List EdgeValue)) → IsGraph g → rows ≡ new_rows capacity (wiring_of g.nodes)
    → length rows ≤ 16384
few_rows g capacity rows graph e =
    let l : length rows ≡ length g.nodes = ap length e ∙ length-map (wiring_of g.nodes) (map (new_edge capacity)) ∙ length-wiring_of g.nodes in
    omega (arith, graph.few)

pub sources_within : (g : GraphValue) (capacity : ℕ) (rows : List (List EdgeValue)) → IsGraph g → rows ≡ new_rows capacity (wiring_of g.nodes)
    → (r port k : ℕ) → IsWired (sources_of rows) r port k → k < length rows
sources_within g capacity rows graph e r port k w =
    let v : IsWired (wiring_of g.nodes) r port k =
    subst (λ (ws : List (List ℕ)). IsWired ws r port k) (ap sources_of e ∙ sources_of-new_rows capacity (wiring_of g.nodes)) w in
    let below : k < r = wired_below g r port k graph v in
    let there : r < length rows = node_there rows r port (wired_there rows r port k w).0 in
    omega arith

-- ---- what new edges are

-- each edge is empty, and has the capacity where it is there
empty_row : (capacity : ℕ) (row : List ℕ) (port : ℕ) → (edge_of (map (new_edge capacity) row ∷ []) 0 port).messages ≡ []
empty_row capacity [] port = refl
empty_row capacity (a ∷ row) zero = refl
empty_row capacity (a ∷ row) (suc port) = empty_row capacity row port

empty_edge : (capacity : ℕ) (wiring : List (List ℕ)) (k port : ℕ) → (edge_of (new_rows capacity wiring) k port).messages ≡ []
empty_edge capacity [] k port = refl
empty_edge capacity (row ∷ more) zero port = empty_row capacity row port
empty_edge capacity (row ∷ more) (suc k) port = empty_edge capacity more k port

capacity_row : (capacity : ℕ) (row : List ℕ) (port : ℕ) → port < length (map (new_edge capacity) row)
    → (edge_of (map (new_edge capacity) row ∷ []) 0 port).capacity ≡ capacity
capacity_row capacity [] port h = absurd (omega arith)
capacity_row capacity (a ∷ row) zero h = refl
capacity_row capacity (a ∷ row) (suc port) h = capacity_row capacity row port (omega arith)

capacity_edge : (capacity : ℕ) (wiring : List (List ℕ)) (k port : ℕ) → port < length (row_of (new_rows capacity wiring) k)
    → (edge_of (new_rows capacity wiring) k port).capacity ≡ capacity
capacity_edge capacity [] k port h = absurd (omega arith)
capacity_edge capacity (row ∷ more) zero port h = capacity_row capacity row port h
capacity_edge capacity (row ∷ more) (suc k) port h = capacity_edge capacity more k port h

new_outlet_at : (readers : List (List Reader)) (k : ℕ) → get_or (new_outlets readers) k (new_outlet 0) ≡ new_outlet (length (readers_of readers k))
new_outlet_at readers k = get_or_mapped (λ (rs : List Reader). new_outlet (length rs)) readers k []

new_together : (capacity : ℕ) (wiring : List (List ℕ)) (readers : List (List Reader)) → 1 ≤ capacity → capacity ≤ 1024
    → AreReaders (sources_of (new_rows capacity wiring)) readers → GoTogether capacity (new_rows capacity wiring) readers (new_outlets readers)
new_together capacity wiring readers least most are = record {
  least = least;
  most = most;
  within = λ k port h. record {
    capacity_is = capacity_edge capacity wiring k port h;
    fits = let e : length (edge_of (new_rows capacity wiring) k port).messages ≡ 0 = ap length (empty_edge capacity wiring k port) in omega arith;
  };
  readers_are = are;
  places = length-map readers (λ rs. new_outlet (length rs)) ∙ are.nodes ∙ length-map (new_rows capacity wiring) (map (λ (e : EdgeValue). e.source));
  stocked = λ k l. subst (λ (o : OutletValue). IsStocked (length (readers_of readers k)) o) (sym (new_outlet_at readers k))
      (record { room = omega arith; copies = λ s. absurd (false≢true s) });
}

new_are_new : (capacity : ℕ) (nodes : List Node) (readers : List (List Reader))
    → AreNew nodes capacity (edges_from capacity (new_rows capacity (wiring_of nodes)) (new_outlets readers))
new_are_new capacity nodes readers = record {
  wiring = sources_of-new_rows capacity (wiring_of nodes);
  capacity_is = refl;
  empty = λ k port. messages_at (new_rows capacity (wiring_of nodes)) k port ∙ empty_edge capacity (wiring_of nodes) k port;
  none_prepared = λ k. prepared_at (new_outlets readers) k ∙ ap (λ (o : OutletValue). o.message) (new_outlet_at readers k);
}

-- by what the code made
pub made_together : (capacity : ℕ) (wiring : List (List ℕ)) (rows : List (List EdgeValue)) (readers : List (List Reader)) (outlets : List OutletValue)
    → 1 ≤ capacity → capacity ≤ 1024 → rows ≡ new_rows capacity wiring → AreReaders (sources_of rows) readers → outlets ≡ new_outlets readers
    → GoTogether capacity rows readers outlets
made_together capacity wiring rows readers outlets least most r are o =
    subst (λ (os : List OutletValue). GoTogether capacity rows readers os) (sym o)
    (subst (λ (rs : List (List EdgeValue)). GoTogether capacity rs readers (new_outlets readers)) (sym r)
    (new_together capacity wiring readers least most (subst (λ (rs : List (List EdgeValue)). AreReaders (sources_of rs) readers) r are)))

pub made_new : (capacity : ℕ) (nodes : List Node) (rows : List (List EdgeValue)) (readers : List (List Reader)) (outlets : List OutletValue)
    → rows ≡ new_rows capacity (wiring_of nodes) → outlets ≡ new_outlets readers → AreNew nodes capacity (edges_from capacity rows outlets)
made_new capacity nodes rows readers outlets r o =
    subst (λ (os : List OutletValue). AreNew nodes capacity (edges_from capacity rows os)) (sym o)
    (subst (λ (rs : List (List EdgeValue)). AreNew nodes capacity (edges_from capacity rs (new_outlets readers))) (sym r)
    (new_are_new capacity nodes readers))
