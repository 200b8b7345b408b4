-- What the nodes of a graph read, as edges know it.
use Rattle.std.proofs.Common.{◌≡◌, ℕ, zero, suc, ◌<◌, List, [], ◌∷◌, length, get_or, Option, Some, None, refl, sym, subst}
use Rattle.std.specs.List.{slice_get}
use Rattle.std.specs.Option.{option_map_or}
use Rattle.std.proofs.lemmas.List.{length-map}
use Rattle.std.proofs.lemmas.Option.{none-some}
use Rattle.felm_graph.specs.declared.node.Node.{Node}
use Rattle.felm_graph.specs.GraphValue.{GraphValue}
use Rattle.felm_graph.specs.Nodes.{arguments_of, arguments_of_kind, AllBelow}
use Rattle.felm_graph.specs.Graphs.{IsGraph}
use Rattle.felm_graph.proofs.Earlier.{node_reads}
use Rattle.felm_edges.specs.EdgesValue.{wiring_of, IsWired}

pub length-wiring_of : (nodes : List Node) → length (wiring_of nodes) ≡ length nodes
length-wiring_of nodes = length-map nodes (λ (node : Node). arguments_of_kind node.kind)

pub wired_row : (nodes : List Node) (r : ℕ) → get_or (wiring_of nodes) r [] ≡ arguments_of nodes r
wired_row [] r = refl
wired_row (node ∷ more) zero = refl
wired_row (node ∷ more) (suc r) = wired_row more r

pub wired_reads : (nodes : List Node) (r port k : ℕ) → IsWired (wiring_of nodes) r port k → slice_get (arguments_of nodes r) port ≡ Some k
wired_reads nodes r port k h = subst (λ (row : List ℕ). slice_get row port ≡ Some k) (wired_row nodes r) h

pub reads_wired : (nodes : List Node) (r port k : ℕ) → slice_get (arguments_of nodes r) port ≡ Some k → IsWired (wiring_of nodes) r port k
reads_wired nodes r port k h = subst (λ (row : List ℕ). slice_get row port ≡ Some k) (sym (wired_row nodes r)) h

below_at : (n : ℕ) (row : List ℕ) (port k : ℕ) → AllBelow n row → slice_get row port ≡ Some k → k < n
below_at n [] port k h e = absurd (none-some k e)
below_at n (a ∷ more) zero k h e = let s : a ≡ k = cc in subst (λ (x : ℕ). x < n) s h.0
below_at n (a ∷ more) (suc port) k h e = below_at n more port k h.1 e

-- a node reads nodes before it
pub wired_below : (g : GraphValue) (r port k : ℕ) → IsGraph g → IsWired (wiring_of g.nodes) r port k → k < r
wired_below g r port k graph h = go (slice_get g.nodes r) refl (wired_reads g.nodes r port k h)
  where
    go : (o : Option Node) → slice_get g.nodes r ≡ o → slice_get (option_map_or (λ (n : Node). arguments_of_kind n.kind) o []) port ≡ Some k → k < r
    go None e q = absurd (none-some k q)
    go (Some n) e q = below_at r (arguments_of_kind n.kind) port k (node_reads g r n graph e).earlier q
