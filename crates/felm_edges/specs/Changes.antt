-- New edges, and what each writing call does to edges.
use Rattle.std.specs.Prelude.{◌≡◌, ◌≢◌, ℕ, List, [], ◌∷◌, ◌++◌, Option, Some, None, drop}
use Rattle.felm_term.specs.declared.message.Message.{Message}
use Rattle.felm_graph.specs.declared.node.Node.{Node}
use Rattle.felm_edges.specs.EdgesValue.{EdgesValue, wiring_of, ReadsIn, edge_in, prepared_in}

-- edges of these nodes with this capacity, on which nothing was sent and for which nothing is prepared
pub record AreNew (nodes : List Node) (capacity : ℕ) (edges : EdgesValue) : Type 0 where
  pub wiring : edges.wiring ≡ wiring_of nodes
  pub capacity_is : edges.capacity ≡ capacity
  pub empty : (k port : ℕ) → edge_in edges k port ≡ []
  pub none_prepared : (k : ℕ) → prepared_in edges k ≡ None

-- the prepared message of node k is this one, or there is none now; all lists and the other prepared messages stay
pub record PreparedFrom (old : EdgesValue) (k : ℕ) (message : Option Message) (new : EdgesValue) : Type 0 where
  pub wiring : new.wiring ≡ old.wiring
  pub capacity : new.capacity ≡ old.capacity
  pub lists : new.lists ≡ old.lists
  pub prepared : prepared_in new k ≡ message
  pub others : (x : ℕ) → x ≢ k → prepared_in new x ≡ prepared_in old x

-- each edge that reads node k has the prepared message at its end, and none is prepared for k any more; all others stay
pub record PutFrom (old : EdgesValue) (k : ℕ) (new : EdgesValue) : Type 0 where
  pub wiring : new.wiring ≡ old.wiring
  pub capacity : new.capacity ≡ old.capacity
  pub put : (r port : ℕ) (m : Message) → ReadsIn old r port k → prepared_in old k ≡ Some m → edge_in new r port ≡ edge_in old r port ++ m ∷ []
  pub stays : (r port a : ℕ) → ReadsIn old r port a → a ≢ k → edge_in new r port ≡ edge_in old r port
  pub prepared : prepared_in new k ≡ None
  pub others : (x : ℕ) → x ≢ k → prepared_in new x ≡ prepared_in old x

-- each of node k's own edges has lost its first message; all others stay
pub record DroppedFrom (old : EdgesValue) (k : ℕ) (new : EdgesValue) : Type 0 where
  pub wiring : new.wiring ≡ old.wiring
  pub capacity : new.capacity ≡ old.capacity
  pub taken : (port : ℕ) → edge_in new k port ≡ drop 1 (edge_in old k port)
  pub stays : (r port : ℕ) → r ≢ k → edge_in new r port ≡ edge_in old r port
  pub prepared : new.prepared ≡ old.prepared
