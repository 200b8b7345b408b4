-- The edges of a graph as contracts see them.
use Rattle.std.specs.Prelude.{◌≡◌, ℕ, ◌<◌, ◌≤◌, List, [], Option, Some, None, length, map, slice_get, slice_index_or}
use Rattle.felm_term.specs.declared.message.Message.{Message}
use Rattle.felm_graph.specs.declared.node.Node.{Node}
use Rattle.felm_graph.specs.Nodes.{arguments_of_kind}

pub record EdgesValue : Type 0 where
  -- for each node, the nodes whose messages it takes, in the order of its ports
  pub wiring : List (List ℕ)
  -- how many messages an edge can hold
  pub capacity : ℕ
  -- for each node, for each of its ports, what was sent there and isn't taken, the oldest first
  pub lists : List (List (List Message))
  -- for each node, the message that its readers will get next
  pub prepared : List (Option Message)

-- ---- wiring

-- what the nodes of a graph read
abbrev pub wiring_of : List Node → List (List ℕ)
wiring_of nodes = map (λ node. arguments_of_kind node.kind) nodes

-- the nodes that node k reads, in the order of its ports
abbrev pub read_in : EdgesValue → ℕ → List ℕ
read_in edges k = slice_index_or edges.wiring k []

-- node r reads node k at this port
abbrev pub IsWired : List (List ℕ) → ℕ → ℕ → ℕ → Type 0
IsWired wiring r port k = slice_get (slice_index_or wiring r []) port ≡ Some k

-- there is an edge from node k into node r at this port
abbrev pub ReadsIn : EdgesValue → ℕ → ℕ → ℕ → Type 0
ReadsIn edges r port k = IsWired edges.wiring r port k

-- ---- contents

-- the messages of the edge into node k at this port; none where there is no such edge
abbrev pub edge_in : EdgesValue → ℕ → ℕ → List Message
edge_in edges k port = slice_index_or (slice_index_or edges.lists k []) port []

-- the message that is prepared for the readers of node k
abbrev pub prepared_in : EdgesValue → ℕ → Option Message
prepared_in edges k = slice_index_or edges.prepared k None

-- each edge that reads node k can take one message more
abbrev pub HasRoomIn : EdgesValue → ℕ → Type 0
HasRoomIn edges k = (r port : ℕ) → ReadsIn edges r port k → length (edge_in edges r port) < edges.capacity

-- each of node k's own edges has a message
abbrev pub IsFedIn : EdgesValue → ℕ → Type 0
IsFedIn edges k = (port a : ℕ) → ReadsIn edges k port a → 0 < length (edge_in edges k port)

-- ---- what always holds

-- a list for each port of each node, none longer than the capacity
pub record AreEdges (edges : EdgesValue) : Type 0 where
  pub least : 1 ≤ edges.capacity
  pub most : edges.capacity ≤ 1024
  pub nodes : length edges.lists ≡ length edges.wiring
  pub ports : (k : ℕ) → length (slice_index_or edges.lists k []) ≡ length (read_in edges k)
  pub fit : (k port : ℕ) → length (edge_in edges k port) ≤ edges.capacity
  pub places : length edges.prepared ≡ length edges.wiring
