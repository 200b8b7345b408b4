-- The messages that a node takes next.
use Rattle.std.specs.Prelude.{◌≡◌, ℕ, ◌<◌, List, length, slice_get}
use Rattle.felm_term.specs.declared.message.Message.{Message}
use Rattle.felm_edges.specs.EdgesValue.{EdgesValue, read_in, edge_in}

-- these are the first messages of the edges of node k, in the order of its ports
pub record AreHeads (edges : EdgesValue) (k : ℕ) (messages : List Message) : Type 0 where
  pub ports : length messages ≡ length (read_in edges k)
  pub first : (port : ℕ) → port < length messages → slice_get messages port ≡ slice_get (edge_in edges k port) 0
