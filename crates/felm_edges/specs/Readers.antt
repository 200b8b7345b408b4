-- The readers of each node.
use Rattle.std.specs.Prelude.{◌≡◌, ℕ, ◌<◌, ◌⊎◌, List, [], Some, length, slice_get, slice_index_or}
use Rattle.felm_edges.specs.EdgesValue.{IsWired}
use Rattle.felm_edges.specs.declared.readers.Reader.{Reader}

-- the readers of node k
abbrev pub readers_of : List (List Reader) → ℕ → List Reader
readers_of readers k = slice_index_or readers k []

-- the place in the list of node k's readers at which this one stands
abbrev pub StandsAt : List (List Reader) → ℕ → ℕ → Reader → Type 0
StandsAt readers k i reader = slice_get (readers_of readers k) i ≡ Some reader

-- no port stands at two places
abbrev pub AllOnce : List Reader → Type 0
AllOnce readers = (i j : ℕ) (reader : Reader) → slice_get readers i ≡ Some reader → slice_get readers j ≡ Some reader → i ≡ j

-- each node has each port that reads it once, and no others
pub record AreReaders (wiring : List (List ℕ)) (readers : List (List Reader)) : Type 0 where
  pub nodes : length readers ≡ length wiring
  pub read : (k i : ℕ) (reader : Reader) → StandsAt readers k i reader → IsWired wiring reader.node reader.port k
  pub all : (k : ℕ) (reader : Reader) → IsWired wiring reader.node reader.port k → (i : ℕ) × StandsAt readers k i reader
  pub once : (k : ℕ) → AllOnce (readers_of readers k)

-- the port belongs to an earlier node, or is an earlier one of this node
abbrev pub IsBefore : ℕ → ℕ → Reader → Type 0
IsBefore node port reader = (reader.node < node) ⊎ ((reader.node ≡ node) × (reader.port < port))

-- the same of the ports before this one alone
pub record AreReadersBefore (wiring : List (List ℕ)) (node port : ℕ) (readers : List (List Reader)) : Type 0 where
  pub nodes : length readers ≡ length wiring
  pub read : (k i : ℕ) (reader : Reader) → StandsAt readers k i reader → IsWired wiring reader.node reader.port k
  pub before : (k i : ℕ) (reader : Reader) → StandsAt readers k i reader → IsBefore node port reader
  pub all : (k : ℕ) (reader : Reader) → IsWired wiring reader.node reader.port k → IsBefore node port reader
      → (i : ℕ) × StandsAt readers k i reader
  pub once : (k : ℕ) → AllOnce (readers_of readers k)
