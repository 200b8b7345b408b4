-- The edges that the fields stand for, and what holds of the fields.
use Rattle.std.specs.Prelude.{◌≡◌, ℕ, ◌<◌, ◌≤◌, IsSome, length, List, slice_index_or}
use Rattle.felm_edges.specs.EdgesValue.{EdgesValue}
use Rattle.felm_edges.specs.Parts.{EdgeValue, OutletValue, new_outlet, row_of, edge_of, sources_of, messages_of, prepared_of}
use Rattle.felm_edges.specs.Readers.{AreReaders, readers_of}
use Rattle.felm_edges.specs.declared.readers.Reader.{Reader}
use Rattle.felm_edges.specs.declared.edges.Edges.TheInside.{Inside}

-- the edges that these parts are
abbrev pub edges_from : ℕ → List (List EdgeValue) → List OutletValue → EdgesValue
edges_from capacity rows outlets =
    record { wiring = sources_of rows; capacity = capacity; lists = messages_of rows; prepared = prepared_of outlets }

abbrev pub edges_of : Inside → EdgesValue
edges_of a = edges_from a.capacity a.rows.items a.outlets.items

-- an edge has this capacity, and holds no more
pub record IsWithin (capacity : ℕ) (edge : EdgeValue) : Type 0 where
  pub capacity_is : edge.capacity ≡ capacity
  pub fits : length edge.messages ≤ capacity

-- there is room for a copy for each of so many readers; and where a message is prepared, there are as many
pub record IsStocked (readers : ℕ) (outlet : OutletValue) : Type 0 where
  pub room : readers ≤ outlet.room
  pub copies : IsSome outlet.message → outlet.left ≡ readers

-- the parts go together
pub record GoTogether (capacity : ℕ) (rows : List (List EdgeValue)) (readers : List (List Reader)) (outlets : List OutletValue) : Type 0 where
  pub least : 1 ≤ capacity
  pub most : capacity ≤ 1024
  pub within : (k port : ℕ) → port < length (row_of rows k) → IsWithin capacity (edge_of rows k port)
  pub readers_are : AreReaders (sources_of rows) readers
  pub places : length outlets ≡ length rows
  pub stocked : (k : ℕ) → k < length outlets → IsStocked (length (readers_of readers k)) (slice_index_or outlets k (new_outlet 0))

abbrev pub AreInside : Inside → Type 0
AreInside a = GoTogether a.capacity a.rows.items a.readers.items a.outlets.items
