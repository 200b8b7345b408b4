-- The parts that edges are made of.
use Rattle.std.specs.Prelude.{ℕ, ◌<◌, List, [], ◌∷◌, ◌++◌, Option, Some, None, length, map, drop, slice_index_or, slice_set}
use Rattle.felm_term.specs.declared.message.Message.{Message}
use Rattle.felm_edges.specs.declared.readers.Reader.{Reader}

-- ---- one edge

pub record EdgeValue : Type 0 where
  -- the node whose messages it takes
  pub source : ℕ
  -- what was sent and isn't taken, the oldest first
  pub messages : List Message
  -- how many messages it can hold
  pub capacity : ℕ

abbrev pub new_edge : ℕ → ℕ → EdgeValue
new_edge capacity source = record { source = source; messages = []; capacity = capacity }

-- the edge with this message at its end, if there is one
abbrev pub with_message : Option Message → EdgeValue → EdgeValue
with_message None edge = edge
with_message (Some m) edge = record edge { messages = edge.messages ++ m ∷ [] }

abbrev pub without_first : EdgeValue → EdgeValue
without_first edge = record edge { messages = drop 1 edge.messages }

-- it can take one message more
abbrev pub HasPlace : EdgeValue → Type 0
HasPlace edge = length edge.messages < edge.capacity

-- it has a message
abbrev pub HasMessage : EdgeValue → Type 0
HasMessage edge = 0 < length edge.messages

-- ---- the edges into all nodes, in the order of nodes and ports

-- what stands where there is no edge
abbrev pub no_edge : EdgeValue
no_edge = new_edge 0 0

abbrev pub row_of : List (List EdgeValue) → ℕ → List EdgeValue
row_of rows k = slice_index_or rows k []

abbrev pub edge_of : List (List EdgeValue) → ℕ → ℕ → EdgeValue
edge_of rows k port = slice_index_or (row_of rows k) port no_edge

-- what each node reads
abbrev pub sources_of : List (List EdgeValue) → List (List ℕ)
sources_of rows = map (map (λ edge. edge.source)) rows

-- the messages on each edge
abbrev pub messages_of : List (List EdgeValue) → List (List (List Message))
messages_of rows = map (map (λ edge. edge.messages)) rows

-- the edge that a reader reads is there
abbrev pub IsThere : List (List EdgeValue) → Reader → Type 0
IsThere rows reader = reader.port < length (row_of rows reader.node)

-- the edge at a reader can take one message more
abbrev pub HasPlaceAt : List (List EdgeValue) → Reader → Type 0
HasPlaceAt rows reader = HasPlace (edge_of rows reader.node reader.port)

-- the edges, changed at one reader
abbrev pub changed_at : (EdgeValue → EdgeValue) → List (List EdgeValue) → Reader → List (List EdgeValue)
changed_at change rows reader =
    slice_set rows reader.node (slice_set (row_of rows reader.node) reader.port (change (edge_of rows reader.node reader.port)))

-- the same at each of these readers in order
abbrev pub changed_at_each : (EdgeValue → EdgeValue) → List (List EdgeValue) → List Reader → List (List EdgeValue)
changed_at_each change rows [] = rows
changed_at_each change rows (reader ∷ more) = changed_at_each change (changed_at change rows reader) more

-- ---- what is prepared for the readers of a node

pub record OutletValue : Type 0 where
  -- the node's own message
  pub message : Option Message
  -- how many copies of it are left
  pub left : ℕ
  -- how many copies there is room for
  pub room : ℕ

abbrev pub new_outlet : ℕ → OutletValue
new_outlet room = record { message = None; left = 0; room = room }

-- what is prepared for the readers of each node
abbrev pub prepared_of : List OutletValue → List (Option Message)
prepared_of outlets = map (λ outlet. outlet.message) outlets
