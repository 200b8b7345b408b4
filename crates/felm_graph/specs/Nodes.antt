-- Nodes of a graph: what they read, and which of them are sources.
use Rattle.std.specs.Prelude.{ℕ, ◌<◌, Bool, true, false, List, [], ◌∷◌, Option, Some, None, if◌then◌else◌, map, take, count_by, slice_get}
use Rattle.std.specs.Option.{option_map_or, option_and_then}
use Rattle.felm_term.specs.CoreType.{CoreType}
use Rattle.felm_term.specs.CoreType as type
use Rattle.felm_graph.specs.declared.node.Node.{Node}
use Rattle.felm_graph.specs.declared.node.NodeKind.{NodeKind}
use Rattle.felm_graph.specs.declared.node.NodeKind.TheVariants as kind

-- a source sends what it is given from outside the graph's edges: an input's events, or the changes that an async passes on later
abbrev pub is_source_kind : NodeKind → Bool
is_source_kind (kind.Input number) = true
is_source_kind (kind.Lift function arguments) = false
is_source_kind (kind.Foldp function base argument) = false
is_source_kind (kind.Async argument) = true

abbrev pub is_async_kind : NodeKind → Bool
is_async_kind (kind.Async argument) = true
is_async_kind _ = false

abbrev pub is_async : Node → Bool
is_async node = is_async_kind node.kind

-- the nodes whose messages a node takes, in the order of its ports; a source takes none
abbrev pub arguments_of_kind : NodeKind → List ℕ
arguments_of_kind (kind.Input number) = []
arguments_of_kind (kind.Lift function arguments) = arguments
arguments_of_kind (kind.Foldp function base argument) = argument ∷ []
arguments_of_kind (kind.Async argument) = []

-- the same of the node with a number; there are none past the last node
abbrev pub is_source : List Node → ℕ → Bool
is_source nodes number = option_map_or (λ node. is_source_kind node.kind) (slice_get nodes number) false

abbrev pub arguments_of : List Node → ℕ → List ℕ
arguments_of nodes number = option_map_or (λ node. arguments_of_kind node.kind) (slice_get nodes number) []

-- how many asyncs have smaller numbers, if the node with this number is an async
abbrev pub async_number : List Node → ℕ → Option ℕ
async_number nodes number =
    option_and_then (λ node. if is_async node then Some (count_by is_async (take number nodes)) else None) (slice_get nodes number)

-- the types of nodes' values, in order
abbrev pub types_of : List Node → List CoreType
types_of nodes = map (λ node. node.ty) nodes

-- the type of one node's values
abbrev pub type_at : List Node → ℕ → CoreType
type_at nodes number = option_map_or (λ node. node.ty) (slice_get nodes number) type.Unit

-- each is smaller
abbrev pub AllBelow : ℕ → List ℕ → Type 0
AllBelow n [] = Unit {0}
AllBelow n (a ∷ more) = (a < n) × AllBelow n more
