-- The lists of nodes that are made once from a graph.
use Rattle.std.specs.Prelude.{◌≡◌, ℕ, zero, suc, ◌<◌, ◌==◌, Bool, false, if◌then◌else◌, List, [], ◌∷◌, ◌++◌, Option, Some, None, length, map, slice_index_or, slice_set}
use Rattle.std.specs.Option.{option_map_or}
use Rattle.felm_term.specs.Spared.{Spared}
use Rattle.felm_graph.specs.declared.node.Node.{Node}
use Rattle.felm_graph.specs.Nodes.{is_source}
use Rattle.felm_meaning.specs.Nodes.{inner}

-- whether node a is an async over node x
abbrev pub is_over : List Node → ℕ → ℕ → Bool
is_over nodes x a = option_map_or (λ i. i == x) (inner nodes a) false

-- the asyncs over node x among the first n nodes, in order
unfoldable pub asyncs_over : List Node → ℕ → ℕ → List ℕ
asyncs_over nodes x zero = []
asyncs_over nodes x (suc n) = asyncs_over nodes x n ++ (if is_over nodes x n then n ∷ [] else [])

-- the sources among the first n nodes, in order
unfoldable pub sources_of : List Node → ℕ → List ℕ
sources_of nodes zero = []
sources_of nodes (suc n) = sources_of nodes n ++ (if is_source nodes n then n ∷ [] else [])

-- what each list has
abbrev pub items_in : List (Spared ℕ) → List (List ℕ)
items_in lists = map (λ (list : Spared ℕ). list.items) lists

-- an async is put at the end of the list of its inner signal, if there is one
abbrev pub with_async : Option ℕ → ℕ → List (List ℕ) → List (List ℕ)
with_async None a asyncs = asyncs
with_async (Some x) a asyncs = slice_set asyncs x (slice_index_or asyncs x [] ++ a ∷ [])

-- the list of each node has the asyncs over it, in order
pub record AreAsyncs (nodes : List Node) (asyncs : List (List ℕ)) : Type 0 where
  pub lengths : length asyncs ≡ length nodes
  pub over : (x : ℕ) → x < length nodes → slice_index_or asyncs x [] ≡ asyncs_over nodes x (length nodes)
