-- The layout of a pair, as the code comes to it.
use Rattle.std.specs.Prelude.{◌≡◌, ℕ, suc, ◌<◌, ◌≤◌, List, [], ◌∷◌, length, Option, Some, None}
use Rattle.felm_term.specs.CoreTerm.{CoreTerm}
use Rattle.felm_term.specs.declared.input.InputDecl.{InputDecl}
use Rattle.felm_graph.specs.declared.node.Node.{Node}
use Rattle.felm_graph.specs.declared.pair.Laid.{Laid}
use Rattle.felm_graph.specs.declared.pair.Laid.TheVariants as laid
use Rattle.felm_graph.specs.Layout.{lay_shared, lay_pair, layout}
use Rattle.felm_graph.specs.Layable.{IsLayable}
use Rattle.felm_graph.specs.Graphs.{most_nodes}

-- the graph of the layout, where that has no more nodes than may be; or it has more
abbrev pub IsLayout : List InputDecl → List CoreTerm → CoreTerm → Laid → Type 0
IsLayout inputs shared last (laid.Graph g) = (g ≡ layout inputs shared last) × (length g.nodes ≤ most_nodes)
IsLayout inputs shared last laid.Large = most_nodes < length (lay_pair inputs shared last).nodes

-- each of these shared signals names those before it alone, which are so many at the first one
abbrev pub AreLayableFrom : ℕ → List CoreTerm → Type 0
AreLayableFrom n [] = Unit {0}
AreLayableFrom n (s ∷ B) = IsLayable n s × AreLayableFrom (suc n) B

-- roots of shared signals that are laid out behind these nodes, with no more nodes than may be; or there are more
abbrev pub AreLaid : List Node → List CoreTerm → List Node → Option (List ℕ) → Type 0
AreLaid before shared nodes (Some roots) =
    let a = lay_shared [] before shared in (roots ≡ a.roots) × (nodes ≡ a.nodes) × (length nodes ≤ most_nodes)
AreLaid before shared nodes None = most_nodes < length (lay_shared [] before shared).nodes

-- between two shared signals: those that are left, behind these roots and nodes, make the same as all of them
pub record InOrder (start : List Node) (shared : List CoreTerm) (roots : List ℕ) (nodes : List Node) (rest : List CoreTerm) : Type 0 where
  pub same : lay_shared roots nodes rest ≡ lay_shared [] start shared
  pub layable : AreLayableFrom (length roots) rest
  pub few : length nodes ≤ most_nodes
