-- What every graph keeps.
use Rattle.std.specs.Prelude.{◌≡◌, ℕ, ◌<◌, ◌≤◌, List, [], ◌∷◌, ◌++◌, length, Some, slice_get, IsTrue}
use Rattle.felm_term.specs.CoreType.{CoreType, Arrow, is_simple}
use Rattle.felm_term.specs.Typing.{HasType}
use Rattle.felm_term.specs.Reduction.{IsValue}
use Rattle.felm_term.specs.Values.{term_of}
use Rattle.felm_term.specs.declared.value.Value.{Value}
use Rattle.felm_graph.specs.declared.node.Node.{Node}
use Rattle.felm_graph.specs.declared.node.NodeKind.{NodeKind}
use Rattle.felm_graph.specs.declared.node.NodeKind.TheVariants as kind
use Rattle.felm_graph.specs.GraphValue.{GraphValue}
use Rattle.felm_graph.specs.Nodes.{types_of}
use Rattle.felm_graph.specs.Layout.{input_nodes}

-- the most nodes that a graph has
abbrev pub most_nodes : ℕ
most_nodes = 16384

-- the value is a closed one of this type
abbrev pub IsOfType : CoreType → Value → Type 0
IsOfType t v = IsValue (term_of v) × HasType [] [] [] (term_of v) t

-- ---- a node against the types of the nodes before it: so what it reads has a smaller number

-- a function of type p takes the values of these nodes one by one, and then gives a value of type r
abbrev pub TakesValues : List CoreType → CoreType → List ℕ → CoreType → Type 0
TakesValues types p [] r = p ≡ r
TakesValues types p (a ∷ more) r =
    (q : CoreType) × (rest : CoreType) × (p ≡ Arrow q rest) × (slice_get types a ≡ Some q) × TakesValues types rest more r

-- what a node does fits the type of its values; no such node is an input
abbrev pub KindFits : List CoreType → NodeKind → CoreType → Type 0
KindFits types (kind.Input number) r = ⊥
KindFits types (kind.Lift f arguments) r =
    (p : CoreType) × IsOfType p f × TakesValues types p arguments r × (1 ≤ length arguments) × (length arguments ≤ 9)
KindFits types (kind.Foldp f base argument) r =
    (t : CoreType) × IsOfType (Arrow t (Arrow r r)) f × IsOfType r base × (slice_get types argument ≡ Some t)
KindFits types (kind.Async argument) r = slice_get types argument ≡ Some r

-- its values have a simple type
abbrev pub FitsBehind : List Node → Node → Type 0
FitsBehind before node = KindFits (types_of before) node.kind node.ty × IsTrue (is_simple node.ty)

-- each of these nodes fits behind those before it
abbrev pub AllFitBehind : List Node → List Node → Type 0
AllFitBehind before [] = Unit {0}
AllFitBehind before (node ∷ more) = FitsBehind before node × AllFitBehind (before ++ node ∷ []) more

-- first the inputs in order, then nodes that fit
pub record IsGraph (g : GraphValue) : Type 0 where
  pub rest : List Node
  pub inputs_first : g.nodes ≡ input_nodes g.inputs ++ rest
  pub fit : AllFitBehind (input_nodes g.inputs) rest
  pub main_there : g.main < length g.nodes
  pub few : length g.nodes ≤ most_nodes
