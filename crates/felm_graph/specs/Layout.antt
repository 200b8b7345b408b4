-- The layout of a finished pair as a graph.
use Rattle.std.specs.Prelude.{ℕ, zero, suc, List, [], ◌∷◌, ◌++◌, length, slice_index}
use Rattle.std.specs.Option.{unwrap_or}
use Rattle.felm_term.specs.CoreType.{CoreType, Arrow}
use Rattle.felm_term.specs.CoreType as type
use Rattle.felm_term.specs.CoreTerm.{CoreTerm, CoreTerms, Input, Node as Name, Lift, Foldp, Async, End, More}
use Rattle.felm_term.specs.CoreTerm as term
use Rattle.felm_term.specs.FoundType.{found_type}
use Rattle.felm_term.specs.Inputs.{values_type}
use Rattle.felm_term.specs.Values.{term_of}
use Rattle.felm_term.specs.declared.input.InputDecl.{InputDecl}
use Rattle.felm_term.specs.declared.value.Value.{Value}
use Rattle.felm_term.specs.declared.value.Value.TheVariants as value
use Rattle.felm_graph.specs.declared.node.Node.{Node}
use Rattle.felm_graph.specs.declared.node.NodeKind.TheVariants as kind
use Rattle.felm_graph.specs.Nodes.{type_at}
use Rattle.felm_graph.specs.GraphValue.{GraphValue}

-- ---- nodes with the types of their values

-- the value that a closed value term is
abbrev pub value_in : CoreTerm → Value
value_in term.Unit = value.Unit
value_in (term.Int n) = value.Int n
value_in t = value.Fun t

-- the type of a value
abbrev pub value_type : Value → CoreType
value_type v = unwrap_or (found_type [] [] [] (term_of v)) type.Unit

-- what a function of a type gives, once it has taken so many values
abbrev pub result_type : ℕ → CoreType → CoreType
result_type zero p = p
result_type (suc n) (Arrow q rest) = result_type n rest
result_type (suc n) p = p

abbrev pub input_node : ℕ → InputDecl → Node
input_node number declared = record { kind = kind.Input number; ty = values_type declared.ty }

abbrev pub lift_node : Value → List ℕ → Node
lift_node f arguments = record { kind = kind.Lift f arguments; ty = result_type (length arguments) (value_type f) }

-- a foldp has the values that it begins with
abbrev pub foldp_node : Value → Value → ℕ → Node
foldp_node f base argument = record { kind = kind.Foldp f base argument; ty = value_type base }

-- an async has its argument's values
abbrev pub async_node : List Node → ℕ → Node
async_node nodes argument = record { kind = kind.Async argument; ty = type_at nodes argument }

-- ---- terms

-- the nodes up to those of a term, and the number of the term's root
pub record Part : Type 0 where
  pub nodes : List Node
  pub root : ℕ

-- the same of several terms
pub record Parts : Type 0 where
  pub nodes : List Node
  pub roots : List ℕ

-- one node more, which is the root
abbrev pub with_node : List Node → Node → Part
with_node nodes node = record { nodes = nodes ++ node ∷ []; root = length nodes }

-- beside shared signals with these roots
module _ (shared : List ℕ) where
  abbrev mutual
    -- a term's nodes go behind those before, its arguments' first and its own last; a name makes none
    pub lay : List Node → CoreTerm → Part
    lay nodes (Input i) = record { nodes = nodes; root = i }
    lay nodes (Name k) = record { nodes = nodes; root = slice_index shared k }
    lay nodes (Lift f ts) = let a = lay_all nodes ts in with_node a.nodes (lift_node (value_in f) a.roots)
    lay nodes (Foldp f b s) = let a = lay nodes s in with_node a.nodes (foldp_node (value_in f) (value_in b) a.root)
    lay nodes (Async s) = let a = lay nodes s in with_node a.nodes (async_node a.nodes a.root)
    -- no other term is a signal term
    lay nodes _ = record { nodes = nodes; root = 0 }

    -- the arguments from the left
    pub lay_all : List Node → CoreTerms → Parts
    lay_all nodes End = record { nodes = nodes; roots = [] }
    lay_all nodes (More t ts) =
        let a = lay nodes t in let b = lay_all a.nodes ts in record { nodes = b.nodes; roots = a.root ∷ b.roots }

-- ---- pairs

-- the nodes of inputs, of which the first has this number
abbrev pub inputs_from : ℕ → List InputDecl → List Node
inputs_from number [] = []
inputs_from number (declared ∷ more) = input_node number declared ∷ inputs_from (suc number) more

-- every declared input has a node, used or not
abbrev pub input_nodes : List InputDecl → List Node
input_nodes inputs = inputs_from 0 inputs

-- the shared signals in order, each beside those before it
abbrev pub lay_shared : List ℕ → List Node → List CoreTerm → Parts
lay_shared roots nodes [] = record { nodes = nodes; roots = roots }
lay_shared roots nodes (s ∷ B) = let a = lay roots nodes s in lay_shared (roots ++ a.root ∷ []) a.nodes B

-- the inputs, then the shared signals, then the last term
abbrev pub lay_pair : List InputDecl → List CoreTerm → CoreTerm → Part
lay_pair inputs shared last = let a = lay_shared [] (input_nodes inputs) shared in lay a.roots a.nodes last

-- the graph of a finished pair, whose main node is the root of the last term
abbrev pub layout : List InputDecl → List CoreTerm → CoreTerm → GraphValue
layout inputs shared last = let p = lay_pair inputs shared last in record { nodes = p.nodes; inputs = inputs; main = p.root }
