-- Graphs as texts.
use Rattle.std.specs.Prelude.{ℕ, ◌+◌, List, [], ◌∷◌, ◌++◌, length, slice_get, codes}
use Rattle.std.specs.List.{flat_map}
use Rattle.std.specs.Option.{option_map_or}
use Rattle.std.specs.Fmt.{decimal}
use Rattle.felm_term.specs.Text.{value_text}
use Rattle.felm_term.specs.Values.{term_of}
use Rattle.felm_term.specs.Inputs.{values_type}
use Rattle.felm_term.specs.declared.input.InputDecl.{InputDecl}
use Rattle.felm_graph.specs.declared.node.Node.{Node}
use Rattle.felm_graph.specs.declared.node.NodeKind.{NodeKind}
use Rattle.felm_graph.specs.declared.node.NodeKind.TheVariants as kind
use Rattle.felm_graph.specs.GraphValue.{GraphValue}
use Rattle.felm_meaning.specs.Meaning.{declared_value}
use Rattle.felm_printer.specs.Terms.{type_text, term_text}

-- a declared input: its name, the type of its values, and its default
abbrev pub declaration_text : InputDecl → List ℕ
declaration_text declared =
    codes "input " ++ declared.name ++ codes " : " ++ type_text (values_type declared.ty) ++ codes " = " ++ value_text (declared_value declared)

-- nodes by their numbers, each behind a blank
abbrev pub numbers_text : List ℕ → List ℕ
numbers_text numbers = flat_map (λ number. codes " " ++ decimal number) numbers

-- what a node does; its functions are closed terms of their own
abbrev pub kind_text : List InputDecl → NodeKind → List ℕ
kind_text inputs (kind.Input number) = option_map_or declaration_text (slice_get inputs number) []
kind_text inputs (kind.Lift function arguments) =
    codes "lift" ++ decimal (length arguments) ++ codes " " ++ term_text 0 (term_of function) ++ numbers_text arguments
kind_text inputs (kind.Foldp function base argument) =
    codes "foldp " ++ term_text 0 (term_of function) ++ codes " " ++ term_text 0 (term_of base) ++ codes " " ++ decimal argument
kind_text inputs (kind.Async argument) = codes "async " ++ decimal argument

-- the line of a node with this number
abbrev pub node_line : List InputDecl → ℕ → Node → List ℕ
node_line inputs number node = decimal number ++ codes " " ++ kind_text inputs node.kind ++ codes "\n"

-- the lines of the nodes from a number on
abbrev pub node_lines : List InputDecl → ℕ → List Node → List ℕ
node_lines inputs number [] = []
node_lines inputs number (node ∷ nodes) = node_line inputs number node ++ node_lines inputs (number + 1) nodes

-- a line for each node in order, and the number of the node that is shown
abbrev pub graph_text : GraphValue → List ℕ
graph_text g = codes "felm-graph 1\n" ++ node_lines g.inputs 0 g.nodes ++ codes "main " ++ decimal g.main ++ codes "\n"
