-- The texts of all sources of a graph.
use Rattle.std.specs.Prelude.{ℕ, List, [], length, map}
use Rattle.std.specs.List.{range_with_len}
use Rattle.felm_graph.specs.declared.node.NodeKind.{NodeKind}
use Rattle.felm_graph.specs.declared.node.NodeKind.TheVariants as kind
use Rattle.felm_graph.specs.GraphValue.{GraphValue}
use Rattle.felm_term.specs.declared.input.InputDecl.{InputDecl}
use Rattle.felm_printer.specs.Results.{input_text, async_text, source_text}

-- the text of a node that does this, behind so many asyncs: only a source has one
abbrev pub text_behind : List InputDecl → ℕ → NodeKind → List ℕ
text_behind inputs asyncs (kind.Input number) = input_text inputs number
text_behind inputs asyncs (kind.Async argument) = async_text asyncs
text_behind inputs asyncs _ = []

-- the texts of all nodes in order
abbrev pub source_texts : GraphValue → List (List ℕ)
source_texts g = map (source_text g) (range_with_len 0 (length g.nodes))
