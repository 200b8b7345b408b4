use Rattle.std.proofs.Common.{◌≡◌, ◌++◌, drop, string_bytes}
use Rattle.std.specs.Prelude.{codes}
use Rattle.felm_printer.specs.Graphs.{node_lines}
use Rattle.felm_printer.proofs.graph.graph_text.Given as goal

-- the text so far and the lines to come
abbrev pub invariant-loop-number : goal.invariant-loop-number
invariant-loop-number l =
    string_bytes l.text ++ node_lines l.graph.inputs l.number (drop l.number l.graph.nodes)
    ≡ codes "felm-graph 1\n" ++ node_lines l.graph.inputs 0 l.graph.nodes
