use Rattle.std.proofs.Common.{◌≡◌, ◌++◌, drop}
use Rattle.felm_graph.specs.Layout.{inputs_from, input_nodes}
use Rattle.felm_graph.proofs.pair.input_nodes.Given as goal

-- the nodes so far, with those of the inputs that are left
abbrev pub invariant-loop-number : goal.invariant-loop-number
invariant-loop-number l = l.nodes.items ++ inputs_from l.number (drop l.number l.inputs) ≡ input_nodes l.inputs
