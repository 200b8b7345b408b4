-- The graph that its fields stand for.
use Rattle.felm_graph.specs.GraphValue.{GraphValue}
use Rattle.felm_graph.specs.declared.graph.Graph.TheInside.{Inside}

abbrev pub graph_of : Inside → GraphValue
graph_of a = record { nodes = a.nodes.items; inputs = a.inputs.items; main = a.main }
