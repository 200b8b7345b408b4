use Rattle.std.proofs.Common.{◌≡◌}
use Rattle.felm_edges.specs.EdgesValue.{wiring_of}
use Rattle.felm_driven.proofs.tests.edges.a_message_goes_to_each_port.Given as goal

abbrev pub invariant-loop-step : goal.invariant-loop-step
invariant-loop-step g l = l.edges.wiring ≡ wiring_of l.graph.nodes
