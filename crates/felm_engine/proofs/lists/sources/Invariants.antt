use Rattle.std.proofs.Common.{◌≡◌}
use Rattle.felm_engine.specs.Lists.{sources_of}
use Rattle.felm_engine.proofs.lists.sources.Given as goal

abbrev pub invariant-loop-node : goal.invariant-loop-node
invariant-loop-node l = l.sources.items ≡ sources_of l.graph.nodes l.node
