use Rattle.felm_edges.specs.Parts.{sources_of}
use Rattle.felm_edges.specs.Readers.{AreReadersBefore}
use Rattle.felm_edges.proofs.making.make_readers.Given as goal

abbrev pub invariant-loop-node : goal.invariant-loop-node
invariant-loop-node l = AreReadersBefore (sources_of l.rows) l.node 0 l.readers.items
