use Rattle.felm_edges.specs.Parts.{sources_of}
use Rattle.felm_edges.specs.Readers.{AreReadersBefore}
use Rattle.felm_edges.proofs.making.add_readers.Given as goal

abbrev pub invariant-loop-port : goal.invariant-loop-port
invariant-loop-port l = AreReadersBefore (sources_of l.rows) l.node l.port l.readers
