use Rattle.felm_engine.proofs.EachSource.{DueSoFar}
use Rattle.felm_engine.proofs.sources.prepare_messages.Given as goal

abbrev pub invariant-loop-source : goal.invariant-loop-source
invariant-loop-source l = DueSoFar l.sources l.source-index l.event l.kept l.initial.edges l.edges
