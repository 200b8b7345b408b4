use Rattle.felm_engine.proofs.EachSource.{PutSoFar}
use Rattle.felm_engine.proofs.sources.put_messages.Given as goal

abbrev pub invariant-loop-source : goal.invariant-loop-source
invariant-loop-source l = PutSoFar l.sources l.source-index l.initial.edges l.edges
