use Rattle.felm_engine.proofs.EachSource.{CountedSoFar}
use Rattle.felm_engine.proofs.sources.count_messages.Given as goal

abbrev pub invariant-loop-source : goal.invariant-loop-source
invariant-loop-source l = CountedSoFar l.sources l.source-index l.count l.initial.done l.done
