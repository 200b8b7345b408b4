use Rattle.felm_engine.proofs.EachSource.{RoomySoFar}
use Rattle.felm_engine.proofs.sources.reserve_queues.Given as goal

abbrev pub invariant-loop-source : goal.invariant-loop-source
invariant-loop-source l = RoomySoFar l.nodes l.sources l.source-index l.done l.events l.initial.waiting l.waiting
