use Rattle.felm_engine.proofs.Queuing.{PutSoFar}
use Rattle.felm_engine.proofs.waiting.Waiting.put.Given as goal

abbrev pub invariant-loop-node : goal.invariant-loop-node
invariant-loop-node l = PutSoFar l.nodes l.node-index l.initial.self-inside.queues.items l.self-inside.queues.items
