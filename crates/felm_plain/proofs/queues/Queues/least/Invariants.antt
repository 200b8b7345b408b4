use Rattle.std.proofs.Common.{◌≡◌, None}
use Rattle.felm_plain.specs.Queues.{first_queue}
use Rattle.felm_plain.proofs.queues.Queues.least.Given as goal

abbrev pub invariant-loop-node : goal.invariant-loop-node
invariant-loop-node l = first_queue l.self l.node ≡ None
