use Rattle.std.proofs.Common.{◌≡◌, ℕ, ◌<◌, Some}
use Rattle.std.specs.List.{slice_get}
use Rattle.felm_engine.specs.Queued.{queue_at, SameQueues}
use Rattle.felm_engine.proofs.waiting.Waiting.prepare.Given as goal

abbrev pub invariant-loop-node : goal.invariant-loop-node
invariant-loop-node l = record {
  same : SameQueues l.initial.self-inside.queues.items l.self-inside.queues.items;
  prepared : (i a : ℕ) → i < l.node-index → slice_get l.nodes i ≡ Some a → (queue_at l.self-inside.queues.items a).prepared ≡ Some l.value;
}
