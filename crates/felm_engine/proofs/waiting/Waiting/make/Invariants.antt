use Rattle.std.proofs.Common.{◌≡◌, ℕ, [], length}
use Rattle.felm_engine.specs.Queued.{queue_at}
use Rattle.felm_engine.proofs.waiting.Waiting.make.Given as goal

abbrev pub invariant-loop-made : goal.invariant-loop-made
invariant-loop-made l = record {
  lengths : length l.queues.items ≡ l._made;
  empty : (k : ℕ) → (queue_at l.queues.items k).items ≡ [];
}
