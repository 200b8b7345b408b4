use Rattle.std.proofs.Common.{◌≡◌, ◌<◌, ◌≤◌, ◌++◌, ℕ, length}
use Rattle.felm_meaning.specs.Nodes.{inner}
use Rattle.felm_plain.specs.Rows.{row_of}
use Rattle.felm_plain.specs.Queues.{queue_at, added}
use Rattle.felm_plain.proofs.queues.Queues.add_changes.Given as goal

-- the queues before this node have their changes, the others what they had
abbrev pub invariant-loop-node : goal.invariant-loop-node
invariant-loop-node l = record {
  lengths : length l.self-inside.queues.items ≡ length l.initial.self-inside.queues.items;
  before : (k : ℕ) → k < l.node → queue_at l.self-inside.queues.items k ≡ queue_at l.initial.self-inside.queues.items k ++ added (inner l.graph.nodes k) (row_of l.row);
  after : (k : ℕ) → l.node ≤ k → queue_at l.self-inside.queues.items k ≡ queue_at l.initial.self-inside.queues.items k;
}
