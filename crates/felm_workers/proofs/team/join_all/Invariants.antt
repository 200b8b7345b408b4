use Rattle.std.proofs.Common.{◌≡◌, ◌+◌, ◌≤◌, length, sum, vec_len, vec_capacity}
use Rattle.felm_workers.proofs.team.join_all.Given as goal

abbrev pub invariant-loop-post : goal.invariant-loop-post
invariant-loop-post g l =
    (l.all.parts ≡ length l.yielded + 1)
    × (l.all.amount ≡ sum l.counts.items)
    × (vec_len l.counts ≡ length l.yielded)
    × (vec_len l.fn.posts ≤ vec_capacity l.counts)
