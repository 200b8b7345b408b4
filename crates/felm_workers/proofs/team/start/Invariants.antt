use Rattle.std.proofs.Common.{◌≡◌, ◌+◌, ◌≤◌, vec_len, vec_capacity}
use Rattle.felm_workers.proofs.team.start.Given as goal

abbrev pub invariant-loop-place : goal.invariant-loop-place
invariant-loop-place g l =
    (l.all.parts + l.place ≡ l.workers + 1)
    × (l.all.amount ≡ l.initial.all.amount)
    × (vec_len l.posts ≡ l.place)
    × (l.workers ≤ vec_capacity l.posts)
