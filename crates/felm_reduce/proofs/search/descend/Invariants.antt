use Rattle.std.proofs.Common.{◌≡◌, ◌≤◌, ◌+◌}
use Rattle.felm_reduce.specs.Frames.{plug, weight, work}
use Rattle.felm_reduce.proofs.search.descend.Given as goal

abbrev pub invariant-down : goal.invariant-down
invariant-down l = record {
  same : plug l.frames.items l.focus ≡ plug l.fn.frames.items l.fn.term;
  less : weight l.frames.items + work l.focus ≤ weight l.fn.frames.items + work l.fn.term;
}
