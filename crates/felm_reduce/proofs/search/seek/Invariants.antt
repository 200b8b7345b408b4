use Rattle.std.proofs.Common.{◌≡◌, ◌+◌}
use Rattle.felm_reduce.specs.Frames.{plug, weight, work}
use Rattle.felm_reduce.proofs.search.seek.Given as goal

abbrev pub invariant-on : goal.invariant-on
invariant-on l = plug l.frames.items l.focus ≡ plug l.fn.frames.items l.fn.term

abbrev pub decreases-on : goal.decreases-on
decreases-on l = weight l.frames.items + work l.focus
