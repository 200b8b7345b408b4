use Rattle.std.proofs.Common.{◌+◌}
use Rattle.felm_stage.specs.Frames.{plug, weight}
use Rattle.felm_stage.specs.Moves.{work_of, IsOnTheWay}
use Rattle.felm_stage.proofs.search.seek.Given as goal

abbrev pub invariant-on : goal.invariant-on
invariant-on l = IsOnTheWay (plug l.fn.frames.items l.fn.term) l.fn.left l.frames.items l.focus l.left

abbrev pub decreases-on : goal.decreases-on
decreases-on l = weight l.frames.items + work_of l.focus
