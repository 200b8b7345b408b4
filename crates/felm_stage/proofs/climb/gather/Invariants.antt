use Rattle.std.proofs.Common.{◌≡◌, vec_len}
use Rattle.felm_term.specs.CoreTerm.{More, End}
use Rattle.felm_stage.specs.Frames.{behind}
use Rattle.felm_stage.proofs.climb.gather.Given as goal

abbrev pub invariant-back : goal.invariant-back
invariant-back l = behind l.done.items l.terms ≡ behind l.fn.done.items (More l.fn.last End)

abbrev pub decreases-back : goal.decreases-back
decreases-back l = vec_len l.done
