use Rattle.felm_term.specs.CoreTerm.{depth, depth_all}
use Rattle.felm_term.proofs.typing.+found_type.Given as goal

abbrev pub decreases-found_type : goal.decreases-found_type
decreases-found_type l = depth l.term.now

abbrev pub decreases-lifted_type : goal.decreases-lifted_type
decreases-lifted_type l = depth_all l.arguments.now
