use Rattle.std.proofs.Common.{◌+◌, ◌*◌}
use Rattle.felm_types.proofs.tests.+read.Given as goal

abbrev pub decreases-read : goal.decreases-read
decreases-read l = 2 * l.fuel

abbrev pub decreases-read_function : goal.decreases-read_function
decreases-read_function l = 2 * l.fuel + 1

abbrev pub decreases-read_let : goal.decreases-read_let
decreases-read_let l = 2 * l.fuel + 1

abbrev pub decreases-read_lift : goal.decreases-read_lift
decreases-read_lift l = 2 * l.fuel + 1

abbrev pub decreases-read_all : goal.decreases-read_all
decreases-read_all l = 2 * l.fuel
