use Rattle.std.proofs.Common.{◌+◌, ◌*◌}
use Rattle.felm_parser.proofs.types.+types.Given as goal

abbrev pub decreases-type_in : goal.decreases-type_in
decreases-type_in l = 4 * l.room

abbrev pub decreases-closed_type : goal.decreases-closed_type
decreases-closed_type l = 4 * l.room + 1

abbrev pub decreases-signal_type : goal.decreases-signal_type
decreases-signal_type l = 4 * l.room + 2

abbrev pub decreases-whole_type : goal.decreases-whole_type
decreases-whole_type l = 4 * l.room + 3
