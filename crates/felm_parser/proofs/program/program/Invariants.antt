use Rattle.std.proofs.Common.{◌≡◌, [], length}
use Rattle.felm_reading.specs.Reading.{program_after}
use Rattle.felm_parser.proofs.program.program.Given as goal

-- what is left to read after these declarations gives what all gives
abbrev pub invariant-declarations : goal.invariant-declarations
invariant-declarations l = program_after l.text l.room l.inputs l.rest ≡ program_after l.fn.text l.fn.room [] l.fn.tokens

abbrev pub decreases-declarations : goal.decreases-declarations
decreases-declarations l = length l.rest
