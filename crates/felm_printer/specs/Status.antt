-- The numbers of statuses.
use Rattle.std.specs.Prelude.{ℕ}
use Rattle.felm_printer.specs.declared.status.Status.{Status}
use Rattle.felm_printer.specs.declared.status.Status.TheVariants.{Success, Usage, Read, TooLong, Syntax, Typing, Script, Stage, Turn, Journal, Write, Memory}

-- the number that the process ends with
abbrev pub code_of : Status → ℕ
code_of Success = 0
code_of Usage = 2
code_of (Read which) = 3
code_of (TooLong which) = 4
code_of (Syntax cause at) = 5
code_of (Typing cause at) = 6
code_of (Script cause line) = 7
code_of (Stage cause) = 8
code_of (Turn node position) = 9
code_of Journal = 10
code_of Write = 11
code_of Memory = 12
