-- What the line of a status names: a file, and the limits of the order.
use Rattle.std.specs.Prelude.{ℕ, List, [], Option, Some, None, unwrap_or}
use Rattle.felm_term.specs.declared.limits.Limits.{Limits}
use Rattle.felm_printer.specs.declared.status.Status.{Status}
use Rattle.felm_printer.specs.declared.status.Status.TheVariants.{Read, TooLong}
use Rattle.felm_cli.specs.Words.{OrderValue, default_limits, file_of}

-- the file that the line of a status names, if it names one
abbrev pub file_named : Option OrderValue → Status → List ℕ
file_named (Some order) (Read which) = unwrap_or (file_of which order) []
file_named (Some order) (TooLong which) = unwrap_or (file_of which order) []
file_named order status = []

-- the limits of the order, or the defaults where there is none
abbrev pub limits_named : Option OrderValue → Limits
limits_named (Some order) = order.limits
limits_named None = default_limits
