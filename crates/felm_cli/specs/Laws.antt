-- What the law of this crate says.
use Rattle.std.specs.Prelude.{◌≡◌}
use Rattle.felm_printer.specs.declared.status.Status.{Status}
use Rattle.felm_cli.specs.Words.{Texts, OrderValue}
use Rattle.felm_cli.specs.Promises.{ComeTo}

-- the texts of an order come to at most one status
abbrev pub TextsComeToOneEnd : Type 0
TextsComeToOneEnd = (order : OrderValue) (texts : Texts) (one other : Status) → ComeTo order texts one → ComeTo order texts other → one ≡ other
