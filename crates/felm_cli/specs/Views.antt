-- What contracts see of the values that this crate passes on.
use Rattle.std.specs.Prelude.{[], ◌∷◌}
use Rattle.felm_printer.specs.declared.status.Which.TheVariants.{Program, Script}
use Rattle.felm_cli.specs.declared.words.Command.TheVariants as command
use Rattle.felm_cli.specs.declared.words.Order.{Order}
use Rattle.felm_cli.specs.declared.words.Order.TheVariants as words
use Rattle.felm_cli.specs.Words.{OrderValue}

-- an order, by the bytes of its file names
abbrev pub order_value : Order → OrderValue
order_value (words.Sync program script limits) =
    record { command = command.Sync; texts = (Program, program.now) ∷ (Script, script.now) ∷ []; limits = limits }
order_value (words.Graph program limits) = record { command = command.Graph; texts = (Program, program.now) ∷ []; limits = limits }
order_value (words.Run program script limits) =
    record { command = command.Run; texts = (Program, program.now) ∷ (Script, script.now) ∷ []; limits = limits }
