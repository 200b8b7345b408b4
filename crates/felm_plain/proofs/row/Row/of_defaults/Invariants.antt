use Rattle.std.proofs.Common.{◌≡◌, map, take}
use Rattle.felm_term.specs.declared.message.Message.TheVariants.{NoChange}
use Rattle.felm_plain.proofs.row.Row.of_defaults.Given as goal

abbrev pub invariant-loop-value : goal.invariant-loop-value
invariant-loop-value l = l.messages.items ≡ map (λ value. NoChange value) (take l.value-index l.defaults)
