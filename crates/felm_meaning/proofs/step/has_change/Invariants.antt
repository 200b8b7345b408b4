use Rattle.std.proofs.Common.{◌≡◌, false, take}
use Rattle.std.specs.List.{list_any}
use Rattle.felm_meaning.specs.Step.{is_change}
use Rattle.felm_meaning.proofs.step.has_change.Given as goal

abbrev pub invariant-loop-port : goal.invariant-loop-port
invariant-loop-port g l = list_any is_change (take l.port (g.A.Arguments.messages l.arguments)) ≡ false
