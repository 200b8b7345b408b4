use Rattle.std.proofs.Common.{◌≡◌, map, Some}
use Rattle.felm_meaning.specs.Meaning.{defaults_to}
use Rattle.felm_meaning.proofs.preset.defaults.Given as goal

abbrev pub invariant-loop-node : goal.invariant-loop-node
invariant-loop-node l = map (λ v. Some v) l.values.items ≡ defaults_to l.plan.graph l.plan.limits.turn_steps l.node
