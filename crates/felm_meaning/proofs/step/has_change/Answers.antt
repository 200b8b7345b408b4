use Rattle.std.proofs.Common.{sym, ◌∙◌}
use Rattle.felm_meaning.specs.Step.{is_change}
use Rattle.felm_meaning.proofs.Calls.{any_here, none_more}
use Rattle.felm_meaning.proofs.step.has_change.Goals as goal

pub returns-then-is_change : goal.returns-then-is_change
returns-then-is_change g c =
    sym (any_here is_change (g.A.Arguments.messages c.args.arguments.now) c.loop-port.port c.message.result.now c.message.ensures (sym c.is_change.ensures ∙ c.if-is_change.true))

pub loop-port-preserved : goal.loop-port-preserved
loop-port-preserved g c =
    none_more is_change (g.A.Arguments.messages c.args.arguments.now) c.loop-port.port c.message.result.now c.message.ensures c.loop-port.invariant
    (sym c.is_change.ensures ∙ c.if-is_change.false)
