use Rattle.std.proofs.Common.{◌≡◌, ◌∙◌, ◌≤◌, ap, subst, arith, length, map}
use Rattle.std.specs.Prelude.{IfOk}
use Rattle.felm_term.specs.CoreTerm.{App}
use Rattle.felm_term.specs.Values.{term_of, value_of}
use Rattle.felm_meaning.proofs.Calls.{argument_more, arguments_all, application_typed, call_is}
use Rattle.felm_meaning.proofs.call.call_on_arguments.Goals as goal

pub loop-port-preserved : goal.loop-port-preserved
loop-port-preserved g c =
    argument_more c.args.function.now value_of (g.A.Arguments.messages c.args.arguments.now) c.loop-port.port c.message.result.now c.loop-port.application
    c.in_ok-application-2.application c.message.ensures c.loop-port.invariant
    (c.in_ok-application-2.ensures ∙ ap (λ v. App c.loop-port.application (term_of v)) c.value_of.ensures)

pub value_within-requires : goal.value_within-requires
value_within-requires g c =
    let all : length (g.A.Arguments.messages c.args.arguments.now) ≤ c.loop-port.port = omega arith in
    application_typed c.args.function.now (map value_of (g.A.Arguments.messages c.args.arguments.now)) c.loop-port.application c.requires
    (arguments_all c.args.function.now value_of (g.A.Arguments.messages c.args.arguments.now) c.loop-port.port c.loop-port.application all c.loop-port.invariant)

pub returns : goal.returns
returns g c =
    let all : length (g.A.Arguments.messages c.args.arguments.now) ≤ c.loop-port.port = omega arith in
    let e = arguments_all c.args.function.now value_of (g.A.Arguments.messages c.args.arguments.now) c.loop-port.port c.loop-port.application all c.loop-port.invariant in
    subst (λ o. IfOk c.value_within.result (λ v. v ≡ o))
    (call_is c.args.function.now (map value_of (g.A.Arguments.messages c.args.arguments.now)) c.args.budget c.loop-port.application e) c.value_within.ensures
