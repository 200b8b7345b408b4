use Rattle.std.proofs.Common.{refl, ap}
use Rattle.felm_term.specs.CoreTerm.{Lam, App, Let}
use Rattle.felm_stage.specs.Frames.{around}
use Rattle.felm_stage.proofs.Runs.{takes_at}
use Rattle.felm_stage.proofs.Climbs.{applied_value, no_value_lifted}
use Rattle.felm_stage.proofs.climb.climb_value.Goals as goal

pub function_of-param-requires : goal.function_of-param-requires
function_of-param-requires c = applied_value c.args.value c.in-Argument.argument (rw c.in-Argument.is at c.requires.typed) c.requires.value

pub returns-in-Argument : goal.returns-in-Argument
returns-in-Argument c left =
    let a = c.in-Argument.argument in
    let f = c.function_of-param.result in
    (takes_at left (around c.args.frame c.args.value) (App (Lam f.0 f.1) a) (rw c.in-Argument.is (ap (λ x. App x a) c.function_of-param.ensures)), tt)

pub returns-in-Body : goal.returns-in-Body
returns-in-Body c left =
    (takes_at left (around c.args.frame c.args.value) (Let c.args.value c.in-Body.body) (rw c.in-Body.is refl), c.requires.value)

pub unreachable-requires : goal.unreachable-requires
unreachable-requires c =
    no_value_lifted c.in-Arguments.function c.args.value c.in-Arguments.done.items c.in-Arguments.rest (rw c.in-Arguments.is at c.requires.typed) c.requires.value
