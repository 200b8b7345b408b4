use Rattle.std.proofs.Common.{◌≡◌, subst}
use Rattle.std.specs.Prelude.{IfOk}
use Rattle.felm_meaning.proofs.Presets.{lift_default}
use Rattle.felm_meaning.proofs.preset.default_of.Goals as goal

pub returns-in-Lift : goal.returns-in-Lift
returns-in-Lift c =
    subst (λ o. IfOk c.call_at.result (λ v. v ≡ o))
    (lift_default c.args.inputs.now c.args.budget c.args.values.now c.args.kind.now c.in-Lift.function c.in-Lift.arguments c.as_slice.result.now c.in-Lift.is
    c.as_slice.ensures c.requires) c.call_at.ensures
