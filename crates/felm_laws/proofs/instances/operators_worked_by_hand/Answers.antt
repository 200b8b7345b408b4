use Rattle.std.proofs.Common.{refl}
use Rattle.std.specs.Int.{int_wrap}
use Rattle.felm_laws.proofs.instances.operators_worked_by_hand.Goals as goal

pub returns : goal.returns
unfolding int_wrap
returns c =
    (refl, (refl, (refl, (refl, (refl, (refl, (refl, (refl, (refl, (refl, (refl, (refl, (refl, (refl, (refl, tt)))))))))))))))
