use Rattle.felm_core.proofs.Stays.{stay_holds}
use Rattle.felm_core.proofs.laws.staying_holds.Goals as goal

pub returns : goal.returns
returns c = λ s c d edges parts journal done. stay_holds s c d journal done edges parts
