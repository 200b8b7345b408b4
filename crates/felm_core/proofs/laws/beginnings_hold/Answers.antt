use Rattle.felm_core.proofs.Holds.{beginning_holds}
use Rattle.felm_core.proofs.laws.beginnings_hold.Goals as goal

pub returns : goal.returns
returns c = beginning_holds
