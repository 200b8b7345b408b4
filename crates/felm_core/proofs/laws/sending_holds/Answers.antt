use Rattle.felm_core.proofs.Holds.{sent_holds}
use Rattle.felm_core.proofs.laws.sending_holds.Goals as goal

pub returns : goal.returns
returns c = sent_holds
