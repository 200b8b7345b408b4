use Rattle.felm_laws.proofs.NeverStuck.{never_stuck}
use Rattle.felm_laws.proofs.steps.pairs_never_stick.Goals as goal

pub returns : goal.returns
returns c = λ inputs n B e f u wi h s. never_stuck inputs wi n B e f u h s
