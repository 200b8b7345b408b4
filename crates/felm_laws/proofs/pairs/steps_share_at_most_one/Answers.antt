use Rattle.felm_laws.proofs.SharedSignals.{shares_at_most_one}
use Rattle.felm_laws.proofs.pairs.steps_share_at_most_one.Goals as goal

pub returns : goal.returns
returns c = λ B C e f s. shares_at_most_one s
