use Rattle.felm_core.proofs.Bound.{legal_bound}
use Rattle.felm_core.proofs.laws.legal_journals_are_bounded.Goals as goal

pub returns : goal.returns
returns c = λ plan journal graph legal. legal_bound plan.graph plan.budget plan.script journal graph legal
