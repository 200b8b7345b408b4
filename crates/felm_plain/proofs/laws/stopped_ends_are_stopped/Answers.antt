use Rattle.felm_plain.proofs.EndLaws.{stopped_is_stopped}
use Rattle.felm_plain.proofs.laws.stopped_ends_are_stopped.Goals as goal

pub returns : goal.returns
returns c = λ plan journal node position graph named w.
    stopped_is_stopped plan.graph plan.budget plan.script plan.limit graph named journal node position w
