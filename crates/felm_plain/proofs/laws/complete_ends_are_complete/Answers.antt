use Rattle.felm_plain.proofs.EndLaws.{complete_is_complete}
use Rattle.felm_plain.proofs.laws.complete_ends_are_complete.Goals as goal

pub returns : goal.returns
returns c = λ plan h graph named w. complete_is_complete plan.graph plan.budget plan.script plan.limit graph named h w
