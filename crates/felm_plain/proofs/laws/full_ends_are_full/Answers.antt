use Rattle.felm_plain.proofs.EndLaws.{full_is_full}
use Rattle.felm_plain.proofs.laws.full_ends_are_full.Goals as goal

pub returns : goal.returns
returns c = λ plan h graph named w. full_is_full plan.graph plan.budget plan.script plan.limit graph named h w
