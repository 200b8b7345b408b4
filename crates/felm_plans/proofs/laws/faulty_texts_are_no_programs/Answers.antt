use Rattle.felm_plans.proofs.Refusals.{faulty_texts}
use Rattle.felm_plans.proofs.laws.faulty_texts_are_no_programs.Goals as goal

pub returns : goal.returns
returns c = faulty_texts
