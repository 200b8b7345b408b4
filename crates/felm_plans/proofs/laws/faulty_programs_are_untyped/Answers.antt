use Rattle.felm_plans.proofs.Refusals.{faulty_programs}
use Rattle.felm_plans.proofs.laws.faulty_programs_are_untyped.Goals as goal

pub returns : goal.returns
returns c = faulty_programs
