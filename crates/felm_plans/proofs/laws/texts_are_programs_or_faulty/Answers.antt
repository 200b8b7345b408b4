use Rattle.felm_plans.proofs.Refusals.{program_or_fault}
use Rattle.felm_plans.proofs.laws.texts_are_programs_or_faulty.Goals as goal

pub returns : goal.returns
returns c = program_or_fault
