use Rattle.felm_core.proofs.Scripted.{scripted_legal}
use Rattle.felm_core.proofs.laws.scripted_runs_are_legal.Goals as goal

pub returns : goal.returns
returns c = scripted_legal
