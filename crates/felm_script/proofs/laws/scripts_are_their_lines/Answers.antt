use Rattle.felm_script.proofs.Refusals.{events_of_lines}
use Rattle.felm_script.proofs.laws.scripts_are_their_lines.Goals as goal

pub returns : goal.returns
returns c = events_of_lines
