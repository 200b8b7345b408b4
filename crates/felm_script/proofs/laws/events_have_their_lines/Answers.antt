use Rattle.felm_script.proofs.Judged.{event_lines}
use Rattle.felm_script.proofs.laws.events_have_their_lines.Goals as goal

pub returns : goal.returns
returns c = event_lines
