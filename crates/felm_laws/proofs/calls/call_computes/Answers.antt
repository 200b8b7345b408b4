use Rattle.felm_laws.proofs.CallLaws.{call_gives}
use Rattle.felm_laws.proofs.calls.call_computes.Goals as goal

pub returns : goal.returns
returns c = call_gives
