use Rattle.felm_core.proofs.Holds.{source_sends_is}
use Rattle.felm_core.proofs.laws.sources_send.Goals as goal

pub returns : goal.returns
returns c = source_sends_is
