use Rattle.felm_cli.proofs.Exact.{one_end}
use Rattle.felm_cli.proofs.laws.texts_come_to_one_end.Goals as goal

pub returns : goal.returns
returns c = one_end
