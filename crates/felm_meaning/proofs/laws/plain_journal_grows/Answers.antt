use Rattle.felm_meaning.proofs.Plain.{plain-is}
use Rattle.felm_meaning.proofs.laws.plain_journal_grows.Goals as goal

pub returns : goal.returns
returns c = plain-is
