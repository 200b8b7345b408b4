use Rattle.felm_meaning.proofs.Plain.{plain-legal}
use Rattle.felm_meaning.proofs.laws.plain_journal_is_legal.Goals as goal

pub returns : goal.returns
returns c = plain-legal
