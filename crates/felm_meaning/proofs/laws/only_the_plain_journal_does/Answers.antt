use Rattle.felm_meaning.proofs.Plain.{plain-only}
use Rattle.felm_meaning.proofs.laws.only_the_plain_journal_does.Goals as goal

pub returns : goal.returns
returns c = plain-only
