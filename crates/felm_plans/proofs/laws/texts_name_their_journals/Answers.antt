use Rattle.felm_plans.proofs.Texts.{texts_name_journals}
use Rattle.felm_plans.proofs.laws.texts_name_their_journals.Goals as goal

pub returns : goal.returns
returns c = texts_name_journals
