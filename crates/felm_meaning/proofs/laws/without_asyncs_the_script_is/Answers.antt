use Rattle.felm_meaning.proofs.Causes.{complete_without_asyncs}
use Rattle.felm_meaning.proofs.laws.without_asyncs_the_script_is.Goals as goal

pub returns : goal.returns
returns c = complete_without_asyncs
