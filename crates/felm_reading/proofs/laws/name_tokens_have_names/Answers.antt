use Rattle.felm_reading.proofs.TokenNames.{token_names}
use Rattle.felm_reading.proofs.laws.name_tokens_have_names.Goals as goal

pub returns : goal.returns
returns c = token_names
