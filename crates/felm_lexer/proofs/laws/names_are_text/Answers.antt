use Rattle.felm_lexer.proofs.Names.{name_is_text}
use Rattle.felm_lexer.proofs.laws.names_are_text.Goals as goal

pub returns : goal.returns
returns c = name_is_text
