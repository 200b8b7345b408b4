use Rattle.felm_lexer.proofs.Names.{name_from_kind, kind_from_name}
use Rattle.felm_lexer.proofs.laws.name_tokens_are_names.Goals as goal

pub returns : goal.returns
returns c = λ bytes. (name_from_kind bytes, kind_from_name bytes)
