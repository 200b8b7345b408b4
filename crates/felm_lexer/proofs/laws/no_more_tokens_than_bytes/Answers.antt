use Rattle.felm_lexer.proofs.Spans.{no_more_than_bytes}
use Rattle.felm_lexer.proofs.laws.no_more_tokens_than_bytes.Goals as goal

pub returns : goal.returns
returns c = no_more_than_bytes
