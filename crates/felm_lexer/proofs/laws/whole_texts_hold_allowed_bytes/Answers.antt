use Rattle.std.proofs.Common.{refl}
use Rattle.felm_lexer.specs.Readings.{Whole}
use Rattle.felm_lexer.proofs.Allowed.{whole_allowed}
use Rattle.felm_lexer.proofs.laws.whole_texts_hold_allowed_bytes.Goals as goal

pub returns : goal.returns
returns c = λ text tokens reads. whole_allowed text (Whole tokens) reads tokens refl
