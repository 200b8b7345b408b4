use Rattle.felm_laws.proofs.SimpleTerms.{no_signals}
use Rattle.felm_laws.proofs.types.simple_terms_name_no_signals.Goals as goal

pub returns : goal.returns
returns c = λ inputs shared g e u wi ws wg s h. no_signals inputs shared wi ws g e u wg s h
