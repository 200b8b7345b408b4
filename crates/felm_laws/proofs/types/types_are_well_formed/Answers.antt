use Rattle.felm_laws.proofs.Formed.{well_formed}
use Rattle.felm_laws.proofs.types.types_are_well_formed.Goals as goal

pub returns : goal.returns
returns c = λ inputs shared g e u wi ws wg h. well_formed inputs shared wi ws g e u wg h
