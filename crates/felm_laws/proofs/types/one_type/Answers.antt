use Rattle.std.proofs.Common.{◌≡◌, Some, sym, ◌∙◌}
use Rattle.felm_term.specs.CoreType.{CoreType}
use Rattle.felm_term.proofs.FoundTypes.{has_found}
use Rattle.felm_laws.proofs.types.one_type.Goals as goal

some_is : (u v : CoreType) → Some u ≡ Some v → u ≡ v
some_is u v h = cc

pub returns : goal.returns
returns c = λ inputs shared g e u v h k. some_is u v (sym (has_found inputs shared g e u h) ∙ has_found inputs shared g e v k)
