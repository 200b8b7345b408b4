use Rattle.std.proofs.Common.{refl}
use Rattle.felm_term.specs.CoreType as type
use Rattle.felm_term.proofs.tests.identity_function.Goals as goal

pub make-requires : goal.make-requires
make-requires c = rw c.in_ok-identity.ensures (type.Arrow type.Int type.Int, refl, (type.Int, refl, refl, refl, refl))
