use Rattle.felm_types.proofs.tests.+read_ty.Given as goal

abbrev pub decreases-read_ty : goal.decreases-read_ty
decreases-read_ty l = l.fuel
