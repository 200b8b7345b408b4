use Rattle.felm_term.proofs.FoundTypes.{same_type-test}
use Rattle.felm_term.proofs.rows.is_same.Goals as goal

pub returns : goal.returns
returns c = same_type-test c.same_ty.result c.args.left.now c.args.right.now c.same_ty.ensures
