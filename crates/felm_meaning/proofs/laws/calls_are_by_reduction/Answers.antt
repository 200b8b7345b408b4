use Rattle.std.proofs.Common.{sym, subst}
use Rattle.felm_meaning.proofs.Recursion.{call-is, call-only}
use Rattle.felm_meaning.specs.Words.{IsCall}
use Rattle.felm_meaning.proofs.laws.calls_are_by_reduction.Goals as goal

pub returns : goal.returns
returns c = λ f arguments b v. (call-only f arguments b v, λ e. subst (λ v. IsCall f arguments b v) (sym e) (call-is f arguments b))
