use Rattle.std.proofs.Common.{sym, ◌∙◌}
use Rattle.felm_laws.proofs.CallLaws.{one_call}
use Rattle.felm_laws.proofs.calls.one_call.Goals as goal

pub returns : goal.returns
returns c = λ f arguments budget v w h k. one_call f arguments budget v h ∙ sym (one_call f arguments budget w k)
