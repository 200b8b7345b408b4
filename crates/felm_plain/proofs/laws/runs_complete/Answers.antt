use Rattle.std.proofs.Common.{length, arith}
use Rattle.felm_meaning.specs.OfPlans.{plain_journal_for}
use Rattle.felm_plain.proofs.EndLaws.{completes}
use Rattle.felm_plain.proofs.laws.runs_complete.Goals as goal

pub returns : goal.returns
returns c = λ plan end named there most w.
    completes plan.graph plan.budget plan.script plan.limit end named (λ k l. there k (length (plain_journal_for plan)) l (omega arith)) most w
