use Rattle.felm_meaning.specs.OfPlans.{plain_journal_for}
use Rattle.felm_plain.proofs.EndLaws.{ends_exact}
use Rattle.felm_plain.proofs.laws.ends_are_exact.Goals as goal

pub returns : goal.returns
returns c = λ plan end h. ends_exact plan.graph plan.budget (plain_journal_for plan) plan.script plan.limit end h
