use Rattle.felm_meaning.specs.OfPlans.{plain_journal_for}
use Rattle.felm_plain.proofs.EndLaws.{ends_once}
use Rattle.felm_plain.proofs.laws.one_end.Goals as goal

pub returns : goal.returns
returns c = λ plan left right h i. ends_once plan.graph plan.budget (plain_journal_for plan) plan.script plan.limit left right h i
