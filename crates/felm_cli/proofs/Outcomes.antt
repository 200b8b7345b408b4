-- How an order ends, by how its parts do.
use Rattle.std.proofs.Common.{◌≡◌, ℕ, List, Option, Some, None, IfSome}
use Rattle.felm_graph.specs.Graphs.{IsGraph}
use Rattle.felm_meaning.specs.Journals.{NamesInputs}
use Rattle.felm_meaning.specs.PlanValue.{PlanValue}
use Rattle.felm_printer.specs.declared.status.Which.TheVariants.{Program, Script}
use Rattle.felm_plans.specs.Plans.{Planned}
use Rattle.felm_plans.proofs.Graphs.{plan_keeps}
use Rattle.felm_cli.specs.declared.words.Command.{Command}
use Rattle.felm_cli.specs.Words.{Texts, OrderValue}
use Rattle.felm_cli.specs.Texts.{first_long, texts_under, text_of, plan_under, IsPlanOf, OfPlan}

-- texts that aren't too long have a plan, of which this holds
abbrev HasPlan : OrderValue → (Command → PlanValue → Type 0) → Texts → Type 0
HasPlan order P texts = (first_long texts ≡ None) × ((plan : Planned) × IsPlanOf order texts plan × P order.command (plan_under order.limits plan))

-- what follows of each plan follows of that of an order
pub further : (bytes : List ℕ → Option (List ℕ)) (order : OrderValue) (P Q : Command → PlanValue → Type 0)
    → ((plan : PlanValue) → IsGraph plan.graph → NamesInputs plan.graph.nodes plan.script → P order.command plan → Q order.command plan)
    → OfPlan bytes (Some order) P → OfPlan bytes (Some order) Q
further bytes order P Q f = go (texts_under bytes order.texts)
  where
    go : (o : Option Texts) → IfSome o (HasPlan order P) → IfSome o (HasPlan order Q)
    go None h = tt
    go (Some texts) h =
        let plan = h.1.0 in
        let kept = plan_keeps (text_of Program texts) (text_of Script texts) order.limits.stage_steps plan h.1.1 in
        (h.0, (plan, h.1.1, f (plan_under order.limits plan) kept.0 kept.1 h.1.2))
