-- The texts of an order: their lengths, and what they come to.
use Rattle.std.specs.Prelude.{◌≡◌, ◌⊎◌, ℕ, Bool, true, false, List, [], ◌∷◌, length, nat_le, Option, Some, None, Result, Ok, Err, IfSome, IsSomeAnd, if◌then◌else◌}
use Rattle.std.specs.Option.{option_map, option_and_then, unwrap_or}
use Rattle.std.specs.Map.{lookup}
use Rattle.felm_term.specs.declared.limits.Limits.{Limits}
use Rattle.felm_meaning.specs.PlanValue.{PlanValue}
use Rattle.felm_printer.specs.declared.status.Status.{Status}
use Rattle.felm_printer.specs.declared.status.Status.TheVariants.{TooLong}
use Rattle.felm_printer.specs.declared.status.Which.{Which}
use Rattle.felm_printer.specs.declared.status.Which.TheVariants.{Program, Script}
use Rattle.felm_plans.specs.Plans.{Planned, HavePlan, IsPlanFault, ComeTo}
use Rattle.felm_cli.specs.declared.words.Command.{Command}
use Rattle.felm_cli.specs.Words.{Texts, OrderValue, is_kind}

-- ---- lengths

-- how many bytes a text of this kind may have
abbrev pub most_bytes : Which → ℕ
most_bytes Program = 16777216
most_bytes Script = 16777216

abbrev pub is_within : Which → List ℕ → Bool
is_within which text = nat_le (length text) (most_bytes which)

-- the first of these texts that is too long
abbrev pub first_long : Texts → Option Which
first_long [] = None
first_long (text ∷ texts) = if is_within text.0 text.1 then first_long texts else Some text.0

-- of the texts under these names this is the first that is too long, as far as their bytes are known
abbrev pub IsFirstLong : (List ℕ → Option (List ℕ)) → Texts → Which → Type 0
IsFirstLong bytes [] which = ⊥
IsFirstLong bytes (name ∷ names) which =
    IfSome (bytes name.1) (λ text. ((is_within name.0 text ≡ false) × (which ≡ name.0)) ⊎ ((is_within name.0 text ≡ true) × IsFirstLong bytes names which))

-- ---- bytes

-- the texts under these names, where the bytes of each are known
abbrev pub texts_under : (List ℕ → Option (List ℕ)) → Texts → Option Texts
texts_under bytes [] = Some []
texts_under bytes (name ∷ names) =
    option_and_then (λ text. option_map (λ texts. (name.0, text) ∷ texts) (texts_under bytes names)) (bytes name.1)

-- the text of a kind, and an empty one where there is none
abbrev pub text_of : Which → Texts → List ℕ
text_of which texts = unwrap_or (lookup (is_kind which) texts) []

-- ---- what texts come to

-- the program and the script have this plan; an order without a script has an empty one
abbrev pub IsPlanOf : OrderValue → Texts → Planned → Type 0
IsPlanOf order texts plan = HavePlan (text_of Program texts) (text_of Script texts) order.limits.stage_steps plan

-- they have none, for this reason
abbrev pub IsFaultOf : OrderValue → Texts → Status → Type 0
IsFaultOf order texts status = IsPlanFault order.limits.stage_steps (text_of Program texts) (text_of Script texts) status

-- the plan of these texts, or why they have none: what this text that is too long says, or else what the program and the script come to
abbrev pub AreJudgedBy : Option Which → OrderValue → Texts → Result Planned Status → Type 0
AreJudgedBy (Some which) order texts judged = judged ≡ Err (TooLong which)
AreJudgedBy None order texts judged = ComeTo order.limits.stage_steps (text_of Program texts) (text_of Script texts) judged

-- the first that applies
abbrev pub AreJudged : OrderValue → Texts → Result Planned Status → Type 0
AreJudged order texts judged = AreJudgedBy (first_long texts) order texts judged

-- a plan under limits
abbrev pub plan_under : Limits → Planned → PlanValue
plan_under limits plan =
    record { graph = plan.graph; script = plan.script; budget = limits.turn_steps; limit = limits.journal; capacity = limits.edge }

-- ---- of the words of a call

-- they give an order, of which this holds
abbrev pub OfOrder : Option OrderValue → (OrderValue → Type 0) → Type 0
OfOrder None P = ⊥
OfOrder (Some order) P = P order

-- they give an order; where the bytes of its texts are known, none is too long, and this holds of them
abbrev pub OfTexts : (List ℕ → Option (List ℕ)) → Option OrderValue → (OrderValue → Texts → Type 0) → Type 0
OfTexts bytes words P = OfOrder words (λ order. IfSome (texts_under bytes order.texts) (λ texts. (first_long texts ≡ None) × P order texts))

-- and they have a plan, of which this holds under the limits of the order
abbrev pub OfPlan : (List ℕ → Option (List ℕ)) → Option OrderValue → (Command → PlanValue → Type 0) → Type 0
OfPlan bytes words P =
    OfTexts bytes words (λ order texts. (plan : Planned) × IsPlanOf order texts plan × P order.command (plan_under order.limits plan))
