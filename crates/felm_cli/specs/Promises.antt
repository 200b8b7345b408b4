-- What the statuses of a call promise, each in the words of its cause.
use Rattle.std.specs.Prelude.{◌≡◌, ◌⊎◌, ℕ, ⊤, ◌<◌, ◌≤◌, List, [], Option, Some, None, Result, Ok, Err, length, IsSomeAnd}
use Rattle.std.specs.Io.KnownBytes.{Appends}
use Rattle.felm_io.specs.Causes.{Rose, AppendsPrefix}
use Rattle.felm_term.specs.declared.event.Event.{Event}
use Rattle.felm_meaning.specs.Meaning.{row, IsThere}
use Rattle.felm_meaning.specs.Journals.{IsLeastNone}
use Rattle.felm_meaning.specs.Words.{HasCauses}
use Rattle.felm_meaning.specs.Ends.{IsOverDefault}
use Rattle.felm_meaning.specs.PlanValue.{PlanValue}
use Rattle.felm_meaning.specs.OfPlans.{msg_for, IsLegalFor, IsCompleteFor, IsStoppedFor, IsFullFor, plain_journal_for}
use Rattle.felm_printer.specs.declared.result.Closing.{Closing}
use Rattle.felm_printer.specs.declared.result.Closing.TheVariants as closing
use Rattle.felm_printer.specs.declared.status.Status.{Status}
use Rattle.felm_printer.specs.declared.status.Status.TheVariants.{Success, Read, TooLong, Turn, Write, Memory}
use Rattle.felm_printer.specs.declared.status.Which.{Which}
use Rattle.felm_printer.specs.Results.{result_text, stopped_text}
use Rattle.felm_printer.specs.Graphs.{graph_text}
use Rattle.felm_plans.specs.Plans.{Planned}
use Rattle.felm_cli.specs.declared.words.Command.{Command}
use Rattle.felm_cli.specs.declared.words.Command.TheVariants.{Sync, Graph, Run}
use Rattle.felm_cli.specs.Words.{Texts, OrderValue, file_of}
use Rattle.felm_cli.specs.Texts.{first_long, texts_under, plan_under, IsPlanOf, AreJudged}
use Rattle.felm_cli.specs.Ends.{Leaves, LeavesText}

-- ---- what is appended

-- the journal of a run: on one thread it is the plain one
abbrev pub IsJournalOf : Command → PlanValue → List Event → Type 0
IsJournalOf Sync plan j = j ≡ plain_journal_for plan
IsJournalOf command plan j = ⊤

-- a complete journal, in which each event of an async comes after its cause, and the result text over it, closed by `end`; of the command
-- `graph`, the graph's text
abbrev pub HaveResult : Option (List ℕ) → Option (List ℕ) → Command → PlanValue → Type 0
HaveResult out out' Graph plan = Appends out out' (graph_text plan.graph)
HaveResult out out' command plan =
    (j : List Event) × IsJournalOf command plan j × IsCompleteFor plan j × HasCauses plan.graph plan.budget j
    × Appends out out' (result_text plan.graph plan.budget j closing.End)

-- where a run stops: on one thread at its last event, at the least node without a message there; position 0 is before the first event
abbrev pub IsStopOf : Command → PlanValue → List Event → ℕ → ℕ → Type 0
IsStopOf Sync plan j node position = (position ≡ length j) × IsLeastNone plan.graph (row plan.graph plan.budget j position) node
IsStopOf command plan j node position = position ≡ 0 → j ≡ []

-- a legal journal, over which the call of this node at this position is over budget, and its stopped text; position 0 is a default
abbrev pub HaveStop : ℕ → ℕ → Option (List ℕ) → Option (List ℕ) → Command → PlanValue → Type 0
HaveStop node position out out' Graph plan = ⊥
HaveStop node position out out' command plan =
    (j : List Event) × IsJournalOf command plan j × IsStoppedFor plan j node position × IsStopOf command plan j node position
    × Appends out out' (stopped_text plan.graph j node position)

-- a journal that is full too early, and the result text over it, closed by `full`
abbrev pub HaveFull : Option (List ℕ) → Option (List ℕ) → Command → PlanValue → Type 0
HaveFull out out' Graph plan = ⊥
HaveFull out out' command plan =
    (j : List Event) × IsJournalOf command plan j × IsFullFor plan j
    × Appends out out' (result_text plan.graph plan.budget j closing.Full)

-- a prefix of a text that the command may leave
abbrev pub HavePrefix : Option (List ℕ) → Option (List ℕ) → Command → PlanValue → Type 0
HavePrefix out out' command plan = (status : Status) × (text : List ℕ) × Leaves command plan status text × AppendsPrefix out out' text

-- ---- exactness

-- the words give this order, and these are the bytes of its texts
abbrev pub Give : (List ℕ → Option (List ℕ)) → Option OrderValue → OrderValue → Texts → Type 0
Give bytes words order texts = (words ≡ Some order) × (texts_under bytes order.texts ≡ Some texts)

-- a command that runs its plan
abbrev pub IsRun : Command → Type 0
IsRun Graph = ⊥
IsRun command = ⊤

-- the end to which a command surely comes: on one thread there is one; with workers that of a plan without a default is sure
abbrev pub IsSure : Command → PlanValue → Status → Type 0
IsSure Run plan status = (node : ℕ) × IsOverDefault plan.graph plan.budget [] node × (status ≡ Turn node 0)
IsSure command plan status = (text : List ℕ) × Leaves command plan status text

-- a fault is told, and of a plan the end that is sure
abbrev pub IsTold : OrderValue → Result Planned Status → Status → Type 0
IsTold order (Ok plan) expected = IsSure order.command (plan_under order.limits plan) expected
IsTold order (Err fault) expected = expected ≡ fault

-- what an order's texts come to, where they can be loaded and their result can be put
abbrev pub ComeTo : OrderValue → Texts → Status → Type 0
ComeTo order texts expected = (judged : Result Planned Status) × AreJudged order texts judged × IsTold order judged expected

-- the status is the expected one, unless a load failed, a put of its text failed, or there was no memory
abbrev pub Answers : Status → Status → Type 0
Answers expected (Read which) = ⊤
Answers expected Write = LeavesText expected
Answers expected Memory = ⊤
Answers expected status = status ≡ expected

-- texts that aren't too long, and have a plan, of which this holds
abbrev pub AreOfPlan : OrderValue → Texts → (PlanValue → Type 0) → Type 0
AreOfPlan order texts P = (first_long texts ≡ None) × ((plan : Planned) × IsPlanOf order texts plan × P (plan_under order.limits plan))

-- a command that runs their plan, and its least node without a default
abbrev pub LackDefault : OrderValue → Texts → ℕ → Type 0
LackDefault order texts node = IsRun order.command × AreOfPlan order texts (λ plan. IsOverDefault plan.graph plan.budget [] node)

-- ---- completeness

-- no load of a file of an order failed, and no put
abbrev pub NoneFailed : (List ℕ → ℕ) → (List ℕ → ℕ) → ℕ → ℕ → OrderValue → Type 0
NoneFailed loads loads' puts puts' order =
    ((which : Which) → ¬ IsSomeAnd (file_of which order) (λ name. Rose (loads name) (loads' name))) × ¬ Rose puts puts'

-- a text over this journal is appended
abbrev pub IsShown : PlanValue → List Event → Option (List ℕ) → Option (List ℕ) → Type 0
IsShown plan j out out' =
    ((closing : Closing) × Appends out out' (result_text plan.graph plan.budget j closing))
    ⊎ ((node position : ℕ) × Appends out out' (stopped_text plan.graph j node position))

-- the journal that is reached: on one thread the plain one; with workers the legal one that is shown
abbrev pub IsReached : Command → PlanValue → List Event → Option (List ℕ) → Option (List ℕ) → Type 0
IsReached Run plan j out out' = IsLegalFor plan j × IsShown plan j out out'
IsReached command plan j out out' = IsJournalOf command plan j

-- every default and every message of a plan is there over a journal
abbrev pub AllWithinBudget : PlanValue → List Event → Type 0
AllWithinBudget plan j = (k p : ℕ) → k < length plan.graph.nodes → p ≤ length j → IsThere (msg_for plan j k p)

-- no legal journal of the plan is longer than the limit
abbrev pub JournalSuffices : PlanValue → Type 0
JournalSuffices plan = (j : List Event) → IsLegalFor plan j → length j ≤ plan.limit

-- a plan that a command can do whole: every turn over the journal that is reached is within its budget, and no legal journal is longer
-- than the limit; every graph can be printed
abbrev pub IsDoable : Option (List ℕ) → Option (List ℕ) → Command → PlanValue → Type 0
IsDoable out out' Graph plan = ⊤
IsDoable out out' command plan = ((j : List Event) → IsReached command plan j out out' → AllWithinBudget plan j) × JournalSuffices plan

-- the texts of an order that can be done whole
abbrev pub CanBeDone : Option (List ℕ) → Option (List ℕ) → OrderValue → Texts → Type 0
CanBeDone out out' order texts = AreOfPlan order texts (IsDoable out out' order.command)
