-- The texts of an order come to at most one status.
use Rattle.std.proofs.Common.{◌≡◌, ℕ, zero, suc, ◌<◌, ◌≤◌, ◌⊎◌, inl, inr, List, [], Option, Some, None, length, refl, sym, ap, ◌∙◌, subst, arith}
use Rattle.std.specs.Prelude.{Result, Ok, Err}
use Rattle.std.proofs.lemmas.Bool.{cases_lt}
use Rattle.std.proofs.lemmas.Option.{none-some}
use Rattle.felm_term.specs.Spared.{Spared}
use Rattle.felm_term.specs.Values.{value_of}
use Rattle.felm_term.specs.declared.event.Event.{Event}
use Rattle.felm_term.specs.declared.message.Message.{Message}
use Rattle.felm_meaning.specs.declared.history.RunEnd.{RunEnd}
use Rattle.felm_meaning.specs.declared.history.RunEnd.TheVariants.{Complete, Stopped, Full}
use Rattle.felm_meaning.specs.Meaning.{row, at, msg, val, value_at, IsThere}
use Rattle.felm_meaning.specs.Journals.{IsLeastNone}
use Rattle.felm_meaning.specs.Ends.{IsOverDefault}
use Rattle.felm_meaning.specs.Histories.{IsConcluded}
use Rattle.felm_meaning.specs.PlanValue.{PlanValue}
use Rattle.felm_meaning.specs.OfPlans.{plain_journal_for}
use Rattle.felm_meaning.proofs.Plain.{plain-only}
use Rattle.felm_plain.specs.Laws.{SameEnd}
use Rattle.felm_plain.proofs.EndLaws.{ends_once}
use Rattle.felm_printer.specs.declared.status.Status.{Status}
use Rattle.felm_printer.specs.declared.status.Status.TheVariants.{Success, Turn, Journal}
use Rattle.felm_printer.specs.declared.status.Which.{Which}
use Rattle.felm_printer.specs.declared.status.Which.TheVariants.{Program, Script}
use Rattle.felm_printer.specs.Results.{stopped_text}
use Rattle.felm_plans.specs.Plans.{Planned}
use Rattle.felm_plans.proofs.Outcomes.{one_outcome}
use Rattle.felm_cli.specs.declared.words.Command.{Command}
use Rattle.felm_cli.specs.declared.words.Command.TheVariants.{Sync, Graph, Run}
use Rattle.felm_cli.specs.Words.{Texts, OrderValue}
use Rattle.felm_cli.specs.Texts.{first_long, text_of, plan_under, AreJudgedBy, AreJudged}
use Rattle.felm_cli.specs.Ends.{IsTextOfEnd, Leaves, LeavesText}
use Rattle.felm_cli.specs.Promises.{IsSure, IsTold}
use Rattle.felm_cli.specs.Laws.{TextsComeToOneEnd}

-- ---- the end that is sure

module _ (plan : PlanValue) where
  -- equal ends have one status
  one_status : (e f : RunEnd) (a b : Status) (x y : List ℕ) → SameEnd e f → IsTextOfEnd plan e a x → IsTextOfEnd plan f b y → b ≡ a
  one_status (Complete h) (Complete k) a b x y same s t = t.0 ∙ sym s.0
  one_status (Stopped i node position) (Stopped i' node' position') a b x y same s t =
      t.0 ∙ ap (λ k. Turn k position') (sym same.1) ∙ ap (Turn node) (sym same.2) ∙ sym s.0
  one_status (Full h) (Full k) a b x y same s t = t.0 ∙ sym s.0
  one_status (Complete h) _ a b x y same s t = absurd same
  one_status (Stopped i node position) _ a b x y same s t = absurd same
  one_status (Full h) _ a b x y same s t = absurd same

  one_plain : (a b : Status) (x y : List ℕ) → Leaves Sync plan a x → Leaves Sync plan b y → b ≡ a
  one_plain a b x y h k =
      one_status h.0 k.0 a b x y (ends_once plan.graph plan.budget (plain_journal_for plan) plan.script plan.limit h.0 k.0 h.1 k.1) h.2 k.2

  -- the least node without a default is one, whatever the journal
  one_default : (i j : List Event) (k l : ℕ) → IsOverDefault plan.graph plan.budget i k → IsOverDefault plan.graph plan.budget j l → l ≡ k
  unfolding val msg row
  one_default i j k l h w = go (cases_lt k l) (cases_lt l k)
    where
      go : (k < l) ⊎ (l ≤ k) → (l < k) ⊎ (k ≤ l) → l ≡ k
      go (inl s) c = let t = w.least k s in absurd (none-some t.0 (sym h.none ∙ t.1))
      go (inr s) (inl u) = let t = h.least l u in absurd (none-some t.0 (sym w.none ∙ t.1))
      go (inr s) (inr u) = omega arith

  no_default : (node : ℕ) → IsOverDefault plan.graph plan.budget [] node → (j : List Event) → IsThere (msg plan.graph plan.budget j node 0) → ⊥
  unfolding val msg row
  no_default node over j t = none-some (value_of t.0) (sym over.none ∙ ap value_at t.1)

  -- with workers too a run stops at once where a default is none
  over_alone : (node : ℕ) → IsOverDefault plan.graph plan.budget [] node → (status : Status) (text : List ℕ) → Leaves Run plan status text
      → status ≡ Turn node 0
  over_alone node over status text h = go h.0 h.1 h.2
    where
      go : (end : RunEnd) → IsConcluded plan end → IsTextOfEnd plan end status text → status ≡ Turn node 0
      go (Complete h) c t = absurd (no_default node over h.journal.items (c.0.there node 0 over.node (omega arith)))
      go (Full h) c t = absurd (no_default node over h.journal.items (c.0.there node 0 over.node (omega arith)))
      go (Stopped i k zero) c t = t.0 ∙ ap (λ n. Turn n 0) (one_default [] i.items node k over c.stopped.over)
      go (Stopped i k (suc p)) c t = let d = c.past_defaults (omega arith) node over.node in absurd (none-some d.0 (sym over.none ∙ d.1))

  -- the status of what is left is the one that is sure
  pub sure_once : (command : Command) (expected status : Status) (text : List ℕ) → IsSure command plan expected → Leaves command plan status text
      → status ≡ expected
  sure_once Sync expected status text s h = one_plain expected status s.0 text s.1 h
  sure_once Graph expected status text s h = h.0 ∙ sym s.1.0
  sure_once Run expected status text s h = over_alone s.0 s.1 status text h ∙ sym s.2

  sure_alone : (command : Command) (one other : Status) → IsSure command plan one → IsSure command plan other → one ≡ other
  sure_alone Sync one other h k = one_plain other one k.0 h.0 k.1 h.1
  sure_alone Graph one other h k = h.1.0 ∙ sym k.1.0
  sure_alone Run one other h k = h.2 ∙ ap (λ n. Turn n 0) (one_default [] [] k.0 h.0 k.1 h.1) ∙ sym k.2

  text_leaves : (end : RunEnd) (status : Status) (text : List ℕ) → IsTextOfEnd plan end status text → LeavesText status
  text_leaves (Complete h) status text t = subst LeavesText (sym t.0) tt
  text_leaves (Stopped i node position) status text t = subst LeavesText (sym t.0) tt
  text_leaves (Full h) status text t = subst LeavesText (sym t.0) tt

  pub sure_leaves : (command : Command) (status : Status) → IsSure command plan status → LeavesText status
  sure_leaves Sync status s = text_leaves s.1.0 status s.0 s.1.2
  sure_leaves Graph status s = subst LeavesText (sym s.1.0) tt
  sure_leaves Run status s = subst LeavesText (sym s.2) tt

  -- ---- a default over budget

  least_of_row : (node : ℕ) → IsOverDefault plan.graph plan.budget [] node → IsLeastNone plan.graph (row plan.graph plan.budget [] 0) node
  unfolding val msg
  least_of_row node over = (
    over.node,
    no_value (at (row plan.graph plan.budget [] 0) node) over.none,
    λ a l. a_value (at (row plan.graph plan.budget [] 0) a) (over.least a l),
  )
    where
      no_value : (m : Option Message) → value_at m ≡ None → m ≡ None
      no_value None h = refl
      no_value (Some m) h = cc

      a_value : (m : Option Message) → IsThere (value_at m) → IsThere m
      a_value None h = absurd (none-some h.0 h.1)
      a_value (Some m) h = (m, refl)

  -- where a default is none, no event enters
  nothing_enters : (node : ℕ) → IsLeastNone plan.graph (row plan.graph plan.budget [] 0) node → [] ≡ plain_journal_for plan
  unfolding msg
  nothing_enters node least =
      plain-only plan.graph plan.budget plan.script [] plan.limit (record {
        steps = λ n e h. cc;
        ends = λ all l. let t = all node least.0 in absurd (none-some t.0 (sym least.1 ∙ t.1));
      })

  -- and the run stops at the least node without one
  pub default_stops : (node : ℕ) → IsOverDefault plan.graph plan.budget [] node → Leaves Sync plan (Turn node 0) (stopped_text plan.graph [] node 0)
  default_stops node over =
      let least = least_of_row node over in
      let empty = nothing_enters node least in
      let journal : Spared Event = record { items = []; spare = 0 } in (
        Stopped journal node 0,
        (empty, ap length empty, subst (λ (es : List Event). IsLeastNone plan.graph (row plan.graph plan.budget es (length es)) node) empty least),
        (refl, refl),
      )

-- ---- texts

pub one_judged : (order : OrderValue) (texts : Texts) (one other : Result Planned Status) → AreJudged order texts one → AreJudged order texts other → one ≡ other
one_judged order texts one other = go (first_long texts)
  where
    go : (o : Option Which) → AreJudgedBy o order texts one → AreJudgedBy o order texts other → one ≡ other
    go (Some w) h k = h ∙ sym k
    go None h k = one_outcome order.limits.stage_steps (text_of Program texts) (text_of Script texts) one other h k

pub one_end : TextsComeToOneEnd
one_end order texts one other h k = told h.0 h.2 (subst (λ r. IsTold order r other) (sym (one_judged order texts h.0 k.0 h.1 k.1)) k.2)
  where
    told : (r : Result Planned Status) → IsTold order r one → IsTold order r other → one ≡ other
    told (Ok plan) h k = sure_alone (plan_under order.limits plan) order.command one other h k
    told (Err status) h k = h ∙ sym k
