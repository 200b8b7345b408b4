-- What the outcome of an order says, clause by clause.
use Rattle.std.proofs.Common.{◌≡◌, ◌≢◌, ℕ, true, false, List, [], ◌∷◌, length, Option, Some, None, IfSome, refl, sym, ap, ◌∙◌, subst, ◌⊎◌, inl, inr}
use Rattle.std.specs.Prelude.{Result, Ok, Err, IsSomeAnd}
use Rattle.std.specs.Option.{option_map, option_and_then}
use Rattle.std.specs.Io.KnownBytes.{Appends, Keeps}
use Rattle.std.proofs.KnownBytes.{Keeps-refl}
use Rattle.felm_io.specs.Causes.{Rose, AppendsPrefix}
use Rattle.felm_term.specs.declared.event.Event.{Event}
use Rattle.felm_graph.specs.Graphs.{IsGraph}
use Rattle.felm_meaning.specs.Meaning.{row}
use Rattle.felm_meaning.specs.Journals.{NamesInputs, IsLeastNone}
use Rattle.felm_meaning.specs.declared.history.RunEnd.{RunEnd}
use Rattle.felm_meaning.specs.declared.history.RunEnd.TheVariants.{Complete, Stopped, Full}
use Rattle.felm_meaning.specs.Ends.{IsOverDefault}
use Rattle.felm_meaning.specs.Histories.{IsConcluded}
use Rattle.felm_meaning.specs.PlanValue.{PlanValue}
use Rattle.felm_meaning.specs.OfPlans.{plain_journal_for}
use Rattle.felm_meaning.proofs.Causes.{causes}
use Rattle.felm_plain.specs.Ends.{IsEndFor}
use Rattle.felm_printer.specs.declared.status.Status.{Status}
use Rattle.felm_printer.specs.declared.status.Status.TheVariants.{Success, Usage, Read, TooLong, Syntax, Typing, Script, Stage, Turn, Journal, Write, Memory}
use Rattle.felm_printer.specs.declared.status.Which.{Which}
use Rattle.felm_printer.specs.declared.status.Which.TheVariants as which
use Rattle.felm_plans.specs.Plans.{Planned}
use Rattle.felm_plans.proofs.Graphs.{plan_keeps}
use Rattle.felm_cli.specs.declared.words.Command.{Command}
use Rattle.felm_cli.specs.declared.words.Command.TheVariants.{Sync, Graph, Run}
use Rattle.felm_cli.specs.Words.{Texts, OrderValue, file_of}
use Rattle.felm_cli.specs.Outside.{FilesValue, SinkValue, CountsStay}
use Rattle.felm_cli.specs.Texts.{is_within, first_long, texts_under, text_of, IsFirstLong, plan_under, IsPlanOf, IsFaultOf, AreJudgedBy, AreJudged, OfOrder, OfTexts, OfPlan}
use Rattle.felm_cli.specs.Ends.{IsTextOfEnd, Leaves, LeavesText}
use Rattle.felm_cli.specs.Outcomes.{IsOfTexts, IsQuiet, NoPlan, HaveText, PutAs, whole, failed, without_memory, OrderOutcome, no_text, text_put}
use Rattle.felm_cli.specs.Promises.{HaveResult, HaveStop, HaveFull, HavePrefix, Give, IsSure, IsTold, ComeTo, Answers, IsRun, LackDefault, NoneFailed, IsReached, IsDoable, CanBeDone}
use Rattle.felm_cli.proofs.RunEnds.{plain_concluded, none_stops, none_is_full}
use Rattle.felm_cli.proofs.Exact.{sure_once, sure_leaves, one_judged, default_stops}
use Rattle.felm_cli.proofs.Outcomes.{further}

-- ---- texts that are put

module _ (out out' : Option (List ℕ)) where
  -- what a status that leaves a text promises of it
  abbrev HaveAs : Status → Command → PlanValue → Type 0
  HaveAs Success command plan = HaveResult out out' command plan
  HaveAs (Turn node position) command plan = HaveStop node position out out' command plan
  HaveAs Journal command plan = HaveFull out out' command plan
  HaveAs _ command plan = Unit {0}

  module _ (plan : PlanValue) where
    run_has : (end : RunEnd) (status : Status) (text : List ℕ) → IsConcluded plan end → IsTextOfEnd plan end status text → Appends out out' text
        → HaveAs status Run plan
    run_has (Complete h) status text c t a =
        subst (λ s. HaveAs s Run plan) (sym t.0)
        (h.journal.items, tt, c.0, causes plan.graph plan.budget h.journal.items c.0.legal.caused, subst (Appends out out') t.1 a)
    run_has (Stopped i node position) status text c t a =
        subst (λ s. HaveAs s Run plan) (sym t.0)
        (i.items, tt, c.stopped, c.before_events, subst (Appends out out') t.1 a)
    run_has (Full h) status text c t a =
        subst (λ s. HaveAs s Run plan) (sym t.0) (h.journal.items, tt, c.0, subst (Appends out out') t.1 a)

    -- where the run on one thread stops
    plain_stop : (j : List Event) (node position : ℕ) → j ≡ plain_journal_for plan
        → IsLeastNone plan.graph (row plan.graph plan.budget (plain_journal_for plan) position) node
        → IsLeastNone plan.graph (row plan.graph plan.budget j position) node
    plain_stop j node position same least = subst (λ (i : List Event). IsLeastNone plan.graph (row plan.graph plan.budget i position) node) (sym same) least

    sync_has : (end : RunEnd) (status : Status) (text : List ℕ) → IsConcluded plan end → IsEndFor plan end → IsTextOfEnd plan end status text
        → Appends out out' text → HaveAs status Sync plan
    sync_has (Complete h) status text c e t a =
        subst (λ s. HaveAs s Sync plan) (sym t.0)
        (h.journal.items, e.0.journal, c.0, causes plan.graph plan.budget h.journal.items c.0.legal.caused, subst (Appends out out') t.1 a)
    sync_has (Stopped i node position) status text c e t a =
        let least = subst (λ n. IsLeastNone plan.graph (row plan.graph plan.budget (plain_journal_for plan) n) node) (sym e.1) e.2 in
        subst (λ s. HaveAs s Sync plan) (sym t.0) (
          i.items,
          e.0,
          c.stopped,
          (e.1 ∙ sym (ap (λ (j : List Event). length j) e.0), plain_stop i.items node position e.0 least),
          subst (Appends out out') t.1 a,
        )
    sync_has (Full h) status text c e t a =
        subst (λ s. HaveAs s Sync plan) (sym t.0) (h.journal.items, e.0.journal, c.0, subst (Appends out out') t.1 a)

    have_of : (command : Command) (status : Status) (text : List ℕ) → IsGraph plan.graph → NamesInputs plan.graph.nodes plan.script
        → Leaves command plan status text → Appends out out' text → HaveAs status command plan
    have_of Graph status text graph named h a = subst (λ s. HaveAs s Graph plan) (sym h.0) (subst (Appends out out') h.1 a)
    have_of Sync status text graph named h a = sync_has h.0 status text (plain_concluded plan graph named h.0 h.1) h.1 h.2 a
    have_of Run status text graph named h a = run_has h.0 status text h.1 h.2 a

-- ---- what statuses say of themselves

-- a status that leaves a text is of no plan
quiet_leaves : (files files' : FilesValue) (order : OrderValue) (status : Status) → LeavesText status → NoPlan files files' order status → ⊥
quiet_leaves files files' order Success l n = n.0
quiet_leaves files files' order (Turn node position) l n = n.0
quiet_leaves files files' order Journal l n = n.0
quiet_leaves files files' order _ l n = absurd l

-- ---- lengths

-- the first text that is too long, by its name and by its bytes
first_is_long : (bytes : List ℕ → Option (List ℕ)) (names texts : Texts) (w : Which) → texts_under bytes names ≡ Some texts → IsFirstLong bytes names w
    → first_long texts ≡ Some w
first_is_long bytes [] texts w e h = absurd h
first_is_long bytes (name ∷ names) texts w e h = go (bytes name.1) (texts_under bytes names) refl e h (first_is_long bytes names)
  where
    go : (u : Option (List ℕ)) (v : Option Texts) → texts_under bytes names ≡ v
        → option_and_then (λ text. option_map (λ ts. (name.0, text) ∷ ts) v) u ≡ Some texts
        → IfSome u (λ text. ((is_within name.0 text ≡ false) × (w ≡ name.0)) ⊎ ((is_within name.0 text ≡ true) × IsFirstLong bytes names w))
        → ((ts : Texts) (w : Which) → texts_under bytes names ≡ Some ts → IsFirstLong bytes names w → first_long ts ≡ Some w) → first_long texts ≡ Some w
    go None v q e h ih = cc
    go (Some a) None q e h ih = cc
    go (Some a) (Some rest) q e (inl h) ih =
        let same : (name.0, a) ∷ rest ≡ texts = cc in
        subst (λ ts. first_long ts ≡ Some w) same (rw h.0 (ap Some (sym h.1)))
    go (Some a) (Some rest) q e (inr h) ih =
        let same : (name.0, a) ∷ rest ≡ texts = cc in
        subst (λ ts. first_long ts ≡ Some w) same (rw h.0 (ih rest w q h.1))

-- ---- plans that can be done

module _ (out out' : Option (List ℕ)) (plan : PlanValue) (graph : IsGraph plan.graph) (named : NamesInputs plan.graph.nodes plan.script) where
  sync_done : (end : RunEnd) (status : Status) (text : List ℕ) → IsConcluded plan end → IsEndFor plan end → IsTextOfEnd plan end status text
      → IsDoable out out' Sync plan → status ≡ Success
  sync_done (Complete h) status text c e t d = t.0
  sync_done (Stopped i node position) status text c e t d =
      absurd (none_stops plan i.items node position c.stopped (d.0 i.items e.0))
  sync_done (Full h) status text c e t d = absurd (none_is_full plan named h.journal.items c.0 d.1)

  run_done : (end : RunEnd) (status : Status) (text : List ℕ) → IsConcluded plan end → IsTextOfEnd plan end status text → Appends out out' text
      → IsDoable out out' Run plan → status ≡ Success
  run_done (Complete h) status text c t a d = t.0
  run_done (Stopped i node position) status text c t a d =
      absurd (none_stops plan i.items node position c.stopped (d.0 i.items (c.stopped.legal, inr (node, position, subst (Appends out out') t.1 a))))
  run_done (Full h) status text c t a d = absurd (none_is_full plan named h.journal.items c.0 d.1)

  done_well : (command : Command) (status : Status) (text : List ℕ) → Leaves command plan status text → Appends out out' text
      → IsDoable out out' command plan → status ≡ Success
  done_well Graph status text h a d = h.0
  done_well Sync status text h a d = sync_done h.0 status text (plain_concluded plan graph named h.0 h.1) h.1 h.2 d
  done_well Run status text h a d = run_done h.0 status text h.1 h.2 a d

-- a plan without a default surely stops there
sure_default : (plan : PlanValue) (command : Command) (node : ℕ) → IsRun command → IsOverDefault plan.graph plan.budget [] node
    → IsSure command plan (Turn node 0)
sure_default plan Graph node runs over = absurd runs
sure_default plan Sync node runs over = (_, default_stops plan node over)
sure_default plan Run node runs over = (node, over, refl)

-- ---- the clauses, of an order

module _ (files files' : FilesValue) (order : OrderValue) (out out' : SinkValue) where
  abbrev Outcome : Status → Type 0
  Outcome status = OrderOutcome files files' order out out' status

  -- whoever leaves a text has put it whole
  put_whole : (status : Status) → LeavesText status → Outcome status
      → (text : List ℕ) × HaveText files.bytes order status text × Appends out.bytes out'.bytes text × CountsStay out out'
  put_whole status l (no_text n same) = absurd (quiet_leaves files files' order status l n)
  put_whole status l (text_put end text have (whole e a c)) = (text, subst (λ s. HaveText files.bytes order s text) (sym e) have, a, c)
  put_whole status l (text_put end text have (failed e a r s)) = absurd (subst LeavesText e l)
  put_whole status l (text_put end text have (without_memory e a f)) = absurd (subst LeavesText e l)

  have_whole : (status : Status) → LeavesText status → Outcome status → OfPlan files.bytes (Some order) (HaveAs out.bytes out'.bytes status)
  have_whole status l h =
      let w = put_whole status l h in
      further files.bytes order (λ command plan. Leaves command plan status w.0) (HaveAs out.bytes out'.bytes status)
      (λ plan graph named leaves. have_of out.bytes out'.bytes plan order.command status w.0 graph named leaves w.2) w.1.1

  pub clause_success : (status : Status) → Outcome status → status ≡ Success → OfPlan files.bytes (Some order) (HaveResult out.bytes out'.bytes)
  clause_success status h e = have_whole Success tt (subst Outcome e h)

  pub clause_turn : (status : Status) → Outcome status → (node position : ℕ) → status ≡ Turn node position
      → OfPlan files.bytes (Some order) (HaveStop node position out.bytes out'.bytes)
  clause_turn status h node position e = have_whole (Turn node position) tt (subst Outcome e h)

  pub clause_journal : (status : Status) → Outcome status → status ≡ Journal → OfPlan files.bytes (Some order) (HaveFull out.bytes out'.bytes)
  clause_journal status h e = have_whole Journal tt (subst Outcome e h)

  -- ---- exactness

  module _ (texts : Texts) (known : texts_under files.bytes order.texts ≡ Some texts) where
    -- what holds of an order's texts
    at_texts : (P : OrderValue → Texts → Type 0) → OfTexts files.bytes (Some order) P → (first_long texts ≡ None) × P order texts
    at_texts P h = subst (λ o. IfSome o (λ ts. (first_long ts ≡ None) × P order ts)) known h

    -- and of their plan
    at_plan : (P : Command → PlanValue → Type 0) → OfPlan files.bytes (Some order) P
        → (first_long texts ≡ None) × ((plan : Planned) × IsPlanOf order texts plan × P order.command (plan_under order.limits plan))
    at_plan P h = at_texts (λ order texts. (plan : Planned) × IsPlanOf order texts plan × P order.command (plan_under order.limits plan)) h

    -- texts that aren't too long are judged by their plan or their fault
    judged : (r : Result Planned Status) → first_long texts ≡ None → AreJudgedBy None order texts r → AreJudged order texts r
    judged r e h = subst (λ o. AreJudgedBy o order texts r) (sym e) h

    -- the status of an order without a plan is of a load, or of no memory, or what its texts come to
    refusal : (status : Status) → NoPlan files files' order status
        → (((w : Which) × (status ≡ Read w)) ⊎ (status ≡ Memory)) ⊎ ((status ≢ Write) × AreJudged order texts (Err status))
    refusal (Read w) n = inl (inl (w, refl))
    refusal Memory n = inl (inr refl)
    refusal (TooLong w) n =
        inr (λ e. cc, subst (λ o. AreJudgedBy o order texts (Err (TooLong w))) (sym (first_is_long files.bytes order.texts texts w known n)) refl)
    refusal (Syntax cause at) n = let t = at_texts (λ order texts. IsFaultOf order texts (Syntax cause at)) n.1 in inr (λ e. cc, judged (Err (Syntax cause at)) t.0 t.1)
    refusal (Typing cause at) n = let t = at_texts (λ order texts. IsFaultOf order texts (Typing cause at)) n.1 in inr (λ e. cc, judged (Err (Typing cause at)) t.0 t.1)
    refusal (Script cause line) n = let t = at_texts (λ order texts. IsFaultOf order texts (Script cause line)) n.1 in inr (λ e. cc, judged (Err (Script cause line)) t.0 t.1)
    refusal (Stage cause) n = let t = at_texts (λ order texts. IsFaultOf order texts (Stage cause)) n.1 in inr (λ e. cc, judged (Err (Stage cause)) t.0 t.1)
    refusal _ n = absurd n.0

    -- of a plan that sure end is expected
    sure_of : (expected : Status) (plan : Planned) → ComeTo order texts expected → first_long texts ≡ None → IsPlanOf order texts plan
        → IsSure order.command (plan_under order.limits plan) expected
    sure_of expected plan c none is =
        subst (λ r. IsTold order r expected) (one_judged order texts c.0 (Ok plan) c.1 (judged (Ok plan) none is)) c.2

    answer_same : (expected status : Status) → status ≢ Write → status ≡ expected → Answers expected status
    answer_same expected (Read w) n e = tt
    answer_same expected Memory n e = tt
    answer_same expected Write n e = absurd (n refl)
    answer_same expected _ n e = e

    answers : (expected status : Status) → ComeTo order texts expected → Outcome status → Answers expected status
    answers expected status c (no_text n same) = go (refusal status n)
      where
        go : (((w : Which) × (status ≡ Read w)) ⊎ (status ≡ Memory)) ⊎ ((status ≢ Write) × AreJudged order texts (Err status)) → Answers expected status
        go (inl (inl (w, e))) = subst (Answers expected) (sym e) tt
        go (inl (inr e)) = subst (Answers expected) (sym e) tt
        go (inr (unwritten, j)) =
            answer_same expected status unwritten
            (sym (subst (λ r. IsTold order r expected) (one_judged order texts c.0 (Err status) c.1 j) c.2))
    answers expected status c (text_put end text have (whole e a l)) =
        let at = at_plan (λ command plan. Leaves command plan end text) have.1 in
        let sure = sure_of expected at.1.0 c at.0 at.1.1 in
        answer_same expected status (λ w. subst LeavesText (sym e ∙ w) have.0)
        (e ∙ sure_once (plan_under order.limits at.1.0) order.command expected end text sure at.1.2)
    answers expected status c (text_put end text have (failed e a r s)) =
        let at = at_plan (λ command plan. Leaves command plan end text) have.1 in
        let sure = sure_of expected at.1.0 c at.0 at.1.1 in
        subst (Answers expected) (sym e) (sure_leaves (plan_under order.limits at.1.0) order.command expected sure)
    answers expected status c (text_put end text have (without_memory e a f)) = subst (Answers expected) (sym e) tt

    -- ---- completeness

    completes : (status : Status) → CanBeDone out.bytes out'.bytes order texts → NoneFailed files.faults files'.faults out.faults out'.faults order
        → Outcome status → (status ≡ Success) ⊎ (status ≡ Memory)
    completes status can sound (no_text n same) = go (refusal status n)
      where
        go : (((w : Which) × (status ≡ Read w)) ⊎ (status ≡ Memory)) ⊎ ((status ≢ Write) × AreJudged order texts (Err status))
            → (status ≡ Success) ⊎ (status ≡ Memory)
        go (inl (inl (w, e))) = absurd (sound.0 w (subst (NoPlan files files' order) e n))
        go (inl (inr e)) = inr e
        go (inr (unwritten, j)) =
            let plan = can.1.0 in
            let e : Err status ≡ Ok plan = one_judged order texts (Err status) (Ok plan) j (judged (Ok plan) can.0 can.1.1) in cc
    completes status can sound (text_put end text have (whole e a l)) =
        let at = at_plan (λ command plan. Leaves command plan end text) have.1 in
        let plan = can.1.0 in
        let kept = plan_keeps (text_of which.Program texts) (text_of which.Script texts) order.limits.stage_steps plan can.1.1 in
        let same : Ok at.1.0 ≡ Ok plan =
        one_judged order texts (Ok at.1.0) (Ok plan) (judged (Ok at.1.0) at.0 at.1.1) (judged (Ok plan) can.0 can.1.1) in
        let plans : at.1.0 ≡ plan = cc in
        let leaves = subst (λ (p : Planned). Leaves order.command (plan_under order.limits p) end text) plans at.1.2 in
        inl (e ∙ done_well out.bytes out'.bytes (plan_under order.limits plan) kept.0 kept.1 order.command end text leaves a can.1.2)
    completes status can sound (text_put end text have (failed e a r s)) = absurd (sound.1 r)
    completes status can sound (text_put end text have (without_memory e a f)) = inr e

    -- a plan without a default stops there
    stops_there : (node : ℕ) → LackDefault order texts node → ComeTo order texts (Turn node 0)
    stops_there node lack =
        (Ok lack.1.1.0, judged (Ok lack.1.1.0) lack.1.0 lack.1.1.1, sure_default (plan_under order.limits lack.1.1.0) order.command node lack.0 lack.1.1.2)

  -- ---- of the order that the words give

  given_same : (given : OrderValue) (texts : Texts) → Give files.bytes (Some order) given texts → order ≡ given
  given_same given texts g = let e : Some order ≡ Some given = g.0 in cc

  given_texts : (given : OrderValue) (texts : Texts) → Give files.bytes (Some order) given texts → texts_under files.bytes order.texts ≡ Some texts
  given_texts given texts g = subst (λ (o : OrderValue). texts_under files.bytes o.texts ≡ Some texts) (sym (given_same given texts g)) g.1

  pub clause_exact : (status : Status) → Outcome status → (given : OrderValue) (texts : Texts) (expected : Status) → Give files.bytes (Some order) given texts
      → ComeTo given texts expected → Answers expected status
  clause_exact status h given texts expected g c =
      answers texts (given_texts given texts g) expected status (subst (λ o. ComeTo o texts expected) (sym (given_same given texts g)) c) h

  pub clause_default : (status : Status) → Outcome status → (given : OrderValue) (texts : Texts) (node : ℕ) → Give files.bytes (Some order) given texts
      → LackDefault given texts node → Answers (Turn node 0) status
  clause_default status h given texts node g lack =
      let known = given_texts given texts g in
      answers texts known (Turn node 0) status (stops_there texts known node (subst (λ o. LackDefault o texts node) (sym (given_same given texts g)) lack)) h

  pub clause_complete : (status : Status) → Outcome status → (given : OrderValue) (texts : Texts) → Give files.bytes (Some order) given texts
      → CanBeDone out.bytes out'.bytes given texts → NoneFailed files.faults files'.faults out.faults out'.faults given
      → (status ≡ Success) ⊎ (status ≡ Memory)
  clause_complete status h given texts g can sound =
      let same = sym (given_same given texts g) in
      completes texts (given_texts given texts g) status (subst (λ o. CanBeDone out.bytes out'.bytes o texts) same can)
      (subst (λ o. NoneFailed files.faults files'.faults out.faults out'.faults o) same sound) h
