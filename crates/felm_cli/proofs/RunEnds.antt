-- How the run of a plan ends: that the end of its plain journal is an end of the plan, and what an end says of its journal.
use Rattle.std.proofs.Common.{◌≡◌, ℕ, zero, suc, ◌<◌, ◌≤◌, List, [], ◌∷◌, ◌++◌, Option, Some, None, length, take, refl, sym, ap, ◌∙◌, subst, arith, inl, inr}
use Rattle.std.proofs.lemmas.List.{length-append}
use Rattle.std.proofs.lemmas.Option.{none-some}
use Rattle.felm_term.specs.Values.{value_of}
use Rattle.felm_term.specs.declared.event.Event.{Event}
use Rattle.felm_term.specs.declared.message.Message.{Message}
use Rattle.felm_graph.specs.Graphs.{IsGraph}
use Rattle.felm_meaning.specs.declared.history.History.{History}
use Rattle.felm_meaning.specs.declared.history.RunEnd.{RunEnd}
use Rattle.felm_meaning.specs.declared.history.RunEnd.TheVariants.{Complete, Stopped, Full}
use Rattle.felm_meaning.specs.Meaning.{row, at, msg, val, value_at, sends, IsThere}
use Rattle.felm_meaning.specs.Journals.{NamesInputs, AllThere, next}
use Rattle.felm_meaning.specs.Words.{IsNext}
use Rattle.felm_meaning.specs.Ends.{IsUnfinished}
use Rattle.felm_meaning.specs.Histories.{IsHistory, IsHistoryFor, IsStoppedAt, IsConcluded}
use Rattle.felm_meaning.specs.PlanValue.{PlanValue}
use Rattle.felm_meaning.specs.OfPlans.{DefaultsThereFor, IsCompleteFor, IsStoppedFor, IsFullFor, plain_journal_for}
use Rattle.felm_meaning.proofs.Rows.{item_within}
use Rattle.felm_meaning.proofs.Plain.{plain-is}
use Rattle.felm_meaning.proofs.Legal.{legal-next, next-is, async_is_source, source_within}
use Rattle.felm_meaning.proofs.Edges.{edge-holds}
use Rattle.felm_plain.specs.Ends.{IsEndFor}
use Rattle.felm_plain.proofs.EndLaws.{complete_is_complete, stopped_is_stopped, full_is_full}
use Rattle.felm_cli.specs.Ends.{IsPrintable}
use Rattle.felm_cli.specs.Promises.{AllWithinBudget, JournalSuffices}

pub empty : {X : Type 0} (xs : List X) → length xs ≡ 0 → xs ≡ []
empty [] h = refl
empty (x ∷ xs) h = absurd (omega arith)

value_there : (m : Option Message) → IsThere m → IsThere (value_at m)
value_there None h = absurd (none-some h.0 h.1)
value_there (Some m) h = (value_of m, refl)

module _ (plan : PlanValue) where
  -- ---- the plain journal's end

  -- every default is there where the plain journal has an event
  defaults_there : 0 < length (plain_journal_for plan) → DefaultsThereFor plan
  unfolding val msg
  defaults_there within k l =
      let first = item_within (plain_journal_for plan) 0 within in
      let there : AllThere plan.graph plan.budget [] =
      ((plain-is plan.graph plan.budget plan.script plan.limit).steps 0 first.0 first.1).0 in
      value_there (at (row plan.graph plan.budget [] 0) k) (there k l)

  history_for : (h : History) → IsHistory plan.graph plan.budget (plain_journal_for plan) h → IsHistoryFor plan h
  history_for h is = subst (λ (j : List Event). IsHistory plan.graph plan.budget j h) (sym is.journal) is

  stopped_at : (j : List Event) (node position : ℕ) → j ≡ plain_journal_for plan → position ≡ length (plain_journal_for plan)
      → IsStoppedFor plan j node position → IsStoppedAt plan j node position
  stopped_at j node position same e stopped = record {
    stopped = stopped;
    before_events = λ z. empty j (ap length same ∙ sym e ∙ z);
    past_defaults = λ l. defaults_there (omega arith);
  }

  module _ (graph : IsGraph plan.graph) (named : NamesInputs plan.graph.nodes plan.script) where
    pub plain_concluded : (end : RunEnd) → IsEndFor plan end → IsConcluded plan end
    plain_concluded (Complete h) e =
        (complete_is_complete plan.graph plan.budget plan.script plan.limit graph named h e, history_for h e.0)
    plain_concluded (Stopped i node position) e =
        stopped_at i.items node position e.0 e.1
        (stopped_is_stopped plan.graph plan.budget plan.script plan.limit graph named i node position e)
    plain_concluded (Full h) e =
        (full_is_full plan.graph plan.budget plan.script plan.limit graph named h e, history_for h e.0)

  -- ---- its text can be made

  one_message_each : (j : List Event) (k : ℕ) → ((p : ℕ) → p ≤ length j → IsThere (msg plan.graph plan.budget j k p))
      → length (sends plan.graph plan.budget j k (length j)) ≡ length j
  one_message_each j k there =
      let held = edge-holds plan.graph plan.budget j k 0 (length j) (omega arith) (λ p l. there (suc p) (omega arith)) in
      omega (arith, held.0)

  pub complete_printable : IsGraph plan.graph → (h : History) → IsCompleteFor plan h.journal.items × IsHistoryFor plan h → IsPrintable plan h
  complete_printable graph h c = record {
    sources = c.0.legal.sources;
    one_each = ap length c.1.outputs ∙ one_message_each h.journal.items plan.graph.main (λ p l. c.0.there plan.graph.main p graph.main_there l);
    history = c.1;
  }

  pub full_printable : IsGraph plan.graph → (h : History) → IsFullFor plan h.journal.items × IsHistoryFor plan h → IsPrintable plan h
  full_printable graph h c = record {
    sources = c.0.legal.sources;
    one_each = ap length c.1.outputs ∙ one_message_each h.journal.items plan.graph.main (λ p l. c.0.there plan.graph.main p graph.main_there l);
    history = c.1;
  }

  -- ---- where it can be done whole

  -- no turn is over budget
  pub none_stops : (j : List Event) (node position : ℕ) → IsStoppedFor plan j node position → AllWithinBudget plan j → ⊥
  unfolding val
  none_stops j node zero s all = let t = all node 0 s.over.node (omega arith) in none-some _ (sym s.over.none ∙ ap value_at t.1)
  none_stops j node (suc p) s all =
      let within : p < length j = s.over.within in
      let t = all node (suc p) s.over.node (omega arith) in none-some t.0 (sym s.over.none ∙ t.1)

  none_left : (j : List Event) → IsNext plan.graph plan.budget plan.script j None → IsUnfinished plan.graph plan.budget plan.script j → ⊥
  none_left j (waits, used) (inl l) = omega arith
  none_left j (waits, used) (inr (a, w)) = waits a (source_within plan.graph.nodes a (async_is_source plan.graph.nodes a w.0 w.1).0) w

  -- and no journal is full
  pub none_is_full : NamesInputs plan.graph.nodes plan.script → (j : List Event) → IsFullFor plan j → JournalSuffices plan → ⊥
  none_is_full named j full enough = go (next plan.graph plan.budget plan.script j) refl
    where
      go : (o : Option Event) → next plan.graph plan.budget plan.script j ≡ o → ⊥
      go None q = none_left j (subst (IsNext plan.graph plan.budget plan.script j) q (next-is plan.graph plan.budget plan.script j)) full.unfinished
      go (Some e) q =
          let long : length (j ++ e ∷ []) ≤ plan.limit =
          enough (j ++ e ∷ []) (legal-next plan.graph plan.budget plan.script j e named full.legal q) in
          let at_limit : length j ≡ plan.limit = full.length_is in
          omega (arith, length-append j (e ∷ []))
