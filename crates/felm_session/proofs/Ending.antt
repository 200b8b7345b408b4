-- Where nothing is left to do, the run has ended.
use Rattle.std.proofs.Common.{◌≡◌, ℕ, suc, zero, ◌+◌, ◌-◌, ◌*◌, ◌<◌, ◌≤◌, ◌⊎◌, inl, inr, Option, Some, None, List, [], ◌++◌, length, refl, sym, ap, ◌∙◌, subst, arith}
use Rattle.std.specs.List.{slice_get}
use Rattle.std.proofs.lemmas.Option.{none-some}
use Rattle.felm_term.specs.Spared.{Spared}
use Rattle.felm_term.specs.declared.value.Value.{Value}
use Rattle.felm_term.specs.declared.message.Message.{Message}
use Rattle.felm_term.specs.declared.event.Event.{Event}
use Rattle.felm_graph.specs.GraphValue.{GraphValue}
use Rattle.felm_graph.specs.Graphs.{IsGraph}
use Rattle.felm_meaning.specs.declared.plan.Plan.{Plan}
use Rattle.felm_meaning.specs.declared.history.History.{History}
use Rattle.felm_meaning.specs.declared.history.RunEnd.{RunEnd}
use Rattle.felm_meaning.specs.declared.history.RunEnd.TheVariants as end
use Rattle.felm_meaning.specs.Plans.{plan_of, SamePlan}
use Rattle.felm_meaning.specs.PlanValue.{PlanValue}
use Rattle.felm_meaning.specs.OfPlans.{val_for, sends_for, IsLegalFor, IsCompleteFor, IsFullFor, IsStoppedFor}
use Rattle.felm_meaning.specs.Meaning.{row, msg, val, IsThere}
use Rattle.felm_meaning.specs.Histories.{IsHistoryFor, IsConcluded, journal_of}
use Rattle.felm_meaning.specs.Presets.{IsPreset}
use Rattle.felm_meaning.specs.Ends.{IsOver}
use Rattle.felm_meaning.specs.declared.preset.Preset.TheVariants as preset
use Rattle.felm_meaning.proofs.Legal.{legal-nothing}
use Rattle.felm_core.specs.Positions.{StopValue, Position, done_at, IsSound, IsReady, IsSettled}
use Rattle.felm_core.specs.Contents.{settled_at, waiting_at, outputs_at, turning}
use Rattle.felm_core.specs.Moves.{Runs, beginning}
use Rattle.felm_core.proofs.Sticks.{never_sticks, settled_room, settled_shown}
use Rattle.felm_core.proofs.Runs.{run_sound}
use Rattle.felm_core.proofs.Scripted.{run_grows}
use Rattle.felm_core.proofs.Ends.{stop_is_over, rests_complete, rests_full}
use Rattle.felm_core.proofs.Measures.{settled_all}
use Rattle.felm_core.proofs.Stays.{begin_settled}
use Rattle.felm_engine.specs.EngineValue.{EngineValue}
use Rattle.felm_engine.specs.Answers.{planned, NoneOut, LacksRoom}
use Rattle.felm_session.specs.SessionValue.{SessionValue, script_of, IsInStep}
use Rattle.felm_session.specs.Answers.{IsLeft, Waits, NoneWaits, IsAtLimit}
use Rattle.felm_session.specs.Concluding.{RestsAt, GoesOn, Reaches}
use Rattle.felm_session.specs.declared.conclusion.Rest.{Rest}
use Rattle.felm_session.specs.declared.conclusion.Rest.TheVariants as rest
use Rattle.felm_session.proofs.Stepping.{cursor_counts}
use Rattle.felm_session.proofs.Running.{run_settles}

-- ---- a run never sticks

pub settled_where : (engine : EngineValue) → IsGraph engine.plan.graph → IsSound (planned engine) engine.position → NoneOut engine.position
    → engine.position.stop ≡ None → ((k : ℕ) → IsReady (planned engine) engine.position k → ⊥) → IsSettled (planned engine) engine.position
settled_where engine graph sound none no_stop unready =
    elim (never_sticks (planned engine) engine.position graph sound engine.plan.limits.edge_in_range.0 none no_stop) [
      | inl settled ↦ settled
      | inr w ↦ absurd (unready w.0 w.1)
    ]

pub settled_has_room : (engine : EngineValue) → IsGraph engine.plan.graph → IsSound (planned engine) engine.position
    → IsSettled (planned engine) engine.position → LacksRoom (planned engine) engine.position → ⊥
settled_has_room engine graph sound settled lacks =
    lacks.2 (settled_room (planned engine) engine.position graph sound engine.plan.limits.edge_in_range.0 settled lacks.0 lacks.1)

-- ---- why it rests

pub session_complete : (session : SessionValue) → IsGraph session.engine.plan.graph → IsSound (planned session.engine) session.engine.position
    → IsLegalFor (planned session.engine) session.engine.position.journal → IsInStep session.engine session.cursor
    → IsSettled (planned session.engine) session.engine.position → ((a : ℕ) → NoneWaits session.engine a)
    → session.cursor ≡ length (script_of session) → IsCompleteFor (planned session.engine) session.engine.position.journal
session_complete session graph sound legal step settled none used =
    let counts = cursor_counts session.engine session.cursor step in
    rests_complete (planned session.engine) session.engine.position graph sound legal settled (λ a l. none a) (omega (arith, counts, used))

pub left_full : (session : SessionValue) → IsGraph session.engine.plan.graph → IsSound (planned session.engine) session.engine.position
    → IsLegalFor (planned session.engine) session.engine.position.journal → IsInStep session.engine session.cursor
    → IsSettled (planned session.engine) session.engine.position → IsLeft session → IsAtLimit session.engine
    → IsFullFor (planned session.engine) session.engine.position.journal
left_full session graph sound legal step settled left full =
    let counts = cursor_counts session.engine session.cursor step in
    rests_full (planned session.engine) session.engine.position graph sound legal settled full (inl (omega (arith, counts, left)))

pub waiting_full : (engine : EngineValue) (a : ℕ) → IsGraph engine.plan.graph → IsSound (planned engine) engine.position
    → IsLegalFor (planned engine) engine.position.journal → IsSettled (planned engine) engine.position → Waits engine a → IsAtLimit engine
    → IsFullFor (planned engine) engine.position.journal
waiting_full engine a graph sound legal settled waits full =
    rests_full (planned engine) engine.position graph sound legal settled full (inr (a, waits.0, waits.1))

-- ---- ends

-- the default of a node doesn't depend on the journal
pub default_same : (g : GraphValue) (b : ℕ) (i j : List Event) (k : ℕ) → val g b i k 0 ≡ val g b j k 0
unfolding val msg row
default_same g b i j k = refl

pub stopped_end : (engine : EngineValue) (journal : Spared Event) (node position : ℕ) → IsGraph engine.plan.graph
    → IsSound (planned engine) engine.position → IsLegalFor (planned engine) engine.position.journal → journal.items ≡ engine.position.journal
    → engine.position.stop ≡ Some (record { node = node; position = position }) → IsConcluded (planned engine) (end.Stopped journal node position)
stopped_end engine journal node position graph sound legal same stop = record {
  stopped = record {
    legal = subst (IsLegalFor (planned engine)) (sym same) legal;
    over =
        subst (λ (j : List Event). IsOver engine.plan.graph engine.plan.limits.turn_steps j node position) (sym same)
        (stop_is_over (planned engine) engine.position graph sound (record { node = node; position = position }) stop);
  };
  before_events = λ first. let next : position ≡ suc (done_at engine.position.done node) = (sound.stops (record { node = node; position = position }) stop).next in
      absurd (omega (arith, next, first));
  past_defaults = λ later. sound.defaults;
}

-- a run whose plan has a node without a default stops at once
pub stopped_at_once : (plan : Plan) (journal : Spared Event) (node : ℕ) → journal.items ≡ []
    → IsPreset plan.graph plan.limits.turn_steps (preset.Over node) → IsConcluded (plan_of plan) (end.Stopped journal node 0)
stopped_at_once plan journal node empty h = record {
  stopped = record {
    legal = subst (IsLegalFor (plan_of plan)) (sym empty) (legal-nothing plan.graph plan.limits.turn_steps plan.script.items);
    over =
        subst (λ (j : List Event). IsOver plan.graph plan.limits.turn_steps j node 0) (sym empty)
        (record { node = h.0; none = h.1; least = h.2 });
  };
  before_events = λ first. empty;
  past_defaults = λ later. absurd (omega (arith, later));
}

-- and doesn't leave the beginning
pub stays_put : (plan : Plan) (journal : Spared Event) (node : ℕ) → journal.items ≡ []
    → GoesOn (plan_of plan) (beginning plan.graph) (record { end = end.Stopped journal node 0; own_turns = 0 })
stays_put plan journal node empty = record {
  moves = [];
  last = beginning plan.graph;
  runs = refl;
  journal = empty;
  rests = λ later. absurd (omega (arith, later));
  grows = ([], empty);
  turns = omega arith;
  all_taken = λ settled.
      let nothing : length journal.items ≡ 0 = ap length empty in
      let none : settled_at (plan_of plan) (beginning plan.graph) + 0 ≡ 0 * turning plan.graph.nodes (length plan.graph.nodes) =
      omega (arith, begin_settled (plan_of plan)) in
      none ∙ ap (λ (n : ℕ). n * turning plan.graph.nodes (length plan.graph.nodes)) (sym nothing);
}

-- ---- histories

pub history_of : (engine : EngineValue) (h : History) → IsGraph engine.plan.graph → IsSound (planned engine) engine.position
    → IsSettled (planned engine) engine.position → h.journal.items ≡ engine.position.journal
    → h.outputs.items ≡ outputs_at (planned engine) engine.position
    → val_for (planned engine) [] engine.plan.graph.main 0 ≡ Some h.default → IsHistoryFor (planned engine) h
history_of engine h graph sound settled journal outputs preset = record {
  journal = refl;
  default = default_same engine.plan.graph engine.plan.limits.turn_steps h.journal.items [] engine.plan.graph.main ∙ preset;
  outputs =
      outputs ∙
      (settled_shown (planned engine) engine.position graph sound settled ∙
      ap (λ (j : List Event). sends_for (planned engine) j engine.plan.graph.main (length j)) (sym journal));
}

pub complete_end : (engine : EngineValue) (h : History) → IsCompleteFor (planned engine) engine.position.journal
    → h.journal.items ≡ engine.position.journal → IsHistoryFor (planned engine) h → IsConcluded (planned engine) (end.Complete h)
complete_end engine h complete journal history = (subst (IsCompleteFor (planned engine)) (sym journal) complete, history)

pub full_end : (engine : EngineValue) (h : History) → IsFullFor (planned engine) engine.position.journal
    → h.journal.items ≡ engine.position.journal → IsHistoryFor (planned engine) h → IsConcluded (planned engine) (end.Full h)
full_end engine h full journal history = (subst (IsFullFor (planned engine)) (sym journal) full, history)

-- ---- the way to the end

pub settles_on : (start last : EngineValue) → IsGraph start.plan.graph → IsSound (planned start) start.position → Reaches start last
    → settled_at (planned start) start.position ≤ settled_at (planned last) last.position
settles_on start last graph sound reaches =
    let l : settled_at (planned start) start.position ≤ settled_at (planned start) last.position =
    run_settles (planned start) start.position reaches.moves last.position graph sound reaches.runs in
    let same : settled_at (planned last) last.position ≡ settled_at (planned start) last.position =
    ap (λ (plan : Plan). settled_at (plan_of plan) last.position) reaches.plan in
    omega (arith, l, same)

-- a run from one engine to another that rests
pub gone_on : (start last : EngineValue) (before after own : ℕ) (e : RunEnd) → IsGraph start.plan.graph
    → IsSound (planned start) start.position → Reaches start last → journal_of e ≡ last.position.journal
    → RestsAt (planned last) last.position e → before ≡ settled_at (planned start) start.position
    → after ≡ settled_at (planned last) last.position → own ≡ after - before
    → GoesOn (planned start) start.position (record { end = e; own_turns = own })
gone_on start last before after own e graph sound reaches journal rests was is count = record {
  moves = reaches.moves;
  last = last.position;
  runs = reaches.runs;
  journal = journal;
  rests = there;
  grows = (grown.0, journal ∙ grown.1);
  turns = turns;
  all_taken = λ settled. sym turns ∙ (settled_all (planned start) last.position graph sound' settled ∙
      ap (λ (j : List Event). length j * turning start.plan.graph.nodes (length start.plan.graph.nodes)) (sym journal));
}
  where
    sound' : IsSound (planned start) last.position
    sound' = run_sound (planned start) graph start.position reaches.moves last.position sound reaches.runs

    grown : (rest : List Event) × (last.position.journal ≡ start.position.journal ++ rest)
    grown = run_grows (planned start) start.position reaches.moves last.position reaches.runs

    there : RestsAt (planned start) last.position e
    there = subst (λ (plan : Plan). RestsAt (plan_of plan) last.position e) reaches.plan rests

    turns : settled_at (planned start) last.position ≡ settled_at (planned start) start.position + own
    turns =
        let l : settled_at (planned start) start.position ≤ settled_at (planned last) last.position =
        settles_on start last graph sound reaches in
        let same : settled_at (planned last) last.position ≡ settled_at (planned start) last.position =
        ap (λ (plan : Plan). settled_at (plan_of plan) last.position) reaches.plan in
        omega (arith, l, same, was, is, count)

-- equal plans are one to contracts
pub same_plans : (left right : Plan) → SamePlan left right → plan_of left ≡ plan_of right
same_plans left right same = cc (same.graph, same.script, same.limits)
