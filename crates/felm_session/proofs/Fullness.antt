-- Where the limit is ample, no feed and no entry of a session answers Full.
use Rattle.std.proofs.Common.{◌≡◌, ℕ, ◌<◌, length, ap, ◌∙◌, arith}
use Rattle.std.specs.List.{slice_get}
use Rattle.felm_graph.specs.Graphs.{IsGraph}
use Rattle.felm_meaning.specs.OfPlans.{IsLegalFor}
use Rattle.felm_meaning.proofs.Rows.{item_within}
use Rattle.felm_meaning.proofs.Fitting.{script_fits}
use Rattle.felm_core.specs.Positions.{IsSound}
use Rattle.felm_core.proofs.Room.{place_to_feed, place_to_enter}
use Rattle.felm_engine.specs.Answers.{planned}
use Rattle.felm_engine.specs.declared.answers.Fed.{Fed}
use Rattle.felm_engine.specs.declared.answers.Fed.TheVariants as fed
use Rattle.felm_session.specs.SessionValue.{SessionValue, script_of, IsInStep}
use Rattle.felm_session.specs.Answers.{IsLeft, Waits, IsAtLimit, IsAmple, FedAs, EnteredAt}
use Rattle.felm_session.proofs.Stepping.{cursor_counts}

-- Full comes where an event could come in at the limit; if that can't be, it doesn't come
module _ (old : SessionValue) (graph : IsGraph old.engine.plan.graph) (sound : IsSound (planned old.engine) old.engine.position)
    (legal : IsLegalFor (planned old.engine) old.engine.position.journal) (step : IsInStep old.engine old.cursor) (ample : IsAmple (planned old.engine)) where
  place_for_left : IsLeft old → length old.engine.position.journal < (planned old.engine).limit
  place_for_left left =
      let e = item_within (script_of old) old.cursor left in
      place_to_feed (planned old.engine) old.engine.position graph sound legal ample e.0
      (script_fits old.engine.plan.graph old.engine.plan.script.items graph old.engine.plan.events_fit).0
      (ap (slice_get (script_of old)) (cursor_counts old.engine old.cursor step) ∙ e.1)

  place_for_waiting : (a : ℕ) → Waits old.engine a → length old.engine.position.journal < (planned old.engine).limit
  place_for_waiting a w = place_to_enter (planned old.engine) old.engine.position graph sound legal ample a w.0 w.1

  pub feed_not_full : (new : SessionValue) (answer : Fed) → FedAs old new answer → answer ≡ fed.Full → ⊥
  feed_not_full new (fed.At position) h e = cc
  feed_not_full new fed.NoneLeft h e = cc
  feed_not_full new fed.NoneWaiting h e = h
  feed_not_full new fed.NoRoom h e = cc
  feed_not_full new fed.Full h e = let l = place_for_left h.0 in let q : IsAtLimit old.engine = h.1 in omega (arith, l, q)

  pub enter_not_full : (a : ℕ) (new : SessionValue) (answer : Fed) → EnteredAt old a new answer → answer ≡ fed.Full → ⊥
  enter_not_full a new (fed.At position) h e = cc
  enter_not_full a new fed.NoneLeft h e = h
  enter_not_full a new fed.NoneWaiting h e = cc
  enter_not_full a new fed.NoRoom h e = cc
  enter_not_full a new fed.Full h e = let l = place_for_waiting a h.0 in let q : IsAtLimit old.engine = h.1 in omega (arith, l, q)
