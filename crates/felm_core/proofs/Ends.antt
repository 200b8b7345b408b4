-- The ends of a run: complete, full, or at a call over budget.
use Rattle.std.proofs.Common.{◌≡◌, ℕ, suc, zero, ◌<◌, ◌≤◌, ◌⊎◌, inl, inr, Option, Some, None, List, [], ◌∷◌, length, get_or, refl, sym, ap, ◌∙◌, subst, arith}
use Rattle.std.specs.List.{slice_get, Contains}
use Rattle.std.specs.Option.{option_or}
use Rattle.std.proofs.lemmas.Option.{slice_get_within}
use Rattle.felm_term.specs.declared.value.Value.{Value}
use Rattle.felm_term.specs.declared.event.Event.{Event}
use Rattle.felm_graph.specs.Nodes.{arguments_of}
use Rattle.felm_graph.specs.Graphs.{IsGraph}
use Rattle.felm_meaning.specs.Meaning.{msg, val, value_at, changes, IsThere}
use Rattle.felm_meaning.specs.Journals.{inputs_in, entered, waiting, event_at, first_waiting}
use Rattle.felm_meaning.specs.Ends.{IsOver, IsOverTurn, IsUnfinished}
use Rattle.felm_meaning.proofs.Graphs.{ordered}
use Rattle.felm_meaning.proofs.Rows.{there_within}
use Rattle.felm_meaning.proofs.Causes.{concluded}
use Rattle.felm_meaning.specs.PlanValue.{PlanValue}
use Rattle.felm_meaning.specs.OfPlans.{IsLegalFor, IsCompleteFor, IsFullFor}
use Rattle.felm_core.specs.Positions.{StopValue, Position, done_at, Reads, IsStop, IsSound, IsSettled}
use Rattle.felm_core.specs.Contents.{waiting_at}
use Rattle.felm_core.proofs.Wiring.{reads_some}
use Rattle.felm_core.proofs.Runs.{waits_first, inner_there}
use Rattle.felm_core.proofs.Sticks.{settled_done, settled_waits}

at_place : (xs : List ℕ) (k a : ℕ) → k < length xs → get_or xs k a ≡ a → slice_get xs k ≡ Some a
at_place [] k a l e = absurd (omega arith)
at_place (x ∷ xs) zero a l e = ap (λ (y : ℕ). Some y) e
at_place (x ∷ xs) (suc k) a l e = at_place xs k a (omega arith) e

contained : (xs : List ℕ) (a : ℕ) → Contains xs a → (port : ℕ) × (slice_get xs port ≡ Some a)
contained xs a h = (h.0, at_place xs h.0 a h.1 h.2)

value_there : (s : PlanValue) (j : List Event) (k p : ℕ) → IsThere (msg s.graph s.budget j k p) → IsThere (val s.graph s.budget j k p)
unfolding val
value_there s j k p h = (_, ap value_at h.1)

module _ (s : PlanValue) (c : Position) (graph : IsGraph s.graph) (sound : IsSound s c) where
  pub stop_is_over : (t : StopValue) → c.stop ≡ Some t → IsOver s.graph s.budget c.journal t.node t.position
  stop_is_over t h =
      let stop = sound.stops t h in
      subst (IsOver s.graph s.budget c.journal t.node) (sym stop.next) (over stop)
    where
      over : IsStop s c.journal c.done t → IsOverTurn s.graph s.budget c.journal t.node (done_at c.done t.node)
      over stop = record {
        node = stop.node;
        within = within (reads_some s.graph t.node graph stop.node stop.no_source);
        arguments = λ a q.
            let port = contained (arguments_of s.graph.nodes t.node) a q in
            subst (λ (p : ℕ). IsThere (msg s.graph s.budget c.journal a p)) stop.next (stop.arguments port.0 a port.1);
        kept = value_there s c.journal t.node (done_at c.done t.node) (sound.sent t.node (done_at c.done t.node) stop.node (omega arith));
        none = ap (msg s.graph s.budget c.journal t.node) (sym stop.next) ∙ stop.none;
      }
        where
          within : (a : ℕ) × Reads s.graph.nodes t.node 0 a → done_at c.done t.node < length c.journal
          within a =
              let m = stop.arguments 0 a.0 a.1 in
              let l : t.position ≤ length c.journal = there_within s.graph s.budget c.journal a.0 t.position m in
              let n : t.position ≡ suc (done_at c.done t.node) = stop.next in omega arith

  nothing_waits : IsSettled s c → ((a : ℕ) → a < length s.graph.nodes → waiting_at s c a ≡ []) → (n : ℕ) → n ≤ length s.graph.nodes
      → first_waiting s.graph s.budget c.journal n ≡ None
  unfolding first_waiting
  nothing_waits settled none zero l = refl
  nothing_waits settled none (suc n) l =
      let w : waiting s.graph s.budget c.journal n ≡ None =
      sym (settled_waits s c graph sound settled n) ∙ ap (λ (vs : List Value). slice_get vs 0) (none n (omega arith)) in
      ap (λ (o : Option Value). option_or (first_waiting s.graph s.budget c.journal n) (event_at n o)) w ∙
      ap (λ (o : Option Event). option_or o None) (nothing_waits settled none n (omega arith))

  pub rests_complete : IsLegalFor s c.journal → IsSettled s c
      → ((a : ℕ) → a < length s.graph.nodes → waiting_at s c a ≡ []) → length s.script ≤ length (inputs_in s.graph c.journal)
      → IsCompleteFor s c.journal
  rests_complete legal settled none used =
      concluded s.graph s.budget s.script c.journal (done_at c.done) (ordered s.graph graph) legal sound.sent
      (λ k l. let e : done_at c.done k ≡ length c.journal = settled_done s c graph sound settled k l in omega arith)
      (nothing_waits settled none (length s.graph.nodes) (omega arith)) used

  pub rests_full : IsLegalFor s c.journal → IsSettled s c → length c.journal ≡ s.limit
      → (length (inputs_in s.graph c.journal) < length s.script) ⊎ ((a : ℕ) × (v : Value) × (slice_get (waiting_at s c a) 0 ≡ Some v))
      → IsFullFor s c.journal
  rests_full legal settled full left = record {
    legal = legal;
    length_is = full;
    there = λ k p l m. sound.sent k p l (let e : done_at c.done k ≡ length c.journal = settled_done s c graph sound settled k l in omega arith);
    unfinished = unfinished left;
  }
    where
      unfinished : (length (inputs_in s.graph c.journal) < length s.script) ⊎ ((a : ℕ) × (v : Value) × (slice_get (waiting_at s c a) 0 ≡ Some v))
          → IsUnfinished s.graph s.budget s.script c.journal
      unfinished (inl l) = inl l
      unfinished (inr w) =
          let f = waits_first s graph c w.0 w.1 w.2 in
          let e : done_at c.done f.0 ≡ length c.journal = settled_done s c graph sound settled f.0 (inner_there s graph w.0 f.0 f.1) in
          let i : entered c.journal w.0 < length (changes s.graph s.budget c.journal f.0 (done_at c.done f.0)) =
          slice_get_within (changes s.graph s.budget c.journal f.0 (done_at c.done f.0)) (entered c.journal w.0) w.1 f.2 in
          inr (w.0, (f.0, f.1, subst (λ (n : ℕ). entered c.journal w.0 < length (changes s.graph s.budget c.journal f.0 n)) e i))
