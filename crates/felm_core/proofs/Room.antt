-- Where the limit is at least the bound on legal journals, an event that can come in finds place; and how far a run can go.
use Rattle.std.proofs.Common.{◌≡◌, ℕ, ◌+◌, ◌*◌, ◌^◌, ◌<◌, ◌≤◌, Some, [], ◌∷◌, ◌++◌, length, ap, ◌∙◌, arith}
use Rattle.std.specs.List.{slice_get, count_by}
use Rattle.std.proofs.Math.Nat.{mul-le-mul_left}
use Rattle.std.proofs.lemmas.List.{length-append}
use Rattle.felm_term.specs.declared.value.Value.{Value}
use Rattle.felm_term.specs.declared.event.Event.{Event}
use Rattle.felm_graph.specs.Nodes.{is_async}
use Rattle.felm_graph.specs.Graphs.{IsGraph}
use Rattle.felm_meaning.specs.OfPlans.{IsLegalFor}
use Rattle.felm_meaning.specs.Journals.{inputs_in, entered, NamesInputs}
use Rattle.felm_meaning.proofs.Fronts.{changes-later}
use Rattle.felm_meaning.proofs.Legal.{legal-async, legal-input, async_is_source, input_is_source}
use Rattle.felm_meaning.specs.PlanValue.{PlanValue}
use Rattle.felm_core.specs.Positions.{Position, done_at, IsSound}
use Rattle.felm_core.specs.Contents.{waiting_at, settled_at, turning}
use Rattle.felm_core.specs.Moves.{Move, Feed, Enter, Claim, Send, Stop, Reopen, Leads, with_next, progress, gain}
use Rattle.felm_core.proofs.Runs.{waits_first, inner_there}
use Rattle.felm_core.proofs.Sticks.{done_within}
use Rattle.felm_core.proofs.Bound.{legal_bound}
use Rattle.felm_core.proofs.Measures.{settled_most}
use Rattle.felm_core.proofs.Sent.{sent_settled}
use Rattle.felm_core.proofs.Entered.{next_settled}

module _ (s : PlanValue) (c : Position) (graph : IsGraph s.graph) (sound : IsSound s c) (legal : IsLegalFor s c.journal)
    (enough : length s.script * 2 ^ count_by is_async s.graph.nodes ≤ s.limit) where
  below : (e : Event) → IsLegalFor s (c.journal ++ e ∷ []) → length c.journal < s.limit
  below e longer =
      let b : length (c.journal ++ e ∷ []) ≤ length s.script * 2 ^ count_by is_async s.graph.nodes =
      legal_bound s.graph s.budget s.script (c.journal ++ e ∷ []) graph longer in
      let n : length (c.journal ++ e ∷ []) ≡ length c.journal + 1 = length-append c.journal (e ∷ []) in
      omega arith

  pub place_to_feed : (e : Event) → NamesInputs s.graph.nodes s.script → slice_get s.script (length (inputs_in s.graph c.journal)) ≡ Some e → length c.journal < s.limit
  place_to_feed e named h =
      below e (legal-input s.graph s.budget s.script c.journal e legal (named (length (inputs_in s.graph c.journal)) e h) h)

  pub place_to_enter : (a : ℕ) (v : Value) → slice_get (waiting_at s c a) 0 ≡ Some v → length c.journal < s.limit
  place_to_enter a v h =
      let w = waits_first s graph c a v h in
      below (record { source = a; value = v }) (legal-async s.graph s.budget s.script c.journal (record { source = a; value = v }) w.0 legal w.1
      (changes-later s.graph s.budget c.journal w.0 (done_at c.done w.0) (length c.journal) (entered c.journal a) v
      (done_within s c graph sound w.0 (inner_there s graph a w.0 w.1)) w.2))

-- ---- how far a run can go

product_grows : (n l t : ℕ) → n ≤ l → n * t ≤ l * t
product_grows n l t h = let q : t * n ≤ t * l = mul-le-mul_left t h in grind arith

pub progress_bound : (s : PlanValue) (c : Position) → IsGraph s.graph → IsSound s c
    → progress s c ≤ s.limit + s.limit * turning s.graph.nodes (length s.graph.nodes)
progress_bound s c graph sound =
    let a : settled_at s c ≤ length c.journal * turning s.graph.nodes (length s.graph.nodes) = settled_most s c graph sound in
    let l : length c.journal ≤ s.limit = sound.within in
    let m : length c.journal * turning s.graph.nodes (length s.graph.nodes) ≤ s.limit * turning s.graph.nodes (length s.graph.nodes) =
    product_grows (length c.journal) s.limit (turning s.graph.nodes (length s.graph.nodes)) l in
    omega arith

event_gains : (s : PlanValue) (c : Position) (e : Event) (d : Position) → settled_at s (with_next s c e) ≡ settled_at s c → d ≡ with_next s c e
    → progress s d ≡ progress s c + 1
event_gains s c e d n q =
    ap (progress s) q ∙ (let l : length (c.journal ++ e ∷ []) ≡ length c.journal + 1 = length-append c.journal (e ∷ []) in omega arith)

pub progress_gains : (s : PlanValue) (c : Position) (m : Move) (d : Position) → IsGraph s.graph → IsSound s c → Leads s c m d → progress s d ≡ progress s c + gain m
progress_gains s c (Feed k v) d graph sound h =
    event_gains s c (record { source = k; value = v }) d (next_settled s c (record { source = k; value = v }) graph sound (input_is_source s.graph.nodes k h.1).0) h.3
progress_gains s c (Enter a) d graph sound h =
    let w = waits_first s graph c a h.1.0 h.1.1 in
    event_gains s c (record { source = a; value = h.1.0 }) d
    (next_settled s c (record { source = a; value = h.1.0 }) graph sound (async_is_source s.graph.nodes a w.0 w.1).0) h.1.2
progress_gains s c (Claim k) d graph sound h = ap (progress s) h.1 ∙ (let z : progress s c ≡ progress s c + 0 = omega arith in z)
progress_gains s c (Send k) d graph sound h =
    let t = sent_settled s c k h.1.0 graph sound h.0 h.1.1 in ap (progress s) h.2 ∙ omega (arith, t)
progress_gains s c (Stop k) d graph sound h = ap (progress s) h.2 ∙ (let z : progress s c ≡ progress s c + 0 = omega arith in z)
progress_gains s c (Reopen k) d graph sound h = ap (progress s) h ∙ (let z : progress s c ≡ progress s c + 0 = omega arith in z)
