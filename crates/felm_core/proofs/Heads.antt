-- What a turn is handed: the first messages of its edges and its node's value; its step over them is the message of the meaning.
use Rattle.std.proofs.Common.{◌≡◌, ℕ, suc, ◌+◌, ◌<◌, ◌≤◌, Some, List, length, map, sym, ap, ◌∙◌, arith}
use Rattle.std.specs.List.{slice_get}
use Rattle.felm_term.specs.declared.value.Value.{Value}
use Rattle.felm_term.specs.declared.message.Message.{Message}
use Rattle.felm_graph.specs.declared.node.Node.{Node}
use Rattle.felm_graph.specs.Nodes.{arguments_of}
use Rattle.felm_graph.specs.Graphs.{IsGraph}
use Rattle.felm_meaning.specs.declared.job.Job.{Job}
use Rattle.felm_meaning.specs.Nodes.{job_of}
use Rattle.felm_meaning.specs.Step.{step}
use Rattle.felm_meaning.specs.Types.{EventsFit, TurnFits}
use Rattle.felm_meaning.specs.Meaning.{all_of, msg}
use Rattle.felm_meaning.proofs.Graphs.{ordered}
use Rattle.felm_meaning.proofs.Rows.{item_within, map_same, there_within}
use Rattle.felm_meaning.proofs.Fronts.{msg-step}
use Rattle.felm_meaning.proofs.Edges.{edge-holds}
use Rattle.felm_meaning.proofs.Fitting.{turn_fits}
use Rattle.felm_meaning.specs.PlanValue.{PlanValue}
use Rattle.felm_core.specs.Positions.{Position, done_at, Reads, HasTurn, IsSound}
use Rattle.felm_core.specs.Contents.{edge_at, kept_at}
use Rattle.felm_core.proofs.Wiring.{reader_within, reads_some}

module _ (s : PlanValue) (c : Position) (graph : IsGraph s.graph) (sound : IsSound s c) where
  -- an edge holds one message for each turn that its reader is behind
  pub edge_length : (k port a : ℕ) → Reads s.graph.nodes k port a → done_at c.done k + length (edge_at s c a k) ≡ done_at c.done a
  unfolding edge_at
  edge_length k port a h =
      let l : a < length s.graph.nodes = within in
      (edge-holds s.graph s.budget c.journal a (done_at c.done k) (done_at c.done a) (sound.fed k port a h) (λ p u. sound.sent a (suc p) l (omega arith))).0
    where
      within : a < length s.graph.nodes
      within =
          let d : a < k = (ordered s.graph graph).down k port a h in
          let n : k < length s.graph.nodes = (reader_within s.graph.nodes k port a h).0 in omega arith

  -- the first message of an edge is the writer's at the reader's next position
  pub edge_first : (k port a : ℕ) → Reads s.graph.nodes k port a → done_at c.done k < done_at c.done a
      → slice_get (edge_at s c a k) 0 ≡ msg s.graph s.budget c.journal a (suc (done_at c.done k))
  unfolding edge_at
  edge_first k port a h l =
      let d : a < k = (ordered s.graph graph).down k port a h in
      let n : k < length s.graph.nodes = (reader_within s.graph.nodes k port a h).0 in
      let z : done_at c.done k + 0 ≡ done_at c.done k = omega arith in
      (edge-holds s.graph s.budget c.journal a (done_at c.done k) (done_at c.done a) (omega arith) (λ p u. sound.sent a (suc p) (omega arith) (omega arith))).1 0 (omega arith) ∙
      ap (λ (x : ℕ). msg s.graph s.budget c.journal a (suc x)) z

  heads : (k : ℕ) → HasTurn s c.done k
      → map (λ a. slice_get (edge_at s c a k) 0) (arguments_of s.graph.nodes k) ≡ map (λ a. msg s.graph s.budget c.journal a (suc (done_at c.done k))) (arguments_of s.graph.nodes k)
  heads k turn =
      map_same (λ a. slice_get (edge_at s c a k) 0) (λ a. msg s.graph s.budget c.journal a (suc (done_at c.done k))) (arguments_of s.graph.nodes k)
      (λ port a q. edge_first k port a q (turn.fed port a q))

  -- a turn is within the journal
  pub turn_within : (k : ℕ) → HasTurn s c.done k → done_at c.done k < length c.journal
  turn_within k turn =
      let a = reads_some s.graph k graph turn.node turn.no_source in
      let f : done_at c.done k < done_at c.done a.0 = turn.fed 0 a.0 a.1 in
      let d : a.0 < k = (ordered s.graph graph).down k 0 a.0 a.1 in
      let n : k < length s.graph.nodes = turn.node in
      let w : done_at c.done a.0 ≤ length c.journal =
      there_within s.graph s.budget c.journal a.0 (done_at c.done a.0) (sound.sent a.0 (done_at c.done a.0) (omega arith) (omega arith)) in
      omega arith

  pub turn_message : (k : ℕ) (w : Job) (old : Value) (ms : List Message) → HasTurn s c.done k → job_of s.graph.nodes k ≡ Some w → kept_at s c k ≡ Some old
      → all_of (map (λ a. slice_get (edge_at s c a k) 0) (arguments_of s.graph.nodes k)) ≡ Some ms
      → msg s.graph s.budget c.journal k (suc (done_at c.done k)) ≡ step w old ms s.budget
  unfolding kept_at
  turn_message k w old ms turn job kept h =
      msg-step s.graph s.budget c.journal k (done_at c.done k) w old ms (ordered s.graph graph) turn.node turn.no_source (turn_within k turn) job kept
      (ap all_of (sym (heads k turn)) ∙ h)

  -- where the events have their types, the turn's fit
  pub turn_typed : (k : ℕ) (w : Job) (old : Value) (ms : List Message) → EventsFit s.graph c.journal → HasTurn s c.done k → job_of s.graph.nodes k ≡ Some w
      → kept_at s c k ≡ Some old → all_of (map (λ a. slice_get (edge_at s c a k) 0) (arguments_of s.graph.nodes k)) ≡ Some ms → TurnFits w old ms
  unfolding kept_at
  turn_typed k w old ms fit turn job kept h = by (item_within s.graph.nodes k turn.node)
    where
      by : (n : Node) × (slice_get s.graph.nodes k ≡ Some n) → TurnFits w old ms
      by n = turn_fits s.graph s.budget c.journal graph fit k (done_at c.done k) n.0 w old ms n.1 job kept (ap all_of (sym (heads k turn)) ∙ h)
