-- What an engine's fields tell of its position.
use Rattle.std.proofs.Common.{◌≡◌, ℕ, suc, ◌+◌, ◌^◌, ◌<◌, true, Some, List, [], length, get_or, sym, ap, ◌∙◌, arith}
use Rattle.std.specs.Option.{option_and_then}
use Rattle.std.proofs.lemmas.Option.{slice_get-get_or}
use Rattle.felm_term.specs.declared.value.Value.{Value}
use Rattle.felm_term.specs.declared.message.Message.{Message}
use Rattle.felm_graph.specs.declared.node.Node.{Node}
use Rattle.felm_graph.specs.GraphValue.{GraphValue}
use Rattle.felm_graph.specs.Nodes.{arguments_of}
use Rattle.felm_meaning.specs.Plans.{plan_of}
use Rattle.felm_meaning.specs.Nodes.{job_of, job_of_kind}
use Rattle.felm_core.specs.Positions.{done_at, is_out, Reads, HasRoom, HasTurn}
use Rattle.felm_core.specs.Contents.{kept_at}
use Rattle.felm_core.specs.Laws.{heads_at}
use Rattle.felm_edges.specs.EdgesValue.{ReadsIn, read_in, HasRoomIn, IsFedIn}
use Rattle.felm_engine.specs.Heads.{AreHeads}
use Rattle.felm_engine.specs.Inside.{position_of, parts_of, IsStanding}
use Rattle.felm_engine.specs.Lists.{asyncs_over}
use Rattle.felm_engine.proofs.Moving.{next_position}
use Rattle.felm_engine.proofs.Edged as edged
use Rattle.felm_engine.specs.declared.engine.Engine.TheInside.{Inside}

-- the job of a node that was read
pub job_read : (g : GraphValue) (nodes : List Node) (k : ℕ) (n : Node) → nodes ≡ g.nodes → k < length g.nodes
    → job_of g.nodes k ≡ job_of_kind (get_or nodes k n).kind
job_read g nodes k n e l =
    let w : k < length nodes = omega (arith, l, ap length e) in
    ap (λ (ns : List Node). job_of ns k) (sym e) ∙ ap (λ o. option_and_then (λ (m : Node). job_of_kind m.kind) o) (slice_get-get_or nodes k n w)

module _ (a : Inside) (s : IsStanding a) where
  pub wired : (r port k : ℕ) → Reads a.plan.graph.nodes r port k → ReadsIn a.edges r port k
  wired = edged.wired (plan_of a.plan) (position_of a) a.edges (parts_of a) s.made.graph s.sound s.made.wiring_is s.made.capacity_is s.holds

  pub reads : (r port k : ℕ) → ReadsIn a.edges r port k → Reads a.plan.graph.nodes r port k
  reads = edged.reads (plan_of a.plan) (position_of a) a.edges (parts_of a) s.made.graph s.sound s.made.wiring_is s.made.capacity_is s.holds

  pub ports_are : (k : ℕ) → read_in a.edges k ≡ arguments_of a.plan.graph.nodes k
  ports_are = edged.ports_are (plan_of a.plan) (position_of a) a.edges (parts_of a) s.made.graph s.sound s.made.wiring_is s.made.capacity_is s.holds

  pub fed_in : (k : ℕ) → IsFedIn a.edges k → (port x : ℕ) → Reads a.plan.graph.nodes k port x → done_at a.done.items k < done_at a.done.items x
  fed_in = edged.fed_in (plan_of a.plan) (position_of a) a.edges (parts_of a) s.made.graph s.sound s.made.wiring_is s.made.capacity_is s.holds

  pub in_fed : (k : ℕ) → ((port x : ℕ) → Reads a.plan.graph.nodes k port x → done_at a.done.items k < done_at a.done.items x) → IsFedIn a.edges k
  in_fed = edged.in_fed (plan_of a.plan) (position_of a) a.edges (parts_of a) s.made.graph s.sound s.made.wiring_is s.made.capacity_is s.holds

  pub room_in : (k : ℕ) → HasRoomIn a.edges k → HasRoom (plan_of a.plan) a.done.items k
  room_in = edged.room_in (plan_of a.plan) (position_of a) a.edges (parts_of a) s.made.graph s.sound s.made.wiring_is s.made.capacity_is s.holds

  pub in_room : (k : ℕ) → HasRoom (plan_of a.plan) a.done.items k → HasRoomIn a.edges k
  in_room = edged.in_room (plan_of a.plan) (position_of a) a.edges (parts_of a) s.made.graph s.sound s.made.wiring_is s.made.capacity_is s.holds

  pub heads_in : (k : ℕ) (ms : List Message) → AreHeads a.edges k ms → heads_at (plan_of a.plan) (position_of a) k ≡ Some ms
  heads_in = edged.heads_in (plan_of a.plan) (position_of a) a.edges (parts_of a) s.made.graph s.sound s.made.wiring_is s.made.capacity_is s.holds

  pub in_heads : (k : ℕ) (ms : List Message) → heads_at (plan_of a.plan) (position_of a) k ≡ Some ms → AreHeads a.edges k ms
  in_heads = edged.in_heads (plan_of a.plan) (position_of a) a.edges (parts_of a) s.made.graph s.sound s.made.wiring_is s.made.capacity_is s.holds

  -- the value that a node keeps
  pub kept_in : (k : ℕ) (d : Value) → k < length a.plan.graph.nodes → kept_at (plan_of a.plan) (position_of a) k ≡ Some (get_or a.kept.items k d)
  kept_in k d l =
      sym (s.holds.kept_are k l) ∙ slice_get-get_or a.kept.items k d (omega (arith, l, s.holds.kept_length))

  -- its next position
  pub next_in : (k x : ℕ) → k < length a.plan.graph.nodes → x ≡ done_at a.done.items k → (x + 1 ≡ suc (done_at a.done.items k)) × (x + 1 < 2 ^ 64)
  next_in k x l e = next_position (plan_of a.plan) (position_of a) k x s.made.graph s.sound s.made.most l e

  -- a turn that is out is one that the node has
  pub out_has : (k : ℕ) → is_out a.out.items k ≡ true → HasTurn (plan_of a.plan) a.done.items k
  out_has k h = s.sound.turns k h

  -- the asyncs over a node are nodes
  pub over_is : (k : ℕ) → k < length a.plan.graph.nodes
      → get_or a.asyncs k [] ≡ asyncs_over a.plan.graph.nodes k (length a.plan.graph.nodes)
  over_is k l = s.made.asyncs_are.over k l
