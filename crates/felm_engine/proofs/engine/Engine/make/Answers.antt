use Rattle.std.proofs.Common.{◌≡◌, ℕ, false, length, List, [], sym, ap, subst, ◌∙◌}
use Rattle.std.specs.Prelude.{replicate}
use Rattle.felm_term.specs.declared.value.Value.{Value}
use Rattle.felm_meaning.specs.Plans.{plan_of}
use Rattle.felm_core.specs.Positions.{Position, IsSound}
use Rattle.felm_core.specs.Holds.{KeepsRoom}
use Rattle.felm_core.proofs.Runs.{beginning_sound}
use Rattle.felm_core.proofs.Spares.{begin_room}
use Rattle.felm_edges.specs.Changes.{AreNew}
use Rattle.felm_engine.proofs.Beginning.{defaults_there, empty_items, begun, begun_holds, none_unfit}
use Rattle.felm_engine.proofs.Flags.{out_count, count-replicate}
use Rattle.felm_core.specs.Holds.{Spares}
use Rattle.felm_engine.specs.Queued.{queue_at}
use Rattle.felm_engine.proofs.Moving.{items_of}
use Rattle.felm_engine.proofs.engine.Engine.make.Goals as goal

pub invariant_of-result : goal.invariant_of-result
invariant_of-result c =
    let plan = plan_of c.args.plan in
    let g = c.args.plan.graph in
    let edges = c.in_ok-edges.edges in
    let new : AreNew g.nodes plan.capacity edges = c.in_ok-edges.ensures in
    let defaults : List Value = c.args.defaults.now.items in
    let nodes : length c.nodes-nodes.result.now ≡ length g.nodes = ap length c.nodes-nodes.ensures.nodes in
    let waiting : items_of c.in_ok-waiting.waiting ≡ replicate (length g.nodes) [] =
    empty_items c.in_ok-waiting.waiting (length g.nodes) (c.in_ok-waiting.ensures.length ∙ nodes) c.in_ok-waiting.ensures.empty in
    let done = c.in_ok-done.ensures ∙ ap (λ (n : ℕ). replicate n 0) nodes in
    let out = c.in_ok-out.ensures ∙ ap (λ (n : ℕ). replicate n false) nodes in
    let at = begun g c.make-3.result.items c.in_ok-done.done.items c.in_ok-out.out.items c.make-3.ensures done out in
    let spares : Spares = record { waiting = λ k. (queue_at c.in_ok-waiting.waiting k).spare; outputs = c.make-4.result.spare } in
    record {
      made = record {
        graph = c.nodes-nodes.ensures.graph;
        wiring_is = new.wiring;
        capacity_is = new.capacity_is;
        asyncs_are = c.in_ok-asyncs.ensures;
        sources_are = c.in_ok-sources.ensures;
        least = c.args.plan.limits.edge_in_range.0;
        most = c.args.plan.limits.journal_in_range.1;
      };
      sound = subst (IsSound plan) (sym at) (beginning_sound plan (defaults_there g plan.budget defaults c.requires.0 c.requires.1));
      typed = none_unfit g c.make-3.result.items c.make-3.ensures;
      holds = begun_holds plan _ edges c.in_ok-kept.kept.items defaults (items_of c.in_ok-waiting.waiting) c.make-4.result.items at new.empty
          (c.in_ok-kept.ensures ∙ c.as_slice.ensures) c.requires.0 c.requires.1 waiting c.make-4.ensures;
      room = subst (λ (p : Position). KeepsRoom plan p spares) (sym at) (begin_room plan spares);
      counted = sym (ap out_count out ∙ count-replicate (length g.nodes));
    }
