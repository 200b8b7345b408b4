use Rattle.std.proofs.Common.{◌≡◌, ◌<◌, ◌∙◌, ℕ, List, [], sym, ap, arith, length, get_or}
use Rattle.std.proofs.lemmas.List.{length-map, with_items_is}
use Rattle.std.specs.Vec.{with_items}
use Rattle.felm_term.specs.Spared.{Spared}
use Rattle.felm_meaning.specs.Nodes.{inner, inner_of_kind}
use Rattle.felm_engine.specs.Lists.{items_in, with_async}
use Rattle.felm_engine.proofs.OverLists.{asyncs-zero, over-more, length-with_async, inner_read, inner_within}
use Rattle.felm_engine.proofs.lists.Asyncs.of.Goals as goal

pub loop-node-init : goal.loop-node-init
loop-node-init c = record {
  lengths =
      length-map c.loop-made.lists.items (λ (s : Spared ℕ). s.items) ∙
      (let n = ap length c.nodes-nodes.ensures.nodes in omega (arith, n, c.loop-made.invariant.lengths));
  over = λ x l. c.loop-made.invariant.empty x ∙ sym (asyncs-zero c.args.graph.now.nodes x);
}

pub add_async-requires : goal.add_async-requires
add_async-requires c = λ x h.
    let node = inner_read c.args.graph.now c.nodes-nodes.result.now c.loop-node.node c.index-nodes-node.result c.nodes-nodes.ensures.nodes
    (omega (arith, ap length c.nodes-nodes.ensures.nodes)) in
    let l : x < length c.args.graph.now.nodes = inner_within c.args.graph.now c.nodes-nodes.ensures.graph c.loop-node.node x (node ∙ h) in
    omega (arith, l, c.loop-node.invariant.lengths, length-map c.loop-node.lists.items (λ (s : Spared ℕ). s.items), ap length c.deref_mut.ensures.value)

pub loop-node-preserved : goal.loop-node-preserved
loop-node-preserved c =
    let nodes = c.args.graph.now.nodes in
    let k = c.loop-node.node in
    let node = inner_read c.args.graph.now c.nodes-nodes.result.now k c.index-nodes-node.result c.nodes-nodes.ensures.nodes
    (omega (arith, ap length c.nodes-nodes.ensures.nodes)) in
    let before : List (List ℕ) = items_in c.loop-node.lists.items in
    let made : items_in c.add_async.new.lists ≡ with_async (inner nodes k) k before =
    c.in_ok-add_async.ensures ∙
    (ap (λ (ls : List (Spared ℕ)). with_async (inner_of_kind (get_or c.nodes-nodes.result.now k c.index-nodes-node.result).kind) k (items_in ls)) c.deref_mut.ensures.value ∙
    ap (λ o. with_async o k before) (sym node)) in
    let n : length c.add_async.new.lists ≡ c.loop-node.lists.len = omega (arith, c.add_async.auto.lists, c.deref_mut.ensures.len) in
    let w : items_in (with_items c.loop-node.lists c.add_async.new.lists).items ≡ with_async (inner nodes k) k before =
    ap items_in (with_items_is c.loop-node.lists c.add_async.new.lists n) ∙ made in
    record {
      lengths = ap length w ∙ (length-with_async (inner nodes k) k before ∙ c.loop-node.invariant.lengths);
      over = λ x l. ap (λ (ls : List (List ℕ)). get_or ls x []) w ∙
          over-more nodes k before c.loop-node.invariant.lengths c.loop-node.invariant.over
          (λ y h. inner_within c.args.graph.now c.nodes-nodes.ensures.graph k y h) x l;
    }
