use Rattle.std.proofs.Common.{◌≡◌, ◌<◌, ◌∙◌, ap, refl, arith, length, List, get_or, Some, [], sym}
use Rattle.std.specs.List.{slice_get}
use Rattle.std.proofs.lemmas.Bool.{false≢true}
use Rattle.felm_term.specs.declared.value.Value.{Value}
use Rattle.felm_plain.specs.Queues.{queue_at, first_queue}
use Rattle.felm_plain.proofs.Waits.{read_queue, first_of, first_queue-none, first_queue-found}
use Rattle.felm_plain.proofs.queues.Queues.least.Goals as goal

pub loop-node-init : goal.loop-node-init
unfolding first_queue
loop-node-init c = refl

pub returns-then-not-is_empty : goal.returns-then-not-is_empty
returns-then-not-is_empty c =
    let v : c.self.inside.queues.items ≡ c.args.self.now = c.self.view_is in
    let l : c.loop-node.node < length c.args.self.now = omega (arith, ap length v) in
    let q : queue_at c.args.self.now c.loop-node.node ≡ c.index.result.now =
    read_queue c.args.self.now c.loop-node.node c.index.result.now l
    (c.index.ensures ∙ ap (λ (qs : List (List Value)). get_or qs c.loop-node.node c.index.result.now) v) in
    let first = first_of c.index.result.now (λ (e : c.index.result.now ≡ []). false≢true (sym c.if-not-is_empty.true ∙ c.is_empty.ensures.1 e)) in
    let here : slice_get (queue_at c.args.self.now c.loop-node.node) 0 ≡ Some first.0 = ap (λ (xs : List Value). slice_get xs 0) q ∙ first.1 in
    (l, (first.0, here, first_queue-found c.args.self.now c.loop-node.node (length c.args.self.now) first.0 c.loop-node.invariant here l))

pub loop-node-preserved : goal.loop-node-preserved
loop-node-preserved c =
    let v : c.self.inside.queues.items ≡ c.args.self.now = c.self.view_is in
    let l : c.loop-node.node < length c.args.self.now = omega (arith, ap length v) in
    let q : queue_at c.args.self.now c.loop-node.node ≡ c.index.result.now =
    read_queue c.args.self.now c.loop-node.node c.index.result.now l
    (c.index.ensures ∙ ap (λ (qs : List (List Value)). get_or qs c.loop-node.node c.index.result.now) v) in
    first_queue-none c.args.self.now c.loop-node.node c.loop-node.invariant
    (ap (λ (xs : List Value). slice_get xs 0) (q ∙ c.is_empty.ensures.0 c.if-not-is_empty.false))
