use Rattle.std.proofs.Common.{◌≡◌, ◌∙◌, ◌<◌, ap, sym, subst, arith, length, map, get_or, Some}
use Rattle.std.specs.Prelude.{slice_get}
use Rattle.std.proofs.lemmas.Option.{slice_get-get_or}
use Rattle.felm_meaning.specs.Meaning.{default_by, defaults_to}
use Rattle.felm_meaning.specs.Presets.{IsLiftable}
use Rattle.felm_meaning.proofs.Presets.{known_more, none_here, all_known, next_liftable}
use Rattle.felm_meaning.proofs.preset.defaults.Goals as goal

pub loop-node-init : goal.loop-node-init
unfolding defaults_to
loop-node-init c = ap (map (λ v. Some v)) c.make-values.ensures

pub default_of-requires : goal.default_of-requires
default_of-requires c =
    let g = c.args.plan.now.graph in
    let n = get_or c.nodes-nodes.result.now c.loop-node.node c.index-nodes-node.result in
    let there = subst (λ ns. slice_get ns c.loop-node.node ≡ Some n) c.nodes-nodes.ensures.nodes
    (slice_get-get_or c.nodes-nodes.result.now c.loop-node.node c.index-nodes-node.result c.loop-node-test.true) in
    let within : c.loop-node.node < length g.nodes = omega (arith, ap length c.nodes-nodes.ensures.nodes) in
    subst (λ vs. IsLiftable vs n.kind) (sym c.as_slice.ensures)
    (next_liftable g c.args.plan.now.limits.turn_steps c.loop-node.values.items c.loop-node.node c.loop-node.invariant n c.nodes-nodes.ensures.graph within there)

pub returns-in-None : goal.returns-in-None
returns-in-None c =
    let g = c.args.plan.now.graph in
    let b = c.args.plan.now.limits.turn_steps in
    let n = get_or c.nodes-nodes.result.now c.loop-node.node c.index-nodes-node.result in
    let there = subst (λ ns. slice_get ns c.loop-node.node ≡ Some n) c.nodes-nodes.ensures.nodes
    (slice_get-get_or c.nodes-nodes.result.now c.loop-node.node c.index-nodes-node.result c.loop-node-test.true) in
    let within : c.loop-node.node < length g.nodes = omega (arith, ap length c.nodes-nodes.ensures.nodes) in
    none_here g b c.loop-node.values.items c.loop-node.node c.loop-node.invariant n within there
    (sym c.in-None.is ∙ (c.in_ok-value.ensures ∙
    (ap (λ inputs. default_by inputs b (slice_get c.as_slice.result.now) n.kind) (c.as_slice-inputs.ensures.items ∙ c.inputs.ensures) ∙
    ap (λ vs. default_by g.inputs b (slice_get vs) n.kind) c.as_slice.ensures)))

pub loop-node-preserved : goal.loop-node-preserved
loop-node-preserved c =
    let g = c.args.plan.now.graph in
    let b = c.args.plan.now.limits.turn_steps in
    let n = get_or c.nodes-nodes.result.now c.loop-node.node c.index-nodes-node.result in
    let there = subst (λ ns. slice_get ns c.loop-node.node ≡ Some n) c.nodes-nodes.ensures.nodes
    (slice_get-get_or c.nodes-nodes.result.now c.loop-node.node c.index-nodes-node.result c.loop-node-test.true) in
    known_more g b c.loop-node.values.items c.loop-node.node c.loop-node.invariant n c.in-Some.value c.push.new.self.items there
    (sym c.in-Some.is ∙ (c.in_ok-value.ensures ∙
    (ap (λ inputs. default_by inputs b (slice_get c.as_slice.result.now) n.kind) (c.as_slice-inputs.ensures.items ∙ c.inputs.ensures) ∙
    ap (λ vs. default_by g.inputs b (slice_get vs) n.kind) c.as_slice.ensures)))
    c.in_ok-push-in-Some.ensures.ok

pub returns : goal.returns
returns c =
    let e = ap length c.nodes-nodes.ensures.nodes in
    all_known c.args.plan.now.graph c.args.plan.now.limits.turn_steps c.loop-node.values.items c.loop-node.node c.loop-node.invariant (omega (arith, e)) (omega (arith, e))
