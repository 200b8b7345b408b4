use Rattle.std.proofs.Common.{sym, ap, ℕ, ◌∙◌}
use Rattle.felm_term.specs.Spared.{Spared}
use Rattle.felm_engine.proofs.OverLists.{sources-zero, sources-then, sources-else}
use Rattle.felm_engine.proofs.lists.sources.Goals as goal
use Rattle.felm_engine.proofs.lists.sources.Goals.{then-is_source+in_ok-push, else-is_source}

pub loop-node-init : goal.loop-node-init
loop-node-init c = c.make-sources.ensures ∙ sym (sources-zero c.args.graph.now.nodes)

pub loop-node-preserved : goal.loop-node-preserved
loop-node-preserved c = elim c.if-is_source.branch [
  | then-is_source+in_ok-push w ↦
      sources-then c.args.graph.now.nodes c.loop-node.node c.loop-node.sources.items _ c.loop-node.invariant (sym c.is_source.ensures ∙ w.if-is_source.true)
      (ap (λ (s : Spared ℕ). s.items) w.sources-is ∙ w.in_ok-push.ensures.ok)
  | else-is_source w ↦
      sources-else c.args.graph.now.nodes c.loop-node.node c.loop-node.sources.items _ c.loop-node.invariant (sym c.is_source.ensures ∙ w.if-is_source.false)
      (ap (λ (s : Spared ℕ). s.items) w.sources-is)
]
