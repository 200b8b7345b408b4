use Rattle.felm_graph.specs.Frames.{Ascends, weight}
use Rattle.felm_graph.proofs.lay.lay_term.Given as goal

abbrev pub invariant-on : goal.invariant-on
invariant-on l = Ascends l.fn.shared l.fn.nodes.items l.fn.term l.frames.items l.nodes.items l.root

abbrev pub decreases-on : goal.decreases-on
decreases-on l = weight l.frames.items
