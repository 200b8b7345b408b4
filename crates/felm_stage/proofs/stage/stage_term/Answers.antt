use Rattle.std.proofs.Common.{refl}
use Rattle.felm_graph.specs.FinishedPair.{FinishedPair}
use Rattle.felm_stage.specs.declared.stage.Staged.TheVariants as staged
use Rattle.felm_stage.proofs.Ends.{pair_typed, only_staged}
use Rattle.felm_stage.proofs.stage.stage_term.Goals as goal

pub layout-requires-clause-typed : goal.layout-requires-clause-typed
layout-requires-clause-typed c =
    let f = rw c.in-Pair.is at c.in_ok-finish.ensures in
    let pair : FinishedPair = record { shared = c.in-Pair.finished.shared.items; last = c.in-Pair.finished.last; steps = c.in-Pair.steps } in
    pair_typed c.args.inputs.now.items c.args.term pair c.requires.typed f.1

pub returns-in-Graph-clause-outcome : goal.returns-in-Graph-clause-outcome
returns-in-Graph-clause-outcome c =
    let f = rw c.in-Pair.is at c.in_ok-finish.ensures in
    let g = rw c.in-Graph.is at c.in_ok-graph-in-Pair.ensures in
    (record { shared = c.in-Pair.finished.shared.items; last = c.in-Pair.finished.last; steps = c.in-Pair.steps }, f, g, refl)

pub returns-in-Graph-clause-only : goal.returns-in-Graph-clause-only
returns-in-Graph-clause-only c =
    only_staged c.args.inputs.now.items c.args.budget c.args.term (staged.Graph c.in-Graph.graph c.in-Pair.steps) (returns-in-Graph-clause-outcome c)

pub returns-clause-outcome : goal.returns-clause-outcome
returns-clause-outcome c =
    let f = rw c.in-Pair.is at c.in_ok-finish.ensures in
    let g = rw c.in-Large.is at c.in_ok-graph-in-Pair.ensures in
    (record { shared = c.in-Pair.finished.shared.items; last = c.in-Pair.finished.last; steps = c.in-Pair.steps }, f, g)

pub returns-clause-only : goal.returns-clause-only
returns-clause-only c = only_staged c.args.inputs.now.items c.args.budget c.args.term staged.Large (returns-clause-outcome c)

pub returns-in-Over-clause-only : goal.returns-in-Over-clause-only
returns-in-Over-clause-only c =
    only_staged c.args.inputs.now.items c.args.budget c.args.term staged.Over (rw c.in-Over.is at c.in_ok-finish.ensures)
