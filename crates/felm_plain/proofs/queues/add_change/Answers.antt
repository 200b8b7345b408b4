use Rattle.std.proofs.Common.{ap}
use Rattle.felm_meaning.specs.Nodes.{inner_of_kind}
use Rattle.felm_plain.proofs.queues.add_change.Goals as goal

pub bounds-row-argument : goal.bounds-row-argument
bounds-row-argument c = c.requires c.in-Async.argument (ap inner_of_kind c.in-Async.is)
