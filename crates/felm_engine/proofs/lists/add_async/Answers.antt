use Rattle.std.proofs.Common.{sym, ap, ◌∙◌}
use Rattle.felm_graph.specs.declared.node.NodeKind.{NodeKind}
use Rattle.felm_meaning.specs.Nodes.{inner_of_kind}
use Rattle.felm_engine.specs.Lists.{items_in, with_async}
use Rattle.felm_engine.proofs.OverLists.{added-list}
use Rattle.felm_engine.proofs.lists.add_async.Goals as goal

pub bounds-lists-argument : goal.bounds-lists-argument
bounds-lists-argument c = c.requires c.in-Async.argument (ap inner_of_kind c.in-Async.is)

pub returns-in_ok-push : goal.returns-in_ok-push
returns-in_ok-push c =
    added-list c.args.lists.now c.in-Async.argument c.args.node c.index-lists-argument.result c.push.new.self
    (c.requires c.in-Async.argument (ap inner_of_kind c.in-Async.is)) c.in_ok-push.ensures.ok ∙
    ap (λ (kind : NodeKind). with_async (inner_of_kind kind) c.args.node (items_in c.args.lists.now)) (sym c.in-Async.is)
