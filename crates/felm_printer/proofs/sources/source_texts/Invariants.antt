use Rattle.std.proofs.Common.{◌≡◌, ◌≤◌, map, take, string_bytes}
use Rattle.std.specs.List.{count_by, range_with_len}
use Rattle.felm_graph.specs.Nodes.{is_async}
use Rattle.felm_printer.specs.Results.{source_text}
use Rattle.felm_printer.proofs.sources.source_texts.Given as goal

-- the texts so far, and the asyncs among their nodes
abbrev pub invariant-loop-node : goal.invariant-loop-node
invariant-loop-node l = record {
  texts : map string_bytes l.texts.items ≡ map (source_text l.graph) (range_with_len 0 l.node-index);
  asyncs : l.asyncs ≡ count_by is_async (take l.node-index l.graph.nodes);
  few : l.asyncs ≤ l.node-index;
}
