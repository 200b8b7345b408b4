use Rattle.std.proofs.Common.{◌≡◌, ◌≤◌, ◌++◌, length, arith, sym, ap, ◌∙◌, append-nil, append_assoc, string_bytes}
use Rattle.std.specs.Prelude.{codes}
use Rattle.std.proofs.lemmas.List.{drop_all}
use Rattle.felm_printer.specs.Graphs.{node_lines}
use Rattle.felm_printer.proofs.graph.graph_text.Goals as goal

pub returns-in-Ok : goal.returns-in-Ok
returns-in-Ok c =
    let g = c.args.graph.now in
    let past : length g.nodes ≤ c.loop-number.number = omega (arith, ap length c.nodes-nodes.ensures.nodes) in
    let lines : string_bytes c.loop-number.text ≡ codes "felm-graph 1\n" ++ node_lines g.inputs 0 g.nodes =
    sym (append-nil (string_bytes c.loop-number.text)) ∙ (rw (drop_all c.loop-number.number g.nodes past) at c.loop-number.invariant) in
    rw c.into_bytes.ensures.value (c.in-Ok.ensures.bytes ∙ rw (lines, c.main-main.ensures) (simp append_assoc))
