use Rattle.std.proofs.Common.{◌≡◌, ◌+◌, ◌<◌, length, not, map, arith, string_bytes, Some, refl, sym, ap, ◌∙◌}
use Rattle.std.specs.List.{slice_get, range_with_len}
use Rattle.std.proofs.lemmas.Option.{slice_get_read}
use Rattle.felm_printer.specs.Results.{source_text}
use Rattle.felm_printer.proofs.SourceTables.{text_behind_asyncs, texts_more, counted_more, counted_same}
use Rattle.felm_printer.proofs.sources.source_texts.Goals as goal
use Rattle.felm_printer.proofs.sources.source_texts.Goals.{then-is_async, else-is_async}

pub loop-node-preserved : goal.loop-node-preserved
loop-node-preserved c =
    let g = c.args.graph.now in
    let i = c.loop-node.node-index in
    let at = rw c.nodes-node-items.ensures.nodes at c.node-item.is in
    let within : i < length g.nodes = omega (arith, ap length c.nodes-node-items.ensures.nodes) in
    let there : slice_get g.nodes i ≡ Some c.node-item.result = slice_get_read g.nodes (length g.nodes) i c.node-item.result refl within at in
    let named = text_behind_asyncs g i c.node-item.result there in
    let text : string_bytes c.in_ok-text.text ≡ source_text g i =
    c.in_ok-text.ensures ∙ rw (c.inputs-inputs.ensures, c.loop-node.invariant.asyncs) named in
    let pushed = rw (c.is_err.ensures.negation ∙ ap not c.if-is_err.false) at c.push.ensures.items in
    let texts : map string_bytes c.push.new.self.items ≡ map (source_text g) (range_with_len 0 (i + 1)) =
    rw pushed (texts_more string_bytes g c.loop-node.texts.items c.in_ok-text.text i c.loop-node.invariant.texts text) in
    elim c.if-is_async.branch [
      | then-is_async w ↦ record {
        texts = texts;
        asyncs = w.asyncs-is ∙ counted_more g.nodes i c.node-item.result c.loop-node.asyncs within at (sym c.is_async.ensures ∙ w.if-is_async.true) c.loop-node.invariant.asyncs;
        few = omega arith;
      }
      | else-is_async w ↦ record {
        texts = texts;
        asyncs = w.asyncs-is ∙ counted_same g.nodes i c.node-item.result c.loop-node.asyncs within at (sym c.is_async.ensures ∙ w.if-is_async.false) c.loop-node.invariant.asyncs;
        few = omega arith;
      }
    ]
