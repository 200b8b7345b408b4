use Rattle.std.proofs.Common.{◌≡◌, length, vec_len, arith, string_bytes, ◌∙◌}
use Rattle.felm_printer.proofs.SourceTables.{texts_count, text_read, source_within}
use Rattle.felm_printer.proofs.Lines.{line_more}
use Rattle.felm_printer.proofs.result.result_text.Goals as goal

pub index-source-requires : goal.index-source-requires
index-source-requires c =
    let within = source_within c.args.plan.now.graph.nodes c.at-event.result.now.source (c.requires.sources c.loop-index.index c.at-event.result.now c.at-event.ensures) in
    let counted : vec_len c.in_ok-sources.sources ≡ length c.in_ok-sources.sources.items = omega arith in
    omega (arith, within, counted, texts_count string_bytes c.args.plan.now.graph c.in_ok-sources.sources.items c.in_ok-sources.ensures)

pub loop-index-preserved : goal.loop-index-preserved
loop-index-preserved c =
    let within = source_within c.args.plan.now.graph.nodes c.at-event.result.now.source (c.requires.sources c.loop-index.index c.at-event.result.now c.at-event.ensures) in
    let named = c.as_str.ensures.value ∙ text_read string_bytes c.args.plan.now.graph c.in_ok-sources.sources.items c.at-event.result.now.source c.index-source.result.now c.in_ok-sources.ensures within c.index-source.ensures in
    line_more c.args.plan.now.graph _ _ _ _ _ c.loop-index.index c.args.history.now.journal.items c.args.history.now.outputs.items _ _ c.at-event.ensures c.at-message.ensures named c.in_ok-push_event.ensures c.loop-index.invariant
