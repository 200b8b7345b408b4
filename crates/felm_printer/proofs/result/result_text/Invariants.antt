use Rattle.std.proofs.Common.{◌≡◌, ◌+◌, ◌++◌, drop, string_bytes}
use Rattle.std.specs.Prelude.{codes}
use Rattle.felm_term.specs.Text.{value_text}
use Rattle.felm_printer.specs.Results.{event_lines}
use Rattle.felm_printer.proofs.result.result_text.Given as goal

-- the text so far and the lines to come
abbrev pub invariant-loop-index : goal.invariant-loop-index
invariant-loop-index l =
    string_bytes l.text ++ event_lines l.plan.graph (l.index + 1) (drop l.index l.history.journal.items) (drop l.index l.history.outputs.items)
    ≡ codes "felm-result 1\n0 default " ++ value_text l.history.default ++ codes "\n"
    ++ event_lines l.plan.graph 1 l.history.journal.items l.history.outputs.items
