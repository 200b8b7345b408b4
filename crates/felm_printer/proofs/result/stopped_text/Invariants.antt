use Rattle.std.proofs.Common.{◌≡◌, ◌+◌, ◌++◌, drop, string_bytes}
use Rattle.std.specs.Prelude.{codes}
use Rattle.felm_printer.specs.Results.{stopped_lines}
use Rattle.felm_printer.proofs.result.stopped_text.Given as goal

-- the text so far and the lines to come
abbrev pub invariant-loop-index : goal.invariant-loop-index
invariant-loop-index l =
    string_bytes l.text ++ stopped_lines l.plan.graph (l.index + 1) (drop l.index l.journal.items)
    ≡ codes "felm-stopped 1\n" ++ stopped_lines l.plan.graph 1 l.journal.items
