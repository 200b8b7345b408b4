use Rattle.std.proofs.Common.{take}
use Rattle.std.specs.Fmt.{HasWritten, IsPlainFormatter}
use Rattle.felm_printer.specs.Graphs.{numbers_text}
use Rattle.felm_printer.proofs.graph.write_numbers.Given as goal

-- the numbers so far were written
abbrev pub invariant-loop-number : goal.invariant-loop-number
invariant-loop-number g l = IsPlainFormatter l.initial.f → HasWritten g.W.Write.write_str_gives l.initial.f (numbers_text (take l.number-index l.numbers)) l.f
