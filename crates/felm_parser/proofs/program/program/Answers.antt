use Rattle.std.proofs.Common.{sym, ◌∙◌}
use Rattle.felm_parser.proofs.Declares.{fewer_left}
use Rattle.felm_parser.proofs.program.program.Goals as goal

pub declarations-smaller : goal.declarations-smaller
declarations-smaller c =
    fewer_left c.args.text.now c.declarations.inputs c.declarations.rest.now c.in_ok-name.more.now _
    (sym c.has_word.ensures ∙ c.declarations-test.true) c.in_ok-name.ensures.reads
