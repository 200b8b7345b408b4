use Rattle.felm_term.specs.TermView.{term_of_form}
use Rattle.felm_stage.proofs.Runs.{takes_none}
use Rattle.felm_stage.proofs.enter.value.Goals as goal

pub returns : goal.returns
returns c left most h = (takes_none left (term_of_form c.args.form), c.requires, h)
