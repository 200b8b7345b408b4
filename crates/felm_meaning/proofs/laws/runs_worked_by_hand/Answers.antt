use Rattle.std.proofs.Common.{refl}
use Rattle.std.specs.Int.{int_wrap}
use Rattle.felm_meaning.specs.Step.{call_value, step}
use Rattle.felm_meaning.specs.Meaning.{defaults_to, message_of, row_to, row, msg, val, changes, sends}
use Rattle.felm_meaning.specs.Journals.{inputs_in, entered, waiting, first_waiting, next, plain_journal}
use Rattle.felm_meaning.proofs.laws.runs_worked_by_hand.Goals as goal

pub returns : goal.returns
unfolding int_wrap call_value step defaults_to message_of row_to row msg val changes sends inputs_in entered waiting first_waiting next plain_journal
returns c = ((refl, refl, refl), ((refl, refl, refl), ((refl, refl, refl), ((refl, refl, refl), ((refl, refl, refl), ((refl, refl, refl), tt))))))
