use Rattle.felm_script.proofs.Judged.{skipped, no_events, unknown, wrong_values}
use Rattle.felm_script.proofs.laws.lines_are_judged_in_order.Goals as goal

pub returns-clause-skipped : goal.returns-clause-skipped
returns-clause-skipped c = skipped

pub returns-clause-event : goal.returns-clause-event
returns-clause-event c = no_events

pub returns-clause-name : goal.returns-clause-name
returns-clause-name c = unknown

pub returns-clause-value : goal.returns-clause-value
returns-clause-value c = wrong_values
