use Rattle.felm_script.proofs.Lines.{blanks_come_before, fields_end, last_field_ends}
use Rattle.felm_script.proofs.laws.fields_stand_between_blanks.Goals as goal

pub returns-clause-before : goal.returns-clause-before
returns-clause-before c = blanks_come_before

pub returns-clause-after : goal.returns-clause-after
returns-clause-after c = fields_end

pub returns-clause-last : goal.returns-clause-last
returns-clause-last c = last_field_ends
