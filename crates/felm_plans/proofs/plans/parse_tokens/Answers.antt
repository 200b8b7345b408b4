use Rattle.felm_plans.proofs.Refusals.{parse_fault_is}
use Rattle.felm_plans.proofs.plans.parse_tokens.Goals as goal

pub returns-in-Ok-clause-program : goal.returns-in-Ok-clause-program
returns-in-Ok-clause-program c = (c.args.tokens.now, c.requires, c.in-Ok.ensures.program)

pub returns-in-Err-clause-fault : goal.returns-in-Err-clause-fault
returns-in-Err-clause-fault c =
    rw c.status_of_parse_fault.ensures
    (parse_fault_is c.args.text.now c.args.tokens.now c.in-Err.fault c.requires c.in-Err.ensures.fault)
