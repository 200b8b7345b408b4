use Rattle.felm_stage.proofs.stage.stage_one.Goals as goal

pub returns-clause-outcome : goal.returns-clause-outcome
returns-clause-outcome c = rw (← c.checked.view_is) (rw c.in_ok-term.ensures at c.stage_term.ensures.outcome)

pub returns-clause-only : goal.returns-clause-only
returns-clause-only c = rw (← c.checked.view_is) (rw c.in_ok-term.ensures at c.stage_term.ensures.only)
