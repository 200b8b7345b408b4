use Rattle.felm_cli.proofs.Clauses.{clause_success, clause_turn, clause_journal, clause_exact, clause_default, clause_complete}
use Rattle.felm_cli.proofs.once.felm_once.Goals as goal

pub returns-clause-success : goal.returns-clause-success
returns-clause-success g c = rw (← c.in-Some.ensures.order) (clause_success _ _ _ _ _ _ c.do_once-status.ensures.outcome)

pub returns-clause-turn : goal.returns-clause-turn
returns-clause-turn g c = rw (← c.in-Some.ensures.order) (clause_turn _ _ _ _ _ _ c.do_once-status.ensures.outcome)

pub returns-clause-journal : goal.returns-clause-journal
returns-clause-journal g c = rw (← c.in-Some.ensures.order) (clause_journal _ _ _ _ _ _ c.do_once-status.ensures.outcome)

pub returns-clause-exact : goal.returns-clause-exact
returns-clause-exact g c = rw (← c.in-Some.ensures.order) (clause_exact _ _ _ _ _ _ c.do_once-status.ensures.outcome)

pub returns-clause-no_default : goal.returns-clause-no_default
returns-clause-no_default g c = rw (← c.in-Some.ensures.order) (clause_default _ _ _ _ _ _ c.do_once-status.ensures.outcome)

pub returns-clause-complete : goal.returns-clause-complete
returns-clause-complete g c = rw (← c.in-Some.ensures.order) (clause_complete _ _ _ _ _ _ c.do_once-status.ensures.outcome)
