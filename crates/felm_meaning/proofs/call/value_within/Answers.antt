use Rattle.felm_meaning.proofs.Calls.{value_is, over_is}
use Rattle.felm_meaning.proofs.call.value_within.Goals as goal

pub returns-in-Value : goal.returns-in-Value
returns-in-Value c =
    let o = rw c.in-Value.is at c.in_ok-value.ensures.outcome in
    let f = rw c.in-Value.is at c.in_ok-value.ensures.function in
    value_is c.args.budget c.args.application c.in-Value.value c.in-Value.steps o.0 o.1 f

pub returns-in-Over : goal.returns-in-Over
returns-in-Over c = over_is c.args.budget c.args.application (rw c.in-Over.is at c.in_ok-value.ensures.only)
