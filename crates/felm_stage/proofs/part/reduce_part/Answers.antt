use Rattle.std.proofs.Common.{suc, arith}
use Rattle.felm_term.specs.Values.{term_of}
use Rattle.felm_stage.proofs.Runs.{steps_beside}
use Rattle.felm_stage.proofs.part.reduce_part.Goals as goal

pub returns-in-Over : goal.returns-in-Over
returns-in-Over c =
    let o = rw c.in-Over.is at c.in_ok-reduce.ensures.outcome in
    (o.0, steps_beside (suc c.args.left.now) c.args.part o.0 c.requires o.1)

pub returns-in_ok-to_term-in-Value : goal.returns-in_ok-to_term-in-Value
returns-in_ok-to_term-in-Value c =
    let o = rw c.in-Value.is at c.in_ok-reduce.ensures.outcome in
    rw c.in_ok-to_term-in-Value.ensures
    (o.1.0, (c.in-Value.steps, omega (arith, o.0), steps_beside c.in-Value.steps c.args.part (term_of c.in-Value.value) c.requires o.1.1))
