use Rattle.std.proofs.Common.{◌<◌, arith}
use Rattle.felm_meaning.specs.Plans.{plan_of}
use Rattle.felm_core.specs.Contents.{settled_at}
use Rattle.felm_engine.specs.Inside.{position_of}
use Rattle.felm_engine.proofs.Counting.{settled_bound}
use Rattle.felm_engine.proofs.engine.Engine.turns_settled.Goals as goal

pub returns-clause-bound : goal.returns-clause-bound
returns-clause-bound c =
    let s = c.self.invariant in
    let l : settled_at (plan_of c.self.inside.plan) (position_of c.self.inside) < 274877906944 =
    settled_bound (plan_of c.self.inside.plan) s.made.graph (position_of c.self.inside) s.sound s.made.most in
    omega (arith, l, s.holds.settled_is)
