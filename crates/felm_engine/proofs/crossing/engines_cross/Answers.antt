use Rattle.felm_engine.proofs.Crosses.{engine_sent}
use Rattle.felm_engine.proofs.crossing.engines_cross.Goals as goal

pub returns : goal.returns
returns c = engine_sent c.values_cross.ensures c.plans_cross.ensures c.edges_cross.ensures c.waiting_cross.ensures
