use Rattle.felm_engine.proofs.engine.Engine.sound.Goals as goal

pub returns-clause-typed : goal.returns-clause-typed
returns-clause-typed c = rw (← c.self.view_is) c.self.invariant.typed
