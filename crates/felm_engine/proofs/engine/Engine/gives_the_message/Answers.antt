use Rattle.std.proofs.Common.{ap, ◌∙◌, sym}
use Rattle.felm_meaning.specs.Plans.{plan_of}
use Rattle.felm_meaning.specs.Step.{step}
use Rattle.felm_core.proofs.Heads.{turn_message}
use Rattle.felm_engine.specs.Answers.{IsTurnOut}
use Rattle.felm_engine.specs.Inside.{position_of, engine_of}
use Rattle.felm_engine.proofs.engine.Engine.gives_the_message.Goals as goal

pub returns : goal.returns
returns c =
    let s = c.self.invariant in
    let turn = c.args.turn.now in
    let h : IsTurnOut (engine_of c.self.inside) turn = rw (← c.self.view_is) at c.requires in
    rw (← c.self.view_is)
    (turn_message (plan_of c.self.inside.plan) (position_of c.self.inside) s.made.graph s.sound turn.node turn.job turn.previous turn.inputs
    (s.sound.turns turn.node h.out) h.has.job h.has.previous h.has.inputs ∙ ap (step turn.job turn.previous turn.inputs) (sym h.has.budget))
