use Rattle.std.proofs.Common.{◌≡◌, ◌<◌, false, length, sym, ◌∙◌, arith}
use Rattle.std.proofs.lemmas.Bool.{false≢true}
use Rattle.std.proofs.lemmas.List.{get_or_read}
use Rattle.felm_core.specs.Positions.{is_out}
use Rattle.felm_engine.proofs.Standing.{fed_in, in_fed, room_in, in_room}
use Rattle.felm_engine.proofs.Stopping.{none_stopped}
use Rattle.felm_engine.proofs.engine.Engine.is_ready.Goals as goal
use Rattle.felm_engine.proofs.engine.Engine.is_ready.Goals.{then-is_source-via-then-is_source, then-is_source-via-else-is_source+then-not-is_fed}

pub returns-then-is_source : goal.returns-then-is_source
returns-then-is_source c =
    let s = c.self.invariant in
    rw (← c.self.view_is) (
      (λ h. absurd (false≢true h)),
      (λ ready. elim c.then-is_source.branch [
        | then-is_source-via-then-is_source w ↦ absurd (false≢true (sym ready.turn.no_source ∙ (sym c.is_source.ensures ∙ w.if-is_source.true)))
        | then-is_source-via-else-is_source+then-not-is_fed w ↦
            absurd (false≢true (sym w.if-not-is_fed.true ∙ w.is_fed.ensures.1 (in_fed c.self.inside s c.args.node ready.turn.fed)))
      ]),
    )

pub returns : goal.returns
returns c =
    let s = c.self.invariant in
    let node = c.args.node in
    let within : node < length c.self.inside.plan.graph.nodes = rw (← c.self.view_is) at c.requires in
    let flag : is_out c.self.inside.out.items node ≡ false =
    sym (get_or_read c.self.inside.out.items node c.index.result.now (omega (arith, within, s.sound.flags)) c.index.ensures false) ∙ c.if-index.false in
    rw (← c.self.view_is) (
      (λ h. record {
        turn = record {
          node = within;
          no_source = sym c.is_source.ensures ∙ c.if-is_source.false;
          fed = fed_in c.self.inside s node (c.is_fed.ensures.0 c.if-not-is_fed.false);
          room = room_in c.self.inside s node (c.room.ensures.room.0 h);
        };
        no_stop = none_stopped c.self.inside.stop (sym c.is_some.ensures ∙ c.if-is_some.false);
        not_out = flag;
      }),
      (λ ready. c.room.ensures.room.1 (in_room c.self.inside s node ready.turn.room)),
    )
