use Rattle.std.proofs.Common.{◌≡◌, ◌+◌, true, refl, arith, set}
use Rattle.felm_meaning.specs.Plans.{plan_of}
use Rattle.felm_core.specs.Positions.{Position, IsReady}
use Rattle.felm_core.proofs.Turns.{claim_sound}
use Rattle.felm_core.proofs.Stays.{stay_holds}
use Rattle.felm_core.proofs.Spares.{stay_room}
use Rattle.felm_edges.specs.EdgesValue.{edge_in}
use Rattle.felm_engine.specs.Inside.{position_of, parts_of, spares_of}
use Rattle.felm_engine.proofs.Flags.{out_count, count-set}
use Rattle.felm_engine.proofs.engine.Engine.claim.Goals as goal

pub invariant_of-self : goal.invariant_of-self
invariant_of-self c =
    let s = c.self.invariant in
    let plan = plan_of c.self.inside.plan in
    let here = position_of c.self.inside in
    let node = c.args.node in
    let ready : IsReady plan here node = rw (← c.self.view_is) at (c.is_ready.ensures.0 c.if-not-is_ready.false) in
    let after : Position = record here { out = set here.out node true } in
    let count : out_count (set here.out node true) ≡ out_count here.out + 1 =
    count-set here.out node (omega (arith, ready.turn.node, s.sound.flags)) ready.not_out in
    record {
      made = s.made;
      sound = claim_sound plan here s.sound node ready;
      typed = s.typed;
      holds = stay_holds plan here after refl refl (edge_in c.self.inside.edges) (parts_of c.self.inside) s.holds;
      room = stay_room plan here after (spares_of c.self.inside) refl refl s.room;
      counted = omega (arith, s.counted, count);
    }
