use Rattle.std.proofs.Common.{◌≡◌, ◌+◌, ◌<◌, suc, true, None, refl, arith, set, length, false}
use Rattle.std.proofs.lemmas.List.{get_or_read}
use Rattle.felm_meaning.specs.Plans.{plan_of}
use Rattle.felm_meaning.specs.OfPlans.{msg_for}
use Rattle.felm_core.specs.Positions.{Position, done_at, is_out}
use Rattle.felm_core.proofs.Stays.{stay_holds}
use Rattle.felm_core.proofs.Spares.{stay_room}
use Rattle.felm_edges.specs.EdgesValue.{edge_in}
use Rattle.felm_engine.specs.Stops.{stop_of}
use Rattle.felm_engine.specs.Inside.{position_of, parts_of, spares_of}
use Rattle.felm_engine.proofs.Flags.{out_count, count-clear}
use Rattle.felm_engine.proofs.Standing.{next_in, out_has}
use Rattle.felm_engine.proofs.Moving.{stopped_at}
use Rattle.felm_engine.proofs.engine.Engine.halt.Goals as goal

pub overflow_add-position : goal.overflow_add-position
overflow_add-position c =
    let s = c.self.invariant in
    let node = c.args.node in
    let out : is_out c.self.inside.out.items node ≡ true = rw (← c.self.view_is) at c.requires.out in
    let turn = out_has c.self.inside s node out in
    let l : node < length c.self.inside.done.items = omega (arith, turn.node, s.sound.counts) in
    let p = next_in c.self.inside s node c.index.result.now turn.node (get_or_read c.self.inside.done.items node c.index.result.now l c.index.ensures 0) in
    omega (arith, p.1)

pub invariant_of-self : goal.invariant_of-self
invariant_of-self c =
    let s = c.self.invariant in
    let plan = plan_of c.self.inside.plan in
    let here = position_of c.self.inside in
    let node = c.args.node in
    let out : is_out here.out node ≡ true = rw (← c.self.view_is) at c.requires.out in
    let none : msg_for plan here.journal node (suc (done_at here.done node)) ≡ None = rw (← c.self.view_is) at c.requires.over in
    let turn = out_has c.self.inside s node out in
    let l : node < length here.done = omega (arith, turn.node, s.sound.counts) in
    let p = next_in c.self.inside s node c.index.result.now turn.node (get_or_read here.done node c.index.result.now l c.index.ensures 0) in
    let after : Position = record here { out = set here.out node false; stop = stop_of c.first_stop-self-inside.result } in
    let count : out_count (set here.out node false) + 1 ≡ out_count here.out = count-clear here.out node out in
    record {
      made = s.made;
      sound = stopped_at plan here node (c.index.result.now + 1) (stop_of c.first_stop-self-inside.result) s.made.graph s.sound out none p.0
          c.first_stop-self-inside.ensures;
      typed = s.typed;
      holds = stay_holds plan here after refl refl (edge_in c.self.inside.edges) (parts_of c.self.inside) s.holds;
      room = stay_room plan here after (spares_of c.self.inside) refl refl s.room;
      counted = omega (arith, s.counted, count);
    }
