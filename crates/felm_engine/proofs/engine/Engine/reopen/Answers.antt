use Rattle.std.proofs.Common.{◌≡◌, ◌+◌, true, refl, sym, ◌∙◌, arith, set}
use Rattle.std.proofs.lemmas.List.{get_or_read}
use Rattle.felm_meaning.specs.Plans.{plan_of}
use Rattle.felm_core.specs.Positions.{is_out}
use Rattle.felm_core.specs.Moves.{reopened}
use Rattle.felm_core.proofs.Turns.{reopen_sound}
use Rattle.felm_core.proofs.Stays.{stay_holds}
use Rattle.felm_core.proofs.Spares.{stay_room}
use Rattle.felm_edges.specs.EdgesValue.{edge_in}
use Rattle.felm_engine.specs.Inside.{position_of, parts_of, spares_of}
use Rattle.felm_engine.proofs.Flags.{out_count, count-clear}
use Rattle.felm_engine.proofs.engine.Engine.reopen.Goals as goal

pub invariant_of-self : goal.invariant_of-self
invariant_of-self c =
    let s = c.self.invariant in
    let plan = plan_of c.self.inside.plan in
    let here = position_of c.self.inside in
    let node = c.args.node in
    let out : is_out here.out node ≡ true =
    sym (get_or_read here.out node c.index.result.now (omega arith) c.index.ensures _) ∙ c.if-index.true in
    let count : out_count (set here.out node _) + 1 ≡ out_count here.out = count-clear here.out node out in
    record {
      made = s.made;
      sound = reopen_sound plan here s.sound node;
      typed = s.typed;
      holds = stay_holds plan here (reopened here node) refl refl (edge_in c.self.inside.edges) (parts_of c.self.inside) s.holds;
      room = stay_room plan here (reopened here node) (spares_of c.self.inside) refl refl s.room;
      counted = omega (arith, s.counted, count);
    }
