use Rattle.std.proofs.Common.{◌≡◌, ◌+◌, ◌<◌, ℕ, suc, cond, eqb, true, false, Some, None, List, length, set, sym, ap, subst, ◌∙◌, arith}
use Rattle.std.specs.List.{slice_get}
use Rattle.std.specs.Vec.{with_item}
use Rattle.std.proofs.lemmas.List.{length-map, get_or_read}
use Rattle.felm_meaning.specs.Plans.{plan_of}
use Rattle.felm_meaning.specs.OfPlans.{msg_for}
use Rattle.felm_meaning.proofs.Graphs.{ordered}
use Rattle.felm_core.specs.Positions.{Position, done_at, is_out, IsSound}
use Rattle.felm_core.specs.Contents.{settled_at}
use Rattle.felm_core.specs.Laws.{Sends}
use Rattle.felm_core.specs.Holds.{Holds, KeepsRoom}
use Rattle.felm_core.proofs.Turns.{sent_sound}
use Rattle.felm_core.proofs.Holds.{sent_holds}
use Rattle.felm_core.proofs.Spares.{sent_finds_room, sent_room}
use Rattle.felm_edges.specs.EdgesValue.{edge_in}
use Rattle.felm_engine.specs.Inside.{position_of, parts_of, spares_of}
use Rattle.felm_engine.specs.Lists.{asyncs_over}
use Rattle.felm_engine.specs.Queued.{QueueValue, AreDistinct}
use Rattle.felm_engine.proofs.Counting.{settled_bound}
use Rattle.felm_engine.proofs.Flags.{out_count, count-clear}
use Rattle.felm_engine.proofs.OverLists.{asyncs-over, asyncs-distinct}
use Rattle.felm_engine.proofs.Standing.{reads, wired, in_fed, in_room, next_in, out_has, over_is}
use Rattle.felm_engine.proofs.Moving as moving
use Rattle.felm_engine.proofs.engine.Engine.send.Goals as goal

-- the asyncs over the node
pub pass_on-requires-clause-within : goal.pass_on-requires-clause-within
pass_on-requires-clause-within c = λ i a h.
    let s = c.self.invariant in
    let node = c.args.node in
    let nodes = c.self.inside.plan.graph.nodes in
    let out : is_out c.self.inside.out.items node ≡ true = rw (← c.self.view_is) at c.requires.out in
    let turn = out_has c.self.inside s node out in
    let over : c.over.result.now ≡ asyncs_over nodes node (length nodes) = c.over.ensures ∙ over_is c.self.inside s node turn.node in
    let l : a < length nodes = (asyncs-over nodes node (length nodes) i a (ap (λ (ns : List ℕ). slice_get ns i) (sym over) ∙ h)).0 in
    omega (arith, l, s.holds.waiting_length, length-map c.self.inside.waiting (λ (q : QueueValue). q.items))

pub pass_on-requires-clause-distinct : goal.pass_on-requires-clause-distinct
pass_on-requires-clause-distinct c =
    let s = c.self.invariant in
    let node = c.args.node in
    let nodes = c.self.inside.plan.graph.nodes in
    let out : is_out c.self.inside.out.items node ≡ true = rw (← c.self.view_is) at c.requires.out in
    let turn = out_has c.self.inside s node out in
    let over : c.over.result.now ≡ asyncs_over nodes node (length nodes) = c.over.ensures ∙ over_is c.self.inside s node turn.node in
    subst AreDistinct (sym over) (asyncs-distinct nodes node (length nodes))

pub pass_on-requires-clause-room : goal.pass_on-requires-clause-room
pass_on-requires-clause-room c = λ i a h.
    let s = c.self.invariant in
    let node = c.args.node in
    let nodes = c.self.inside.plan.graph.nodes in
    let plan = plan_of c.self.inside.plan in
    let here = position_of c.self.inside in
    let out : is_out here.out node ≡ true = rw (← c.self.view_is) at c.requires.out in
    let message : msg_for plan here.journal node (suc (done_at here.done node)) ≡ Some c.args.message.now = rw (← c.self.view_is) at c.requires.sent in
    let sends : Sends plan here node c.args.message.now = record { graph = s.made.graph; sound = s.sound; out = out; message = message } in
    let turn = out_has c.self.inside s node out in
    let over : c.over.result.now ≡ asyncs_over nodes node (length nodes) = c.over.ensures ∙ over_is c.self.inside s node turn.node in
    (sent_finds_room plan here node c.args.message.now (spares_of c.self.inside) sends s.room).0 a
    (asyncs-over nodes node (length nodes) i a (ap (λ (ns : List ℕ). slice_get ns i) (sym over) ∙ h)).1

pub invariant_of-self-in_err-pass_on : goal.invariant_of-self-in_err-pass_on
invariant_of-self-in_err-pass_on c =
    let s = c.self.invariant in
    let plan = plan_of c.self.inside.plan in
    let here = position_of c.self.inside in
    let prepared = c.in_ok-prepare.ensures.ok in
    let same = c.in_err-pass_on.ensures.err in
    let e0 = c.self.inside.edges in
    let e1 = c.prepare.new.self in
    record {
      made = moving.made_again plan e0.wiring e1.wiring e0.capacity e1.capacity c.self.inside.asyncs c.self.inside.sources.items prepared.wiring prepared.capacity s.made;
      sound = s.sound;
      typed = s.typed;
      holds = moving.same_edges plan here e0 e1 _ prepared.lists
          (moving.same_waiting plan here (edge_in e0) c.self.inside.kept.items c.self.inside.waiting c.pass_on.new.self c.self.inside.outputs.items c.self.inside.turns_settled
          same s.holds);
      room = moving.same_room plan here c.self.inside.waiting c.pass_on.new.self c.self.inside.outputs.spare same s.room;
      counted = s.counted;
    }

pub put-requires-clause-room : goal.put-requires-clause-room
put-requires-clause-room c =
    let s = c.self.invariant in
    let node = c.args.node in
    let out : is_out c.self.inside.out.items node ≡ true = rw (← c.self.view_is) at c.requires.out in
    let turn = out_has c.self.inside s node out in
    moving.room_then node c.self.inside.edges c.prepare.new.self (Some c.args.message.now) c.in_ok-prepare.ensures.ok (in_room c.self.inside s node turn.room)

pub drop_heads-requires-clause-fed : goal.drop_heads-requires-clause-fed
drop_heads-requires-clause-fed c =
    let s = c.self.invariant in
    let node = c.args.node in
    let out : is_out c.self.inside.out.items node ≡ true = rw (← c.self.view_is) at c.requires.out in
    let turn = out_has c.self.inside s node out in
    moving.fed_then node c.self.inside.edges c.prepare.new.self (Some c.args.message.now) c.in_ok-prepare.ensures.ok c.put.new.self c.put.ensures
    (λ port a h e.
    let l : a < node = (ordered c.self.inside.plan.graph s.made.graph).down node port a (reads c.self.inside s node port a h) in
    omega (arith, l, e))
    (in_fed c.self.inside s node turn.fed)

pub show-requires : goal.show-requires
show-requires c = λ h.
    let s = c.self.invariant in
    let node = c.args.node in
    let plan = plan_of c.self.inside.plan in
    let here = position_of c.self.inside in
    let m = c.args.message.now in
    let out : is_out here.out node ≡ true = rw (← c.self.view_is) at c.requires.out in
    let message : msg_for plan here.journal node (suc (done_at here.done node)) ≡ Some m = rw (← c.self.view_is) at c.requires.sent in
    let sends : Sends plan here node m = record { graph = s.made.graph; sound = s.sound; out = out; message = message } in
    let shown : c.in_ok-shown.shown ≡ cond (eqb plan.graph.main node) (Some m) None = rw (← c.self.view_is) at c.in_ok-shown.ensures.value in
    (sent_finds_room plan here node m (spares_of c.self.inside) sends s.room).1 (moving.shows plan.graph.main node m c.in_ok-shown.shown shown h)

pub overflow_add-index_mut : goal.overflow_add-index_mut
overflow_add-index_mut c =
    let s = c.self.invariant in
    let node = c.args.node in
    let out : is_out c.self.inside.out.items node ≡ true = rw (← c.self.view_is) at c.requires.out in
    let turn = out_has c.self.inside s node out in
    let l : node < length c.self.inside.done.items = omega (arith, turn.node, s.sound.counts) in
    let p = next_in c.self.inside s node c.index_mut-2.result.now turn.node
    (get_or_read c.self.inside.done.items node c.index_mut-2.result.now l c.index_mut-2.ensures.value 0) in
    omega (arith, p.1)

pub overflow_add-self : goal.overflow_add-self
overflow_add-self c =
    let s = c.self.invariant in
    let l : settled_at (plan_of c.self.inside.plan) (position_of c.self.inside) < 274877906944 =
    settled_bound (plan_of c.self.inside.plan) s.made.graph (position_of c.self.inside) s.sound s.made.most in
    omega (arith, l, s.holds.settled_is)

pub invariant_of-self-2 : goal.invariant_of-self-2
invariant_of-self-2 c =
    let s = c.self.invariant in
    let node = c.args.node in
    let nodes = c.self.inside.plan.graph.nodes in
    let plan = plan_of c.self.inside.plan in
    let here = position_of c.self.inside in
    let m = c.args.message.now in
    let out : is_out here.out node ≡ true = rw (← c.self.view_is) at c.requires.out in
    let message : msg_for plan here.journal node (suc (done_at here.done node)) ≡ Some m = rw (← c.self.view_is) at c.requires.sent in
    let sends : Sends plan here node m = record { graph = s.made.graph; sound = s.sound; out = out; message = message } in
    let turn = out_has c.self.inside s node out in
    let over : c.over.result.now ≡ asyncs_over nodes node (length nodes) = c.over.ensures ∙ over_is c.self.inside s node turn.node in
    let shown : c.in_ok-shown.shown ≡ cond (eqb plan.graph.main node) (Some m) None = rw (← c.self.view_is) at c.in_ok-shown.ensures.value in
    let l : node < length here.done = omega (arith, turn.node, s.sound.counts) in
    let p = next_in c.self.inside s node c.index_mut-2.result.now turn.node (get_or_read here.done node c.index_mut-2.result.now l c.index_mut-2.ensures.value 0) in
    let d : ℕ = c.index_mut-2.result.now + 1 in
    let e0 = c.self.inside.edges in
    let e1 = c.prepare.new.self in
    let e2 = c.put.new.self in
    let e3 = c.drop_heads.new.self in
    let prepared = c.in_ok-prepare.ensures.ok in
    let passed = c.in_ok-pass_on.ensures.ok in
    let queues : length c.self.inside.waiting ≡ length nodes =
    sym (length-map c.self.inside.waiting (λ (q : QueueValue). q.items)) ∙ s.holds.waiting_length in
    let after = parts_of (record c.self.inside { kept = with_item c.self.inside.kept node c.in_ok-value.value; waiting = c.pass_on.new.self; outputs = c.show.new.outputs; turns_settled = c.self.inside.turns_settled + 1 }) in
    let spare = spares_of (record c.self.inside { waiting = c.pass_on.new.self; outputs = c.show.new.outputs }) in
    let count : out_count (set here.out node false) + 1 ≡ out_count here.out = count-clear here.out node out in
    record {
      made = moving.made_again plan e0.wiring e3.wiring e0.capacity e3.capacity c.self.inside.asyncs c.self.inside.sources.items
          (c.drop_heads.ensures.wiring ∙ (c.put.ensures.wiring ∙ prepared.wiring)) (c.drop_heads.ensures.capacity ∙ (c.put.ensures.capacity ∙ prepared.capacity)) s.made;
      sound = subst (IsSound plan) (sym (moving.sent_is here node d p.0)) (sent_sound plan here s.sound node out (m, message));
      typed = s.typed;
      holds = subst (λ (at : Position). Holds plan at (edge_in e3) after) (sym (moving.sent_is here node d p.0))
          (sent_holds plan here node m (edge_in e0) (edge_in e3) (parts_of c.self.inside) after sends s.holds
          (moving.sent_from plan node m c.self.inside.waiting c.pass_on.new.self c.over.result.now queues over passed (edge_in e0) (edge_in e3)
          c.self.inside.kept.items c.in_ok-value.value c.self.inside.outputs.items c.show.new.outputs.items c.in_ok-shown.shown c.self.inside.turns_settled
          (moving.edge_put plan node m e0 e1 e2 e3 s.made.graph (wired c.self.inside s) prepared c.put.ensures c.drop_heads.ensures)
          (moving.edge_taken plan node m e0 e1 e2 e3 s.made.graph (wired c.self.inside s) prepared c.put.ensures c.drop_heads.ensures)
          (moving.edge_other plan node m e0 e1 e2 e3 s.made.graph (wired c.self.inside s) prepared c.put.ensures c.drop_heads.ensures)
          (c.in_ok-value.ensures.value ∙ c.value_of.ensures) shown c.show.ensures.items));
      room = subst (λ (at : Position). KeepsRoom plan at spare) (sym (moving.sent_is here node d p.0))
          (sent_room plan here node m (spares_of c.self.inside) spare sends s.room
          (moving.spends plan node m c.self.inside.waiting c.pass_on.new.self c.over.result.now queues over passed c.self.inside.outputs c.show.new.outputs
          c.in_ok-shown.shown shown c.show.ensures.spare));
      counted = omega (arith, s.counted, count);
    }
