use Rattle.std.proofs.Common.{◌≡◌, ◌+◌, ◌<◌, true, [], ◌∷◌, ◌++◌, length, set, refl, ap, ◌∙◌, arith}
use Rattle.std.specs.List.{slice_get}
use Rattle.std.specs.Vec.{with_item, with_items}
use Rattle.std.proofs.lemmas.List.{get_or_read, length-map, with_items_is}
use Rattle.felm_graph.specs.Nodes.{is_source}
use Rattle.felm_meaning.specs.Plans.{plan_of}
use Rattle.felm_meaning.proofs.Legal.{source_within}
use Rattle.felm_edges.specs.EdgesValue.{HasRoomIn}
use Rattle.felm_edges.proofs.Wiring.{length-wiring_of}
use Rattle.felm_core.specs.Positions.{done_at}
use Rattle.felm_core.proofs.Runs.{inner_there}
use Rattle.felm_core.proofs.Sticks.{done_within}
use Rattle.felm_engine.specs.Queued.{QueueValue}
use Rattle.felm_engine.specs.Inside.{position_of}
use Rattle.felm_engine.proofs.Standing.{in_room}
use Rattle.felm_engine.proofs.SourceLists.{all_sources, all_distinct}
use Rattle.felm_engine.proofs.Entering.{Held, IsReadyFor, EntersFrom, HasEntered, MayEnter, has_entered, done_most, same_room_in, due_prepared, due_ready, roomy_ready, counts_after, on_ok, over_within, over_distinct, over_roomy}
use Rattle.felm_engine.proofs.Refusals.{held_by, still_stands, not_grown, not_touched, grown_same}
use Rattle.felm_engine.proofs.engine.Engine.enter.Goals as goal

pub overflow_sub-owed : goal.overflow_sub-owed
overflow_sub-owed c =
    let a = c.self.inside in
    let i = c.self.invariant in
    let l : c.main.result < length a.plan.graph.nodes = omega (arith, c.main.ensures, i.made.graph.main_there) in
    let r = get_or_read a.done.items c.main.result c.index.result.now (omega (arith, i.sound.counts)) c.index.ensures 0 in
    omega (arith, r, done_within (plan_of a.plan) (position_of a) i.made.graph i.sound c.main.result l, c.len-events.ensures)

pub invariant_of-self : goal.invariant_of-self
invariant_of-self c =
    let a = c.self.inside in
    still_stands a c.reserve.new.self a.edges a.waiting a.outputs c.self.invariant c.reserve.ensures.items (not_touched a.edges) (not_grown a.waiting) refl
    (omega arith)

pub invariant_of-self-in_err-reserve-2 : goal.invariant_of-self-in_err-reserve-2
invariant_of-self-in_err-reserve-2 c =
    let a = c.self.inside in
    still_stands a c.reserve.new.self a.edges a.waiting c.reserve-2.new.self c.self.invariant c.reserve.ensures.items (not_touched a.edges)
    (not_grown a.waiting) c.reserve-2.ensures.items c.reserve-2.ensures.spare

pub reserve_queues-requires-clause-nodes : goal.reserve_queues-requires-clause-nodes
reserve_queues-requires-clause-nodes c =
    let nodes = c.self.inside.plan.graph.nodes in
    all_sources nodes c.as_slice-sources.result.now (c.as_slice-sources.ensures ∙ c.self.invariant.made.sources_are) (λ k. k < length c.nodes.result.now)
    (λ k h. omega (arith, source_within nodes k h, ap length c.nodes.ensures.nodes))

pub reserve_queues-requires-clause-inner : goal.reserve_queues-requires-clause-inner
reserve_queues-requires-clause-inner c =
    rw c.nodes.ensures.nodes (λ k x h. inner_there (plan_of c.self.inside.plan) c.self.invariant.made.graph k x h)

pub reserve_queues-requires-clause-sent : goal.reserve_queues-requires-clause-sent
reserve_queues-requires-clause-sent c = λ k.
    omega (
      arith,
      done_most (plan_of c.self.inside.plan) (position_of c.self.inside) k c.self.invariant.made.graph c.self.invariant.sound,
      ap (λ ds. done_at ds k) c.deref.ensures.value,
      c.len-events.ensures,
    )

pub invariant_of-self-in_err-reserve_queues : goal.invariant_of-self-in_err-reserve_queues
invariant_of-self-in_err-reserve_queues c =
    let a = c.self.inside in
    still_stands a c.reserve.new.self a.edges c.reserve_queues.new.waiting c.reserve-2.new.self c.self.invariant c.reserve.ensures.items
    (not_touched a.edges) c.reserve_queues.ensures.stays c.reserve-2.ensures.items c.reserve-2.ensures.spare

pub prepare-requires : goal.prepare-requires
prepare-requires c =
    let a = c.self.inside in
    let i = c.self.invariant in
    let source : is_source a.plan.graph.nodes c.args.event.source ≡ true = rw (← c.self.view_is) at c.requires.may.source in
    let are = c.over-asyncs.ensures ∙ i.made.asyncs_are.over c.args.event.source (source_within a.plan.graph.nodes c.args.event.source source) in
    record {
      within = λ j b h. omega (
        arith,
        over_within (plan_of a.plan) (position_of a) c.args.event c.as_slice-sources.result.now c.over-asyncs.result.now a.waiting a.waiting i.made.graph source
            (c.as_slice-sources.ensures ∙ i.made.sources_are) are j b h,
        c.reserve_queues.ensures.stays.lengths,
        i.holds.waiting_length,
        length-map a.waiting (λ (q : QueueValue). q.items),
      );
    }

pub invariant_of-self-in_err-prepare : goal.invariant_of-self-in_err-prepare
invariant_of-self-in_err-prepare c =
    let a = c.self.inside in
    still_stands a c.reserve.new.self a.edges c.prepare.new.self c.reserve-2.new.self c.self.invariant c.reserve.ensures.items (not_touched a.edges)
    (grown_same a.waiting c.reserve_queues.new.waiting c.prepare.new.self c.reserve_queues.ensures.stays c.prepare.ensures.stays)
    c.reserve-2.ensures.items c.reserve-2.ensures.spare

pub prepare_messages-requires-clause-nodes : goal.prepare_messages-requires-clause-nodes
prepare_messages-requires-clause-nodes c =
    let a = c.self.inside in
    let nodes = a.plan.graph.nodes in
    all_sources nodes c.as_slice-sources.result.now (c.as_slice-sources.ensures ∙ c.self.invariant.made.sources_are) (λ k. k < length a.edges.wiring)
    (λ k h. omega (arith, source_within nodes k h, ap length c.self.invariant.made.wiring_is, length-wiring_of nodes))

pub invariant_of-self-in_err-prepare_messages : goal.invariant_of-self-in_err-prepare_messages
invariant_of-self-in_err-prepare_messages c =
    let a = c.self.inside in
    still_stands a c.reserve.new.self c.prepare_messages.new.edges c.prepare.new.self c.reserve-2.new.self c.self.invariant c.reserve.ensures.items
    c.prepare_messages.ensures.stays
    (grown_same a.waiting c.reserve_queues.new.waiting c.prepare.new.self c.reserve_queues.ensures.stays c.prepare.ensures.stays)
    c.reserve-2.ensures.items c.reserve-2.ensures.spare

pub invariant_of-self-in_err-shown : goal.invariant_of-self-in_err-shown
invariant_of-self-in_err-shown c =
    let a = c.self.inside in
    still_stands a c.reserve.new.self c.prepare_messages.new.edges c.prepare.new.self c.reserve-2.new.self c.self.invariant c.reserve.ensures.items
    c.prepare_messages.ensures.stays
    (grown_same a.waiting c.reserve_queues.new.waiting c.prepare.new.self c.reserve_queues.ensures.stays c.prepare.ensures.stays)
    c.reserve-2.ensures.items c.reserve-2.ensures.spare

pub invariant_of-self-in_err-kept : goal.invariant_of-self-in_err-kept
invariant_of-self-in_err-kept c =
    let a = c.self.inside in
    still_stands a c.reserve.new.self c.prepare_messages.new.edges c.prepare.new.self c.reserve-2.new.self c.self.invariant c.reserve.ensures.items
    c.prepare_messages.ensures.stays
    (grown_same a.waiting c.reserve_queues.new.waiting c.prepare.new.self c.reserve_queues.ensures.stays c.prepare.ensures.stays)
    c.reserve-2.ensures.items c.reserve-2.ensures.spare

pub put_messages-requires-clause-distinct : goal.put_messages-requires-clause-distinct
put_messages-requires-clause-distinct c =
    all_distinct c.self.inside.plan.graph.nodes c.as_slice-sources.result.now (c.as_slice-sources.ensures ∙ c.self.invariant.made.sources_are)

pub put_messages-requires-clause-room : goal.put_messages-requires-clause-room
put_messages-requires-clause-room c =
    let a = c.self.inside in
    let i = c.self.invariant in
    let place = rw (← c.self.view_is) at c.requires.place.room in
    all_sources a.plan.graph.nodes c.as_slice-sources.result.now (c.as_slice-sources.ensures ∙ i.made.sources_are) (HasRoomIn c.prepare_messages.new.edges)
    (λ k h. same_room_in a.edges c.prepare_messages.new.edges k c.prepare_messages.ensures.stays
    (in_room a i k (place k h)))

pub put_messages-requires-clause-prepared : goal.put_messages-requires-clause-prepared
put_messages-requires-clause-prepared c =
    let a = c.self.inside in
    let i = c.self.invariant in
    due_prepared a.plan.graph.nodes c.as_slice-sources.result.now c.args.event c.deref-2.result.now c.prepare_messages.new.edges
    (c.as_slice-sources.ensures ∙ i.made.sources_are) (ap length c.deref-2.ensures.value ∙ i.holds.kept_length) c.in_ok-prepare_messages.ensures.ok

pub count_messages-requires : goal.count_messages-requires
count_messages-requires c =
    let a = c.self.inside in
    let i = c.self.invariant in
    all_sources a.plan.graph.nodes c.as_slice-sources.result.now (c.as_slice-sources.ensures ∙ i.made.sources_are) (λ k. k < length c.deref_mut.result.now)
    (λ k h. omega (arith, source_within a.plan.graph.nodes k h, ap length c.deref_mut.ensures.value, i.sound.counts))

pub index_mut-requires : goal.index_mut-requires
index_mut-requires c =
    let a = c.self.inside in
    let source : is_source a.plan.graph.nodes c.args.event.source ≡ true = rw (← c.self.view_is) at c.requires.may.source in
    omega (arith, source_within a.plan.graph.nodes c.args.event.source source, c.self.invariant.holds.kept_length, a.kept.ok.0)

pub take_first-requires : goal.take_first-requires
take_first-requires c =
    let a = c.self.inside in
    let source : is_source a.plan.graph.nodes c.args.event.source ≡ true = rw (← c.self.view_is) at c.requires.may.source in
    omega (
      arith,
      source_within a.plan.graph.nodes c.args.event.source source,
      c.prepare.ensures.stays.lengths,
      c.reserve_queues.ensures.stays.lengths,
      c.self.invariant.holds.waiting_length,
      length-map a.waiting (λ (q : QueueValue). q.items),
    )

pub put-requires-clause-within : goal.put-requires-clause-within
put-requires-clause-within c =
    let a = c.self.inside in
    let i = c.self.invariant in
    let source : is_source a.plan.graph.nodes c.args.event.source ≡ true = rw (← c.self.view_is) at c.requires.may.source in
    let are = c.over-asyncs.ensures ∙ i.made.asyncs_are.over c.args.event.source (source_within a.plan.graph.nodes c.args.event.source source) in
    λ j b h. omega (
      arith,
      over_within (plan_of a.plan) (position_of a) c.args.event c.as_slice-sources.result.now c.over-asyncs.result.now a.waiting a.waiting i.made.graph source
          (c.as_slice-sources.ensures ∙ i.made.sources_are) are j b h,
      c.take_first.ensures.lengths,
      c.prepare.ensures.stays.lengths,
      c.reserve_queues.ensures.stays.lengths,
      i.holds.waiting_length,
      length-map a.waiting (λ (q : QueueValue). q.items),
    )

pub put-requires-clause-distinct : goal.put-requires-clause-distinct
put-requires-clause-distinct c =
    let a = c.self.inside in
    let i = c.self.invariant in
    let source : is_source a.plan.graph.nodes c.args.event.source ≡ true = rw (← c.self.view_is) at c.requires.may.source in
    let are = c.over-asyncs.ensures ∙ i.made.asyncs_are.over c.args.event.source (source_within a.plan.graph.nodes c.args.event.source source) in
    over_distinct (plan_of a.plan) (position_of a) c.args.event c.as_slice-sources.result.now c.over-asyncs.result.now a.waiting a.waiting i.made.graph source
    (c.as_slice-sources.ensures ∙ i.made.sources_are) are

pub put-requires-clause-room : goal.put-requires-clause-room
put-requires-clause-room c =
    let a = c.self.inside in
    let i = c.self.invariant in
    let source : is_source a.plan.graph.nodes c.args.event.source ≡ true = rw (← c.self.view_is) at c.requires.may.source in
    let are = c.over-asyncs.ensures ∙ i.made.asyncs_are.over c.args.event.source (source_within a.plan.graph.nodes c.args.event.source source) in
    let srcs = c.as_slice-sources.result.now in
    over_roomy (plan_of a.plan) (position_of a) c.args.event srcs c.over-asyncs.result.now c.prepare.new.self c.take_first.new.self i.made.graph source
    (c.as_slice-sources.ensures ∙ i.made.sources_are) are
    (roomy_ready (plan_of a.plan) (position_of a) srcs c.nodes.result.now c.deref.result.now c.len-events.result c.reserve_queues.new.waiting c.prepare.new.self
    c.nodes.ensures.nodes c.deref.ensures.value c.len-events.ensures c.in_ok-reserve_queues.ensures.ok c.prepare.ensures.stays)
    c.take_first.ensures

pub show-requires : goal.show-requires
show-requires c = λ h. omega (arith, c.in_ok-reserve-2.ensures.ok)

-- what the engine keeps after the event
entered : (c : goal.After-push)
    → HasEntered (plan_of c.self.inside.plan) (position_of c.self.inside) c.args.event
    (record (position_of c.self.inside) { journal = c.push.new.self.items; done = (with_items c.self.inside.done c.count_messages.new.done).items })
    (record {
      edges = c.put_messages.new.edges;
      kept = (with_item c.self.inside.kept c.args.event.source c.in_ok-kept.kept).items;
      queues = c.put.new.self;
      outputs = c.show.new.outputs;
    }) c.self.inside.turns_settled
entered c =
    let a = c.self.inside in
    let i = c.self.invariant in
    let s = plan_of a.plan in
    let e = c.args.event in
    let srcs = c.as_slice-sources.result.now in
    let source : is_source a.plan.graph.nodes e.source ≡ true = rw (← c.self.view_is) at c.requires.may.source in
    let sources_are = c.as_slice-sources.ensures ∙ i.made.sources_are in
    let over_are = c.over-asyncs.ensures ∙ i.made.asyncs_are.over e.source (source_within a.plan.graph.nodes e.source source) in
    let may : MayEnter s (position_of a) e = record {
      place = rw (← c.self.view_is) at c.requires.place;
      source = source;
      typed = rw (← c.self.view_is) at c.requires.may.typed;
      waits = rw (← c.self.view_is) at c.requires.may.waits;
    } in
    let ready : Held = record { edges = c.prepare_messages.new.edges; kept = a.kept.items; queues = c.prepare.new.self; outputs = c.reserve-2.new.self } in
    let new : Held = record {
      edges = c.put_messages.new.edges;
      kept = (with_item a.kept e.source c.in_ok-kept.kept).items;
      queues = c.put.new.self;
      outputs = c.show.new.outputs;
    } in
    let main : c.main.result < length a.plan.graph.nodes = omega (arith, c.main.ensures, i.made.graph.main_there) in
    let owed = get_or_read a.done.items c.main.result c.index.result.now (omega (arith, i.sound.counts)) c.index.ensures 0
    ∙ ap (done_at a.done.items) c.main.ensures in
    let first : IsReadyFor s (position_of a) e srcs c.over-asyncs.result.now (held_by a) ready = record {
      edges = c.prepare_messages.ensures.stays;
      due = due_ready srcs e c.deref-2.result.now a.kept.items c.prepare_messages.new.edges c.deref-2.ensures.value c.in_ok-prepare_messages.ensures.ok;
      kept = refl;
      grown = grown_same a.waiting c.reserve_queues.new.waiting c.prepare.new.self c.reserve_queues.ensures.stays c.prepare.ensures.stays;
      roomy = roomy_ready s (position_of a) srcs c.nodes.result.now c.deref.result.now c.len-events.result c.reserve_queues.new.waiting c.prepare.new.self
          c.nodes.ensures.nodes c.deref.ensures.value c.len-events.ensures c.in_ok-reserve_queues.ensures.ok c.prepare.ensures.stays;
      prepared = c.in_ok-prepare.ensures.ok;
      outputs = c.reserve-2.ensures.items;
      owed = omega (arith, owed, c.len-events.ensures, c.in_ok-reserve-2.ensures.ok);
    } in
    let enters : EntersFrom e srcs c.over-asyncs.result.now c.in_ok-shown.shown ready new = record {
      edges = c.put_messages.ensures;
      kept = ap (λ v. set a.kept.items e.source v) c.in_ok-kept.ensures.value;
      between = c.take_first.new.self;
      taken = c.take_first.ensures;
      put = c.put.ensures;
      outputs = c.show.ensures.items;
      spare = c.show.ensures.spare;
    } in
    has_entered s (position_of a) e srcs c.over-asyncs.result.now c.in_ok-shown.shown (held_by a) ready new a.turns_settled c.push.new.self.items
    (with_items a.done c.count_messages.new.done).items i.made.graph i.sound i.typed may sources_are over_are i.made.wiring_is i.holds
    (λ v h. c.in_ok-shown.ensures v (ap (λ vs. slice_get vs a.plan.graph.main) c.deref-3.ensures.value ∙ h)) first enters
    (on_ok c.push.result (c.push.new.self.items ≡ c.reserve.new.self.items ++ e ∷ []) (c.push.ensures.room (omega (arith, c.in_ok-reserve.ensures.ok))) c.push.ensures.ok
    ∙ ap (λ j. j ++ e ∷ []) c.reserve.ensures.items)
    (counts_after srcs (c.len-events.result + 1) (length a.journal.items + 1) c.deref_mut.result.now a.done.items c.count_messages.new.done
    (with_items a.done c.count_messages.new.done).items (ap (λ n. n + 1) c.len-events.ensures) c.deref_mut.ensures.value
    (with_items_is a.done c.count_messages.new.done (omega (arith, c.count_messages.ensures.lengths, ap length c.deref_mut.ensures.value, a.done.ok.0)))
    c.count_messages.ensures)

pub invariant_of-self-2 : goal.invariant_of-self-2
invariant_of-self-2 c =
    let i = c.self.invariant in
    let e = entered c in
    record {
      made = record {
        graph = i.made.graph;
        wiring_is = c.put_messages.ensures.wiring ∙ (c.prepare_messages.ensures.stays.wiring ∙ i.made.wiring_is);
        capacity_is = c.put_messages.ensures.capacity ∙ (c.prepare_messages.ensures.stays.capacity ∙ i.made.capacity_is);
        asyncs_are = i.made.asyncs_are;
        sources_are = i.made.sources_are;
        least = i.made.least;
        most = i.made.most;
      };
      sound = e.sound;
      typed = e.typed;
      holds = e.holds;
      room = e.room;
      counted = i.counted;
    }

pub returns-clause-ok : goal.returns-clause-ok
returns-clause-ok c = rw (← c.self.view_is) (record { plan = refl; leads = (entered c).leads })
