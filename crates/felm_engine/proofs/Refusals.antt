-- An engine whose event was refused for want of memory is as it was.
use Rattle.std.proofs.Common.{◌≡◌, ℕ, ◌≤◌, List, length, map, refl, sym, ap, ◌∙◌, subst, arith}
use Rattle.std.specs.List.{slice_get}
use Rattle.std.proofs.lemmas.List.{length-map}
use Rattle.felm_term.specs.Spared.{Spared}
use Rattle.felm_term.specs.declared.value.Value.{Value}
use Rattle.felm_term.specs.declared.message.Message.{Message}
use Rattle.felm_term.specs.declared.event.Event.{Event}
use Rattle.felm_meaning.specs.PlanValue.{PlanValue}
use Rattle.felm_meaning.specs.Plans.{plan_of}
use Rattle.felm_meaning.specs.Types.{EventsFit}
use Rattle.felm_core.specs.Positions.{Position, IsSound}
use Rattle.felm_core.specs.Holds.{Holds, KeepsRoom}
use Rattle.felm_edges.specs.EdgesValue.{EdgesValue, edge_in}
use Rattle.felm_engine.specs.Queued.{QueueValue, SameQueues}
use Rattle.felm_engine.specs.Sources.{SameEdges, Grown}
use Rattle.felm_engine.specs.Inside.{IsStanding, position_of}
use Rattle.felm_engine.specs.declared.engine.Engine.TheInside.{Inside}
use Rattle.felm_engine.proofs.Entering.{Held, parts_in, spares_in, waiting_in}

pub not_grown : (queues : List QueueValue) → Grown queues queues
not_grown queues = record { lengths = refl; items = λ k. refl; spare = λ k. omega arith }

pub grown_same : (old mid new : List QueueValue) → Grown old mid → SameQueues mid new → Grown old new
grown_same old mid new grown same = record {
  lengths = same.lengths ∙ grown.lengths;
  items = λ k. same.items k ∙ grown.items k;
  spare = λ k. omega (arith, same.spare k, grown.spare k);
}

pub not_touched : (edges : EdgesValue) → SameEdges edges edges
not_touched edges = record { wiring = refl; capacity = refl; lists = refl }

-- the same lies everywhere, with no less room
pub record IsUntouched (old new : Held) : Type 0 where
  pub edges : SameEdges old.edges new.edges
  pub kept : new.kept ≡ old.kept
  pub queues : Grown old.queues new.queues
  pub outputs : new.outputs.items ≡ old.outputs.items
  pub spare : old.outputs.spare ≤ new.outputs.spare

pub untouched_holds : (s : PlanValue) (c : Position) (old new : Held) (settled : ℕ) → IsUntouched old new → Holds s c (edge_in old.edges) (parts_in old settled)
    → Holds s c (edge_in new.edges) (parts_in new settled)
untouched_holds s c old new settled same holds = record {
  edges_are = λ k port a h. ap (λ (rows : List (List (List Message))). edge_in (record old.edges { lists = rows }) k port) same.edges.lists ∙ holds.edges_are k port a h;
  kept_length = ap length same.kept ∙ holds.kept_length;
  kept_are = λ k l. ap (λ (vs : List Value). slice_get vs k) same.kept ∙ holds.kept_are k l;
  waiting_length = omega (arith, lengths new.queues, lengths old.queues, same.queues.lengths, holds.waiting_length);
  waiting_are = λ a l. waiting_in new settled a ∙ (same.queues.items a ∙ (sym (waiting_in old settled a) ∙ holds.waiting_are a l));
  outputs_are = same.outputs ∙ holds.outputs_are;
  settled_is = holds.settled_is;
}
  where
    lengths : (queues : List QueueValue) → length (map (λ (q : QueueValue). q.items) queues) ≡ length queues
    lengths queues = length-map queues (λ (q : QueueValue). q.items)

pub untouched_room : (s : PlanValue) (c : Position) (old new : Held) → IsUntouched old new → KeepsRoom s c (spares_in old) → KeepsRoom s c (spares_in new)
untouched_room s c old new same room = record {
  waiting = λ a x h. omega (arith, room.waiting a x h, same.queues.spare a);
  outputs = omega (arith, room.outputs, same.spare);
}

abbrev pub held_by : Inside → Held
held_by a = record { edges = a.edges; kept = a.kept.items; queues = a.waiting; outputs = a.outputs }

-- so the engine still stands
pub still_stands : (a : Inside) (journal : Spared Event) (edges : EdgesValue) (queues : List QueueValue) (outputs : Spared Message) → IsStanding a
    → journal.items ≡ a.journal.items → SameEdges a.edges edges → Grown a.waiting queues → outputs.items ≡ a.outputs.items → a.outputs.spare ≤ outputs.spare
    → IsStanding (record a { journal = journal; edges = edges; waiting = queues; outputs = outputs })
still_stands a journal edges queues outputs stands j same grown out spare = record {
  made = record {
    graph = stands.made.graph;
    wiring_is = same.wiring ∙ stands.made.wiring_is;
    capacity_is = same.capacity ∙ stands.made.capacity_is;
    asyncs_are = stands.made.asyncs_are;
    sources_are = stands.made.sources_are;
    least = stands.made.least;
    most = stands.made.most;
  };
  sound = subst (IsSound (plan_of a.plan)) at stands.sound;
  typed = subst (EventsFit a.plan.graph) (sym j) stands.typed;
  holds = subst (λ (c : Position). Holds (plan_of a.plan) c (edge_in edges) (parts_in new a.turns_settled)) at
      (untouched_holds (plan_of a.plan) (position_of a) (held_by a) new a.turns_settled untouched stands.holds);
  room = subst (λ (c : Position). KeepsRoom (plan_of a.plan) c (spares_in new)) at
      (untouched_room (plan_of a.plan) (position_of a) (held_by a) new untouched stands.room);
  counted = stands.counted;
}
  where
    new : Held
    new = record { edges = edges; kept = a.kept.items; queues = queues; outputs = outputs }

    at : position_of a ≡ record (position_of a) { journal = journal.items }
    at = ap (λ (j : List Event). record (position_of a) { journal = j }) (sym j)

    untouched : IsUntouched (held_by a) new
    untouched = record { edges = same; kept = refl; queues = grown; outputs = out; spare = spare }
