-- What each move leaves of an engine's fields.
use Rattle.std.proofs.Common.{◌≡◌, ℕ, suc, zero, ◌+◌, ◌^◌, ◌<◌, ◌≤◌, inl, inr, Bool, true, false, cond, eqb, Option, Some, None, List, [], ◌∷◌, ◌++◌, length, map, drop, set, get_or, refl, sym, ap, ◌∙◌, subst, arith}
use Rattle.std.specs.List.{slice_get}
use Rattle.std.specs.Option.{option_to_list, is_some}
use Rattle.std.proofs.lemmas.Bool.{cases_lt, false≢true, eqb-true}
use Rattle.std.proofs.lemmas.Option.{none-some}
use Rattle.std.proofs.lemmas.List.{length-map, get_or-map, get_or_past, same_lists, append-nil}
use Rattle.felm_term.specs.Values.{value_of}
use Rattle.felm_term.specs.Spared.{Spared}
use Rattle.felm_term.specs.declared.value.Value.{Value}
use Rattle.felm_term.specs.declared.message.Message.{Message}
use Rattle.felm_graph.specs.declared.node.Node.{Node}
use Rattle.felm_graph.specs.Graphs.{IsGraph}
use Rattle.felm_meaning.specs.PlanValue.{PlanValue}
use Rattle.felm_meaning.specs.OfPlans.{msg_for}
use Rattle.felm_meaning.specs.Nodes.{inner}
use Rattle.felm_meaning.specs.Meaning.{changed_in}
use Rattle.felm_meaning.proofs.Graphs.{ordered}
use Rattle.felm_core.specs.Positions.{StopValue, Position, done_at, is_out, Reads, IsSound}
use Rattle.felm_core.specs.Moves.{stop_or, sent}
use Rattle.felm_core.specs.Holds.{Edges, Parts, Holds, SentFrom, KeepsRoom, SpendsFrom}
use Rattle.felm_core.proofs.Turns.{stopped_sound}
use Rattle.felm_core.proofs.Sticks.{done_within}
use Rattle.felm_edges.specs.EdgesValue.{EdgesValue, IsWired, ReadsIn, edge_in, HasRoomIn, IsFedIn}
use Rattle.felm_edges.specs.Changes.{PreparedFrom, PutFrom, DroppedFrom}
use Rattle.felm_engine.specs.Inside.{IsMade}
use Rattle.felm_engine.specs.Lists.{asyncs_over}
use Rattle.felm_engine.specs.Queued.{QueueValue, no_queue, queue_at, IsIn, SameQueues, PassedOn}
use Rattle.felm_engine.proofs.OverLists.{asyncs-over, over-asyncs}

-- ---- positions

-- the next position of a node is no large number
pub next_position : (plan : PlanValue) (c : Position) (k x : ℕ) → IsGraph plan.graph → IsSound plan c → plan.limit ≤ 16777216 → k < length plan.graph.nodes
    → x ≡ done_at c.done k → (x + 1 ≡ suc (done_at c.done k)) × (x + 1 < 2 ^ 64)
next_position plan c k x graph sound most l e =
    let d : done_at c.done k ≤ length c.journal = done_within plan c graph sound k l in
    let j : length c.journal ≤ plan.limit = sound.within in
    (omega arith, omega arith)

pub stopped_at : (plan : PlanValue) (c : Position) (k p : ℕ) (stop : Option StopValue) → IsGraph plan.graph → IsSound plan c → is_out c.out k ≡ true
    → msg_for plan c.journal k (suc (done_at c.done k)) ≡ None → p ≡ suc (done_at c.done k)
    → stop ≡ stop_or c.stop (record { node = k; position = p }) → IsSound plan (record c { out = set c.out k false; stop = stop })
stopped_at plan c k p stop graph sound out none e q =
    subst (λ (s : Option StopValue). IsSound plan (record c { out = set c.out k false; stop = s }))
    (sym (q ∙ ap (λ (n : ℕ). stop_or c.stop (record { node = k; position = n })) e)) (stopped_sound plan c sound k graph out none)

-- with no turn out a position is as sound
pub none_out_sound : (plan : PlanValue) (c : Position) (out : List Bool) → IsSound plan c → length out ≡ length c.out → ((k : ℕ) → is_out out k ≡ false)
    → IsSound plan (record c { out = out })
none_out_sound plan c out sound l none = record {
  counts = sound.counts;
  flags = l ∙ sound.flags;
  defaults = sound.defaults;
  within = sound.within;
  events = sound.events;
  caused = sound.caused;
  sources = sound.sources;
  fed = sound.fed;
  room = sound.room;
  sent = sound.sent;
  entered = sound.entered;
  turns = λ k h. absurd (false≢true (sym (none k) ∙ h));
  stops = sound.stops;
}

abbrev pub sent_to : Position → ℕ → ℕ → Position
sent_to c k d = record c { done = set c.done k d; out = set c.out k false }

pub sent_is : (c : Position) (k d : ℕ) → d ≡ suc (done_at c.done k) → sent_to c k d ≡ sent c k
sent_is c k d e = ap (sent_to c k) e

-- ---- contents that stay

-- the lists that are made once stay with the edges' wiring and capacity
pub made_again : (plan : PlanValue) (wiring wiring' : List (List ℕ)) (capacity capacity' : ℕ) (asyncs : List (List ℕ)) (sources : List ℕ)
    → wiring' ≡ wiring → capacity' ≡ capacity → IsMade plan wiring capacity asyncs sources → IsMade plan wiring' capacity' asyncs sources
made_again plan wiring wiring' capacity capacity' asyncs sources w q made = record {
  graph = made.graph;
  wiring_is = w ∙ made.wiring_is;
  capacity_is = q ∙ made.capacity_is;
  asyncs_are = made.asyncs_are;
  sources_are = made.sources_are;
  least = made.least;
  most = made.most;
}

-- what is prepared is no part of what edges hold
pub same_edges : (plan : PlanValue) (c : Position) (old new : EdgesValue) (parts : Parts) → new.lists ≡ old.lists → Holds plan c (edge_in old) parts
    → Holds plan c (edge_in new) parts
same_edges plan c old new parts e holds =
    subst (λ (ls : List (List (List Message))). Holds plan c (λ k port. get_or (get_or ls k []) port []) parts) (sym e) holds

abbrev pub items_of : List QueueValue → List (List Value)
items_of queues = map (λ (q : QueueValue). q.items) queues

pub items_at : (queues : List QueueValue) (a : ℕ) → get_or (items_of queues) a [] ≡ (queue_at queues a).items
items_at queues a = elim (cases_lt a (length queues)) [
  | inl l ↦ get_or-map (λ (q : QueueValue). q.items) queues a no_queue [] l
  | inr l ↦
      let m : length (items_of queues) ≤ a = omega (arith, l, length-map queues (λ (q : QueueValue). q.items)) in
      get_or_past (items_of queues) a [] m ∙ ap (λ (q : QueueValue). q.items) (sym (get_or_past queues a no_queue l))
]

pub same_items : (old new : List QueueValue) → SameQueues old new → items_of new ≡ items_of old
same_items old new same =
    same_lists (items_of new) (items_of old) n (λ k d l. at k d l)
  where
    n : length (items_of new) ≡ length (items_of old)
    n = length-map new _ ∙ (same.lengths ∙ sym (length-map old _))

    at : (k : ℕ) (d : List Value) → k < length (items_of new) → get_or (items_of new) k d ≡ get_or (items_of old) k d
    at k d l =
        let m : k < length new = omega (arith, l, length-map new (λ (q : QueueValue). q.items)) in
        let o : k < length old = omega (arith, m, same.lengths) in
        get_or-map (λ (q : QueueValue). q.items) new k no_queue d m ∙ (same.items k ∙ sym (get_or-map (λ (q : QueueValue). q.items) old k no_queue d o))

pub same_room : (plan : PlanValue) (c : Position) (old new : List QueueValue) (spare : ℕ) → SameQueues old new
    → KeepsRoom plan c (record { waiting = λ k. (queue_at old k).spare; outputs = spare })
    → KeepsRoom plan c (record { waiting = λ k. (queue_at new k).spare; outputs = spare })
same_room plan c old new spare same room = record {
  waiting = λ a x h. let l = room.waiting a x h in omega (arith, l, same.spare a);
  outputs = room.outputs;
}

-- the same with the waiting lists that stay
pub same_waiting : (plan : PlanValue) (c : Position) (edges : Edges) (kept : List Value) (old new : List QueueValue) (outputs : List Message) (settled : ℕ)
    → SameQueues old new → Holds plan c edges (record { kept = kept; waiting = items_of old; outputs = outputs; settled = settled })
    → Holds plan c edges (record { kept = kept; waiting = items_of new; outputs = outputs; settled = settled })
same_waiting plan c edges kept old new outputs settled same holds =
    subst (λ (w : List (List Value)). Holds plan c edges (record { kept = kept; waiting = w; outputs = outputs; settled = settled })) (sym (same_items old new same)) holds

-- ---- a message that is sent

module _ (plan : PlanValue) (k : ℕ) (m : Message) (e0 e1 e2 e3 : EdgesValue) (graph : IsGraph plan.graph)
    (wired : (r port a : ℕ) → Reads plan.graph.nodes r port a → ReadsIn e0 r port a) (prepared : PreparedFrom e0 k (Some m) e1) (put : PutFrom e1 k e2)
    (dropped : DroppedFrom e2 k e3) where
  lists_stay : (r port : ℕ) → edge_in e1 r port ≡ edge_in e0 r port
  lists_stay r port = ap (λ (ls : List (List (List Message))). get_or (get_or ls r []) port []) prepared.lists

  wired_then : (r port a : ℕ) → Reads plan.graph.nodes r port a → ReadsIn e1 r port a
  wired_then r port a h = subst (λ (w : List (List ℕ)). slice_get (get_or w r []) port ≡ Some a) (sym prepared.wiring) (wired r port a h)

  -- no node reads itself
  other_node : (r port : ℕ) → Reads plan.graph.nodes r port k → r ≡ k → ⊥
  other_node r port h e = let l : k < r = (ordered plan.graph graph).down r port k h in omega arith

  pub edge_put : (r port : ℕ) → Reads plan.graph.nodes r port k → edge_in e3 r port ≡ edge_in e0 r port ++ m ∷ []
  edge_put r port h =
      dropped.stays r port (other_node r port h) ∙
      (put.put r port m (wired_then r port k h) prepared.prepared ∙ ap (λ (ms : List Message). ms ++ m ∷ []) (lists_stay r port))

  pub edge_taken : (port a : ℕ) → Reads plan.graph.nodes k port a → edge_in e3 k port ≡ drop 1 (edge_in e0 k port)
  edge_taken port a h =
      let n : a ≡ k → ⊥ = λ e. let l : a < k = (ordered plan.graph graph).down k port a h in omega arith in
      dropped.taken port ∙ ap (drop 1) (put.stays k port a (wired_then k port a h) n ∙ lists_stay k port)

  pub edge_other : (r port a : ℕ) → Reads plan.graph.nodes r port a → (k ≡ a → ⊥) → (k ≡ r → ⊥) → edge_in e3 r port ≡ edge_in e0 r port
  edge_other r port a h n o =
      dropped.stays r port (λ e. o (sym e)) ∙ (put.stays r port a (wired_then r port a h) (λ e. n (sym e)) ∙ lists_stay r port)

-- ---- when a message may be put and heads taken

module _ (k : ℕ) (e0 e1 : EdgesValue) (o : Option Message) (prepared : PreparedFrom e0 k o e1) where
  edge_then : (r port : ℕ) → edge_in e1 r port ≡ edge_in e0 r port
  edge_then r port = ap (λ (ls : List (List (List Message))). get_or (get_or ls r []) port []) prepared.lists

  pub room_then : HasRoomIn e0 k → HasRoomIn e1 k
  room_then room r port h =
      let h' : ReadsIn e0 r port k = subst (λ (w : List (List ℕ)). IsWired w r port k) prepared.wiring h in
      let l : length (edge_in e0 r port) < e0.capacity = room r port h' in
      omega (arith, l, ap length (edge_then r port), prepared.capacity)

  -- the heads of the node's own edges are still there after its message was put, as it doesn't read itself
  pub fed_then : (e2 : EdgesValue) → PutFrom e1 k e2 → ((port a : ℕ) → ReadsIn e0 k port a → a ≡ k → ⊥) → IsFedIn e0 k → IsFedIn e2 k
  fed_then e2 put apart fed port a h =
      let h1 : ReadsIn e1 k port a = subst (λ (w : List (List ℕ)). IsWired w k port a) put.wiring h in
      let h0 : ReadsIn e0 k port a = subst (λ (w : List (List ℕ)). IsWired w k port a) prepared.wiring h1 in
      let l : 0 < length (edge_in e0 k port) = fed port a h0 in
      let q : edge_in e2 k port ≡ edge_in e0 k port = put.stays k port a h1 (apart port a h0) ∙ edge_then k port in
      omega (arith, l, ap length q)

-- a message is shown where its node is the shown one
pub shows : (main k : ℕ) (m : Message) (shown : Option Message) → shown ≡ cond (eqb main k) (Some m) None → is_some shown ≡ true → main ≡ k
shows main k m shown e h = go (eqb main k) refl
  where
    go : (b : Bool) → eqb main k ≡ b → main ≡ k
    go true q = eqb-true main k q
    go false q = absurd (false≢true (sym (ap is_some (e ∙ ap (λ (b : Bool). cond b (Some m) None) q)) ∙ h))

-- ---- the asyncs over node k

module _ (plan : PlanValue) (k : ℕ) (m : Message) (old new : List QueueValue) (nodes : List ℕ) (lengths : length old ≡ length plan.graph.nodes)
    (asyncs : nodes ≡ asyncs_over plan.graph.nodes k (length plan.graph.nodes)) (passed : PassedOn nodes m old new) where
  within : (a : ℕ) → inner plan.graph.nodes a ≡ Some k → a < length plan.graph.nodes
  within a h = elim (cases_lt a (length plan.graph.nodes)) [
    | inl l ↦ l
    | inr l ↦ absurd (past plan.graph.nodes a l h)
  ]
    where
      past : (ns : List Node) (i : ℕ) → length ns ≤ i → inner ns i ≡ Some k → ⊥
      past [] i l h = none-some k h
      past (n ∷ ns) zero l h = absurd (omega (arith, l))
      past (n ∷ ns) (suc i) l h = past ns i (omega arith) h

  is_in : (a : ℕ) → inner plan.graph.nodes a ≡ Some k → IsIn nodes a
  is_in a h = subst (λ (ns : List ℕ). IsIn ns a) (sym asyncs) (over-asyncs plan.graph.nodes k (length plan.graph.nodes) a (within a h) h)

  not_in : (a : ℕ) → (inner plan.graph.nodes a ≡ Some k → ⊥) → IsIn nodes a → ⊥
  not_in a n (i, h) = n (asyncs-over plan.graph.nodes k (length plan.graph.nodes) i a (ap (λ (ns : List ℕ). slice_get ns i) (sym asyncs) ∙ h)).1

  pub waits : (a : ℕ) → inner plan.graph.nodes a ≡ Some k → get_or (items_of new) a [] ≡ get_or (items_of old) a [] ++ changed_in (Some m)
  waits a h = items_at new a ∙ (passed.items a (is_in a h) ∙ ap (λ (vs : List Value). vs ++ changed_in (Some m)) (sym (items_at old a)))

  pub waits_other : (a : ℕ) → (inner plan.graph.nodes a ≡ Some k → ⊥) → get_or (items_of new) a [] ≡ get_or (items_of old) a []
  waits_other a n = items_at new a ∙ (passed.other_items a (not_in a n) ∙ sym (items_at old a))

  pub spends : (before after : Spared Message) (shown : Option Message) → shown ≡ cond (eqb plan.graph.main k) (Some m) None
      → before.spare ≤ after.spare + length (option_to_list shown)
      → SpendsFrom plan k (record { waiting = λ a. (queue_at old a).spare; outputs = before.spare })
      (record { waiting = λ a. (queue_at new a).spare; outputs = after.spare })
  spends before after shown e l = record {
    waiting = λ a h. passed.spare a (is_in a h);
    waiting_other = λ a n. let q = passed.other_spare a (not_in a n) in omega (arith, q);
    outputs = λ h. let q : length (option_to_list shown) ≤ 1 = most shown in omega (arith, l, q);
    outputs_other = λ n. let q : length (option_to_list shown) ≡ 0 = none n in omega (arith, l, q);
  }
    where
      most : (o : Option Message) → length (option_to_list o) ≤ 1
      most None = omega arith
      most (Some x) = omega arith

      none : (plan.graph.main ≡ k → ⊥) → length (option_to_list shown) ≡ 0
      none n = ap (λ (o : Option Message). length (option_to_list o)) (e ∙ other (eqb plan.graph.main k) refl)
        where
          other : (b : Bool) → eqb plan.graph.main k ≡ b → cond b (Some m) None ≡ None
          other true q = absurd (n (eqb-true plan.graph.main k q))
          other false q = refl

  -- what is kept, what waits, the outputs and the edges after the message was sent
  pub sent_from : (before after : Edges) (kept : List Value) (value : Value) (outputs outputs' : List Message) (shown : Option Message) (settled : ℕ)
      → ((r port : ℕ) → Reads plan.graph.nodes r port k → after r port ≡ before r port ++ m ∷ [])
      → ((port a : ℕ) → Reads plan.graph.nodes k port a → after k port ≡ drop 1 (before k port))
      → ((r port a : ℕ) → Reads plan.graph.nodes r port a → (k ≡ a → ⊥) → (k ≡ r → ⊥) → after r port ≡ before r port)
      → value ≡ value_of m → shown ≡ cond (eqb plan.graph.main k) (Some m) None → outputs' ≡ outputs ++ option_to_list shown
      → SentFrom plan k m before (record { kept = kept; waiting = items_of old; outputs = outputs; settled = settled })
      after (record { kept = set kept k value; waiting = items_of new; outputs = outputs'; settled = settled + 1 })
  sent_from before after kept value outputs outputs' shown settled put taken other v e o = record {
    put = put;
    taken = taken;
    other = other;
    kept = ap (set kept k) v;
    waiting_length = length-map new _ ∙ (passed.lengths ∙ sym (length-map old _));
    waits = waits;
    waits_other = waits_other;
    outputs = o ∙ (ap (λ (s : Option Message). outputs ++ option_to_list s) e ∙ shown_as (eqb plan.graph.main k));
    settled = omega arith;
  }
    where
      shown_as : (b : Bool) → outputs ++ option_to_list (cond b (Some m) None) ≡ cond b (outputs ++ m ∷ []) outputs
      shown_as true = refl
      shown_as false = append-nil outputs
