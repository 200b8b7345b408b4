-- What an engine holds before and after an event.
use Rattle.std.proofs.Common.{◌≡◌, ℕ, suc, zero, ◌+◌, ◌-◌, ◌<◌, ◌≤◌, ◌⊎◌, inl, inr, Bool, true, false, cond, eqb, Option, Some, None, Result, Ok, Err, List, [], ◌∷◌, ◌++◌, length, map, drop, set, get_or, refl, sym, ap, ◌∙◌, subst, arith}
use Rattle.std.specs.List.{slice_get, All}
use Rattle.std.specs.Option.{option_to_list, option_map_or, IsSome}
use Rattle.std.specs.Result.{IsOk, OnOk}
use Rattle.std.proofs.lemmas.Bool.{cases_eq, cases_lt, false≢true, eq-eqb}
use Rattle.std.proofs.lemmas.Bool.Decides.{nat_tests}
use Rattle.std.proofs.lemmas.Option.{same_Some, none-some, slice_get-get_or}
use Rattle.std.proofs.lemmas.List.{length-map, length-set, append-nil, get_or_past, same_lists, get_or_default}
use Rattle.felm_term.specs.Spared.{Spared}
use Rattle.felm_term.specs.Values.{value_of}
use Rattle.felm_term.specs.declared.value.Value.{Value}
use Rattle.felm_term.specs.declared.value.Value.TheVariants as value
use Rattle.felm_term.specs.declared.message.Message.{Message}
use Rattle.felm_term.specs.declared.message.Message.TheVariants.{Change, NoChange}
use Rattle.felm_term.specs.declared.event.Event.{Event}
use Rattle.felm_graph.specs.declared.node.Node.{Node}
use Rattle.felm_graph.specs.Nodes.{is_source}
use Rattle.felm_graph.specs.Graphs.{IsGraph}
use Rattle.felm_meaning.specs.Nodes.{inner, is_input}
use Rattle.felm_meaning.specs.PlanValue.{PlanValue}
use Rattle.felm_meaning.specs.Types.{EventsFit}
use Rattle.felm_meaning.proofs.Graphs.{ordered}
use Rattle.felm_meaning.proofs.Legal.{async_is_source, source_is_one, source_within}
use Rattle.felm_edges.specs.EdgesValue.{EdgesValue, wiring_of, IsWired, ReadsIn, edge_in, prepared_in, HasRoomIn}
use Rattle.felm_edges.proofs.Wiring.{reads_wired}
use Rattle.felm_core.specs.Positions.{Position, done_at, Reads, IsSound}
use Rattle.felm_core.specs.Contents.{waiting_at, owed_at}
use Rattle.felm_core.specs.Moves.{Feed, Enter, Leads, HasPlace, FitsNode, counted, with_next}
use Rattle.felm_core.specs.Laws.{ComesIn}
use Rattle.felm_core.specs.Holds.{Parts, waiting_of, Holds, EventFrom, Spares, KeepsRoom, KeepsRoomForNext}
use Rattle.felm_core.specs.EngineLaws.{message_by}
use Rattle.felm_core.proofs.Wiring.{length-counted, counted-source, counted-other}
use Rattle.felm_core.proofs.Holds.{slice_get-set_same, slice_get-set_other, event_holds, source_sends_is}
use Rattle.felm_core.proofs.Spares.{event_room}
use Rattle.felm_core.proofs.Runs.{move_sound}
use Rattle.felm_core.proofs.Scripted.{move_fits}
use Rattle.felm_core.proofs.Sticks.{done_within}
use Rattle.felm_engine.specs.Lists.{asyncs_over, sources_of}
use Rattle.felm_engine.specs.Answers.{coming_in}
use Rattle.felm_engine.specs.Queued.{QueueValue, queue_at, AreDistinct, IsIn, SameQueues, ArePrepared, PutInto, TakenFrom}
use Rattle.felm_engine.specs.Sources.{SameEdges, AreDue, PutAll, CountedAs, Grown, AreRoomy, shown_by}
use Rattle.felm_engine.proofs.OverLists.{asyncs-over, over-asyncs, asyncs-distinct}
use Rattle.felm_engine.proofs.SourceLists.{source_there, no_source, all_sources}

-- ---- what an engine holds

pub record Held : Type 0 where
  pub edges : EdgesValue
  pub kept : List Value
  pub queues : List QueueValue
  pub outputs : Spared Message

abbrev pub parts_in : Held → ℕ → Parts
parts_in held settled = record {
  kept = held.kept;
  waiting = map (λ (queue : QueueValue). queue.items) held.queues;
  outputs = held.outputs.items;
  settled = settled;
}

abbrev pub spares_in : Held → Spares
spares_in held = record { waiting = λ k. (queue_at held.queues k).spare; outputs = held.outputs.spare }

pub waiting_in : (held : Held) (settled a : ℕ) → waiting_of (parts_in held settled) a ≡ (queue_at held.queues a).items
waiting_in held settled a = go held.queues a
  where
    go : (queues : List QueueValue) (a : ℕ) → get_or (map (λ (queue : QueueValue). queue.items) queues) a [] ≡ (queue_at queues a).items
    go [] a = refl
    go (q ∷ more) zero = refl
    go (q ∷ more) (suc a) = go more a

-- ---- before an event: all that takes memory is done

pub record IsReadyFor (s : PlanValue) (c : Position) (e : Event) (sources over : List ℕ) (old ready : Held) : Type 0 where
  pub edges : SameEdges old.edges ready.edges
  pub due : AreDue sources e old.kept ready.edges
  pub kept : ready.kept ≡ old.kept
  pub grown : Grown old.queues ready.queues
  pub roomy : AreRoomy s.graph.nodes sources c.done (length c.journal) ready.queues
  pub prepared : ArePrepared over e.value ready.queues
  pub outputs : ready.outputs.items ≡ old.outputs.items
  pub owed : owed_at c s.graph.main < ready.outputs.spare

-- ---- after it

pub record EntersFrom (e : Event) (sources over : List ℕ) (shown : Option Message) (ready new : Held) : Type 0 where
  pub edges : PutAll sources ready.edges new.edges
  pub kept : new.kept ≡ set ready.kept e.source e.value
  pub between : List QueueValue
  pub taken : TakenFrom e.source ready.queues between
  pub put : PutInto over between new.queues
  pub outputs : new.outputs.items ≡ ready.outputs.items ++ option_to_list shown
  pub spare : ready.outputs.spare ≤ new.outputs.spare + length (option_to_list shown)

-- the asyncs over a node, in a list
module _ (s : PlanValue) (graph : IsGraph s.graph) (x : ℕ) (over : List ℕ) (are : over ≡ asyncs_over s.graph.nodes x (length s.graph.nodes)) where
  pub over_there : (a : ℕ) → inner s.graph.nodes a ≡ Some x → IsIn over a
  over_there a h =
      let p = over-asyncs s.graph.nodes x (length s.graph.nodes) a (source_within s.graph.nodes a (async_is_source s.graph.nodes a x h).0) h in
      (p.0, ap (λ (xs : List ℕ). slice_get xs p.0) are ∙ p.1)

  pub there_over : (a : ℕ) → IsIn over a → inner s.graph.nodes a ≡ Some x
  there_over a w = (asyncs-over s.graph.nodes x (length s.graph.nodes) w.0 a (ap (λ (xs : List ℕ). slice_get xs w.0) (sym are) ∙ w.1)).1

  -- the node itself is none of them
  pub not_over : IsIn over x → ⊥
  not_over w = let l : x < x = (ordered s.graph graph).inner_down x x (there_over x w) in omega arith

-- the message of a source
abbrev pub message_in : Event → List Value → ℕ → Message
message_in e kept k = message_by e k (get_or kept k value.Unit)

module _ (s : PlanValue) (c : Position) (e : Event) (sources over : List ℕ) (shown : Option Message) (old ready new : Held) (settled : ℕ)
    (graph : IsGraph s.graph) (sound : IsSound s c) (source : is_source s.graph.nodes e.source ≡ true)
    (sources_are : sources ≡ sources_of s.graph.nodes (length s.graph.nodes))
    (over_are : over ≡ asyncs_over s.graph.nodes e.source (length s.graph.nodes))
    (wiring : old.edges.wiring ≡ wiring_of s.graph.nodes) (holds : Holds s c (edge_in old.edges) (parts_in old settled))
    (shown_is : (v : Value) → slice_get old.kept s.graph.main ≡ Some v → shown ≡ shown_by s.graph e v)
    (ready_is : IsReadyFor s c e sources over old ready) (enters : EntersFrom e sources over shown ready new) where
  value_there : (k : ℕ) → k < length s.graph.nodes → slice_get old.kept k ≡ Some (get_or old.kept k value.Unit)
  value_there k l = slice_get-get_or old.kept k value.Unit (omega (arith, holds.kept_length))

  -- ---- edges

  ready_reads : (k r port : ℕ) → Reads s.graph.nodes r port k → ReadsIn ready.edges r port k
  ready_reads k r port h =
      subst (λ (w : List (List ℕ)). IsWired w r port k) (sym (ready_is.edges.wiring ∙ wiring)) (reads_wired s.graph.nodes r port k h)

  ready_edge : (r port : ℕ) → edge_in ready.edges r port ≡ edge_in old.edges r port
  ready_edge r port = ap (λ (rows : List (List (List Message))). get_or (get_or rows r []) port []) ready_is.edges.lists

  entered_put : (k r port : ℕ) → Reads s.graph.nodes r port k → is_source s.graph.nodes k ≡ true
      → edge_in new.edges r port ≡ edge_in old.edges r port ++ message_in e old.kept k ∷ []
  entered_put k r port h w =
      let there : IsIn sources k = source_there s.graph.nodes sources sources_are k w in
      enters.edges.put k r port (message_in e old.kept k) there (ready_reads k r port h)
      (ready_is.due k (get_or old.kept k value.Unit) there (value_there k (source_within s.graph.nodes k w))) ∙
      ap (λ (ms : List Message). ms ++ message_in e old.kept k ∷ []) (ready_edge r port)

  entered_other : (k r port : ℕ) → Reads s.graph.nodes r port k → is_source s.graph.nodes k ≡ false → edge_in new.edges r port ≡ edge_in old.edges r port
  entered_other k r port h w =
      enters.edges.stays k r port (no_source s.graph.nodes sources sources_are k w) (ready_reads k r port h) ∙ ready_edge r port

  -- ---- kept values

  kept_is : new.kept ≡ set old.kept e.source e.value
  kept_is = enters.kept ∙ ap (λ (vs : List Value). set vs e.source e.value) ready_is.kept

  message_own : value_of (message_in e old.kept e.source) ≡ e.value
  message_own = ap (λ (t : Bool). value_of (cond t (Change e.value) (NoChange (get_or old.kept e.source value.Unit)))) (eq-eqb e.source e.source refl)

  message_other : (k : ℕ) → (e.source ≡ k → ⊥) → value_of (message_in e old.kept k) ≡ get_or old.kept k value.Unit
  message_other k n = go (eqb e.source k) refl
    where
      go : (t : Bool) → eqb e.source k ≡ t → value_of (cond t (Change e.value) (NoChange (get_or old.kept k value.Unit))) ≡ get_or old.kept k value.Unit
      go true q = absurd (n (grind (arith, nat_tests)))
      go false q = refl

  entered_kept : (k : ℕ) → is_source s.graph.nodes k ≡ true → slice_get new.kept k ≡ Some (value_of (message_in e old.kept k))
  entered_kept k w = ap (λ (vs : List Value). slice_get vs k) kept_is ∙ go (cases_eq e.source k)
    where
      go : (e.source ≡ k) ⊎ (e.source ≡ k → ⊥) → slice_get (set old.kept e.source e.value) k ≡ Some (value_of (message_in e old.kept k))
      go (inl q) =
          let l : e.source < length old.kept = omega (arith, source_within s.graph.nodes e.source source, holds.kept_length) in
          subst (λ (y : ℕ). slice_get (set old.kept e.source e.value) y ≡ Some (value_of (message_in e old.kept y))) q
          (slice_get-set_same old.kept e.source e.value l ∙ ap (λ (v : Value). Some v) (sym message_own))
      go (inr n) =
          slice_get-set_other old.kept e.source k e.value n ∙
          (value_there k (source_within s.graph.nodes k w) ∙ ap (λ (v : Value). Some v) (sym (message_other k n)))

  entered_kept-other : (k : ℕ) → is_source s.graph.nodes k ≡ false → slice_get new.kept k ≡ slice_get old.kept k
  entered_kept-other k w =
      ap (λ (vs : List Value). slice_get vs k) kept_is ∙
      slice_get-set_other old.kept e.source k e.value (λ q. false≢true (sym w ∙ (ap (is_source s.graph.nodes) (sym q) ∙ source)))

  -- ---- waiting lists

  entered_own : (queue_at new.queues e.source).items ≡ drop 1 (queue_at old.queues e.source).items
  entered_own =
      ap (λ (q : QueueValue). q.items) (enters.put.stays e.source (not_over s graph e.source over over_are)) ∙
      (enters.taken.items ∙ ap (drop 1) (ready_is.grown.items e.source))

  between_at : (a : ℕ) → (e.source ≡ a → ⊥) → queue_at enters.between a ≡ queue_at ready.queues a
  between_at a n = enters.taken.stays a (λ q. n (sym q))

  entered_over : (a : ℕ) → inner s.graph.nodes a ≡ Some e.source → (queue_at new.queues a).items ≡ (queue_at old.queues a).items ++ e.value ∷ []
  entered_over a h =
      let there : IsIn over a = over_there s graph e.source over over_are a h in
      let n : e.source ≡ a → ⊥ = λ q. let l : e.source < a = (ordered s.graph graph).inner_down a e.source h in omega arith in
      let p : (queue_at enters.between a).prepared ≡ Some e.value =
      ap (λ (q : QueueValue). q.prepared) (between_at a n) ∙ ready_is.prepared there.0 a there.1 in
      ap (λ (q : QueueValue). q.items) (enters.put.put a e.value there p) ∙
      ap (λ (vs : List Value). vs ++ e.value ∷ []) (ap (λ (q : QueueValue). q.items) (between_at a n) ∙ ready_is.grown.items a)

  entered_waits-other : (a : ℕ) → (e.source ≡ a → ⊥) → (inner s.graph.nodes a ≡ Some e.source → ⊥)
      → (queue_at new.queues a).items ≡ (queue_at old.queues a).items
  entered_waits-other a n o =
      ap (λ (q : QueueValue). q.items) (enters.put.stays a (λ w. o (there_over s graph e.source over over_are a w)) ∙ between_at a n) ∙ ready_is.grown.items a

  -- ---- outputs

  shown_at : shown ≡ shown_by s.graph e (get_or old.kept s.graph.main value.Unit)
  shown_at = shown_is (get_or old.kept s.graph.main value.Unit) (value_there s.graph.main graph.main_there)

  entered_outputs : new.outputs.items
      ≡ cond (is_source s.graph.nodes s.graph.main) (old.outputs.items ++ message_in e old.kept s.graph.main ∷ []) old.outputs.items
  entered_outputs =
      enters.outputs ∙
      (ap (λ (ms : List Message). ms ++ option_to_list shown) ready_is.outputs ∙
      (ap (λ (o : Option Message). old.outputs.items ++ option_to_list o) shown_at ∙ go (is_source s.graph.nodes s.graph.main)))
    where
      go : (t : Bool) → old.outputs.items ++ option_to_list (cond t (Some (message_in e old.kept s.graph.main)) None)
          ≡ cond t (old.outputs.items ++ message_in e old.kept s.graph.main ∷ []) old.outputs.items
      go true = refl
      go false = append-nil old.outputs.items

  -- ---- all of it

  event_from : EventFrom s e (message_in e old.kept) (edge_in old.edges) (parts_in old settled) (edge_in new.edges) (parts_in new settled)
  event_from = record {
    put = entered_put;
    other = entered_other;
    kept_length = ap length kept_is ∙ length-set old.kept e.source e.value;
    kept = entered_kept;
    kept_other = entered_kept-other;
    waiting_length = omega (
      arith,
      length-map new.queues (λ (q : QueueValue). q.items),
      length-map old.queues (λ (q : QueueValue). q.items),
      enters.put.lengths,
      enters.taken.lengths,
      ready_is.grown.lengths,
    );
    waits_own = waiting_in new settled e.source ∙ (entered_own ∙ sym (ap (drop 1) (waiting_in old settled e.source)));
    waits_over = λ a h. waiting_in new settled a ∙ (entered_over a h ∙ sym (ap (λ (vs : List Value). vs ++ e.value ∷ []) (waiting_in old settled a)));
    waits_other = λ a n o. waiting_in new settled a ∙ (entered_waits-other a n o ∙ sym (waiting_in old settled a));
    outputs = entered_outputs;
    settled = refl;
  }

  comes : ComesIn s c e
  comes = record { graph = graph; sound = sound; source = source }

  pub entered_holds : Holds s (with_next s c e) (edge_in new.edges) (parts_in new settled)
  entered_holds =
      event_holds s c e (message_in e old.kept) (edge_in old.edges) (edge_in new.edges) (parts_in old settled) (parts_in new settled) comes
      (λ k w. source_sends_is s c e k (get_or old.kept k value.Unit)
      (sym (holds.kept_are k (source_within s.graph.nodes k w)) ∙ value_there k (source_within s.graph.nodes k w)))
      holds event_from

  -- ---- room

  spare_for : (a x : ℕ) → inner s.graph.nodes a ≡ Some x → is_source s.graph.nodes x ≡ false → owed_at c x < (queue_at new.queues a).spare
  spare_for a x h w =
      let there : IsIn sources a = source_there s.graph.nodes sources sources_are a (async_is_source s.graph.nodes a x h).0 in
      let l : length c.journal - done_at c.done x < (queue_at ready.queues a).spare = ready_is.roomy a x there h in
      let o : IsIn over a → ⊥ = λ q.
      let e' : e.source ≡ x = same_Some e.source x (sym (there_over s graph e.source over over_are a q) ∙ h) in
      false≢true (sym w ∙ (ap (is_source s.graph.nodes) (sym e') ∙ source)) in
      omega (arith, ap (λ (q : QueueValue). q.spare) (enters.put.stays a o), taken_spare a (cases_eq e.source a))
    where
      taken_spare : (a : ℕ) → (e.source ≡ a) ⊎ (e.source ≡ a → ⊥) → (queue_at ready.queues a).spare ≤ (queue_at enters.between a).spare
      taken_spare a (inl q) = subst (λ (y : ℕ). (queue_at ready.queues y).spare ≤ (queue_at enters.between y).spare) q enters.taken.spare
      taken_spare a (inr n) = omega (arith, ap (λ (q : QueueValue). q.spare) (between_at a n))

  room_for_next : KeepsRoomForNext s c (spares_in new)
  room_for_next = record {
    waiting = spare_for;
    outputs = λ w.
        let n : shown ≡ None = shown_at ∙ ap (λ (t : Bool). cond t (Some (message_in e old.kept s.graph.main)) None) w in
        let z : length (option_to_list shown) ≡ 0 = ap (λ (o : Option Message). length (option_to_list o)) n in
        omega (arith, enters.spare, ready_is.owed);
  }

  pub entered_room : KeepsRoom s (with_next s c e) (spares_in new)
  entered_room = event_room s c e (spares_in new) comes room_for_next

-- ---- counts

pub entered_counts : (s : PlanValue) (c : Position) (sources done : List ℕ) → IsSound s c → sources ≡ sources_of s.graph.nodes (length s.graph.nodes)
    → CountedAs sources (length c.journal + 1) c.done done → done ≡ counted s.graph.nodes 0 c.done
entered_counts s c sources done sound are h =
    same_lists done (counted s.graph.nodes 0 c.done) (h.lengths ∙ sym (length-counted s.graph.nodes 0 c.done)) (λ k d l.
    get_or_default done k d 0 l ∙
    (at k (omega (arith, h.lengths)) (is_source s.graph.nodes k) refl ∙
    sym (get_or_default (counted s.graph.nodes 0 c.done) k d 0 (omega (arith, h.lengths, length-counted s.graph.nodes 0 c.done)))))
  where
    at : (k : ℕ) → k < length c.done → (t : Bool) → is_source s.graph.nodes k ≡ t → done_at done k ≡ done_at (counted s.graph.nodes 0 c.done) k
    at k l true w =
        let a : done_at done k ≡ length c.journal + 1 = h.counted k (source_there s.graph.nodes sources are k w) in
        let b : done_at (counted s.graph.nodes 0 c.done) k ≡ suc (done_at c.done k) = counted-source s.graph.nodes c.done k l w in
        omega (arith, sound.sources k w)
    at k l false w = h.stays k (no_source s.graph.nodes sources are k w) ∙ sym (counted-other s.graph.nodes c.done k l w)

-- ---- the move

pub entered_leads : (s : PlanValue) (c d : Position) (e : Event) → HasPlace s c → is_source s.graph.nodes e.source ≡ true → FitsNode s.graph e.source e.value
    → ((x : ℕ) → inner s.graph.nodes e.source ≡ Some x → slice_get (waiting_at s c e.source) 0 ≡ Some e.value) → d ≡ with_next s c e
    → Leads s c (coming_in s.graph.nodes e) d
entered_leads s c d e place source typed waits q = go (inner s.graph.nodes e.source) refl (source_is_one s.graph.nodes e.source source)
  where
    go : (o : Option ℕ) → inner s.graph.nodes e.source ≡ o → (is_input s.graph.nodes e.source ≡ true) ⊎ ((x : ℕ) × (inner s.graph.nodes e.source ≡ Some x))
        → Leads s c (option_map_or (λ x. Enter e.source) o (Feed e.source e.value)) d
    go None h (inl i) = (place, i, typed, q)
    go None h (inr w) = absurd (none-some w.0 (sym h ∙ w.1))
    go (Some x) h w = (place, (e.value, waits x h, q))

-- ---- all that an engine keeps after an event

pub record HasEntered (s : PlanValue) (c : Position) (e : Event) (d : Position) (new : Held) (settled : ℕ) : Type 0 where
  pub leads : Leads s c (coming_in s.graph.nodes e) d
  pub sound : IsSound s d
  pub typed : EventsFit s.graph d.journal
  pub holds : Holds s d (edge_in new.edges) (parts_in new settled)
  pub room : KeepsRoom s d (spares_in new)

-- the event may come in
pub record MayEnter (s : PlanValue) (c : Position) (e : Event) : Type 0 where
  pub place : HasPlace s c
  pub source : is_source s.graph.nodes e.source ≡ true
  pub typed : FitsNode s.graph e.source e.value
  pub waits : (x : ℕ) → inner s.graph.nodes e.source ≡ Some x → slice_get (waiting_at s c e.source) 0 ≡ Some e.value

pub has_entered : (s : PlanValue) (c : Position) (e : Event) (sources over : List ℕ) (shown : Option Message) (old ready new : Held) (settled : ℕ)
    (journal : List Event) (done : List ℕ) → IsGraph s.graph → IsSound s c → EventsFit s.graph c.journal → MayEnter s c e
    → sources ≡ sources_of s.graph.nodes (length s.graph.nodes) → over ≡ asyncs_over s.graph.nodes e.source (length s.graph.nodes)
    → old.edges.wiring ≡ wiring_of s.graph.nodes → Holds s c (edge_in old.edges) (parts_in old settled)
    → ((v : Value) → slice_get old.kept s.graph.main ≡ Some v → shown ≡ shown_by s.graph e v)
    → IsReadyFor s c e sources over old ready → EntersFrom e sources over shown ready new
    → journal ≡ c.journal ++ e ∷ [] → CountedAs sources (length c.journal + 1) c.done done
    → HasEntered s c e (record c { journal = journal; done = done }) new settled
has_entered s c e sources over shown old ready new settled journal done graph sound typed may sources_are over_are wiring holds shown_is ready_is enters j counts =
    record {
      leads = leads;
      sound = move_sound s graph c (coming_in s.graph.nodes e) (record c { journal = journal; done = done }) sound leads;
      typed = move_fits s c (coming_in s.graph.nodes e) (record c { journal = journal; done = done }) graph sound typed leads;
      holds = subst (λ (d : Position). Holds s d (edge_in new.edges) (parts_in new settled)) (sym at)
          (entered_holds s c e sources over shown old ready new settled graph sound may.source sources_are over_are wiring holds shown_is ready_is enters);
      room = subst (λ (d : Position). KeepsRoom s d (spares_in new)) (sym at)
          (entered_room s c e sources over shown old ready new settled graph sound may.source sources_are over_are wiring holds shown_is ready_is enters);
    }
  where
    at : record c { journal = journal; done = done } ≡ with_next s c e
    at =
        ap (λ (j : List Event). record c { journal = j; done = done }) j ∙
        ap (λ (d : List ℕ). record c { journal = c.journal ++ e ∷ []; done = d }) (entered_counts s c sources done sound sources_are counts)

    leads : Leads s c (coming_in s.graph.nodes e) (record c { journal = journal; done = done })
    leads = entered_leads s c (record c { journal = journal; done = done }) e may.place may.source may.typed may.waits at

-- ---- what the steps on the way ask

-- no node has sent more messages than there are events
pub done_most : (s : PlanValue) (c : Position) (k : ℕ) → IsGraph s.graph → IsSound s c → done_at c.done k ≤ length c.journal
done_most s c k graph sound = elim (cases_lt k (length s.graph.nodes)) [
  | inl l ↦ done_within s c graph sound k l
  | inr l ↦ omega (arith, get_or_past c.done k 0 (omega (arith, sound.counts)))
]

pub same_room_in : (old new : EdgesValue) (k : ℕ) → SameEdges old new → HasRoomIn old k → HasRoomIn new k
same_room_in old new k same room = λ r port h.
    let l : length (edge_in old r port) < old.capacity = room r port (subst (λ (w : List (List ℕ)). IsWired w r port k) same.wiring h) in
    omega (arith, ap (λ (rows : List (List (List Message))). length (get_or (get_or rows r []) port [])) same.lists, same.capacity)

pub due_prepared : (nodes : List Node) (sources : List ℕ) (e : Event) (kept : List Value) (edges : EdgesValue)
    → sources ≡ sources_of nodes (length nodes) → length kept ≡ length nodes → AreDue sources e kept edges
    → All (λ k. IsSome (prepared_in edges k)) sources
due_prepared nodes sources e kept edges are l due = all_sources nodes sources are (λ k. IsSome (prepared_in edges k)) (λ k h.
    some (prepared_in edges k) _ (due k (get_or kept k value.Unit) (source_there nodes sources are k h)
    (slice_get-get_or kept k value.Unit (omega (arith, source_within nodes k h)))))
  where
    some : {X : Type 0} (o : Option X) (x : X) → o ≡ Some x → IsSome o
    some {X} o x q = subst (λ (p : Option X). IsSome p) (sym q) refl

pub roomy_ready : (s : PlanValue) (c : Position) (sources : List ℕ) (nodes : List Node) (done : List ℕ) (events : ℕ) (old new : List QueueValue)
    → nodes ≡ s.graph.nodes → done ≡ c.done → events ≡ length c.journal → AreRoomy nodes sources done events old → SameQueues old new
    → AreRoomy s.graph.nodes sources c.done (length c.journal) new
roomy_ready s c sources nodes done events old new n d j roomy same = λ a x w h.
    let l : events - done_at done x < (queue_at old a).spare = roomy a x w (ap (λ (ns : List Node). inner ns a) n ∙ h) in
    omega (arith, ap (λ (ds : List ℕ). done_at ds x) d, j, same.spare a)

pub due_ready : (sources : List ℕ) (e : Event) (kept kept' : List Value) (edges : EdgesValue) → kept ≡ kept' → AreDue sources e kept edges
    → AreDue sources e kept' edges
due_ready sources e kept kept' edges q due = λ k v w h. due k v w (ap (λ (vs : List Value). slice_get vs k) q ∙ h)

pub counts_after : (sources : List ℕ) (count count' : ℕ) (old old' new new' : List ℕ) → count ≡ count' → old ≡ old' → new' ≡ new
    → CountedAs sources count old new → CountedAs sources count' old' new'
counts_after sources count count' old old' new new' p q r h =
    subst (λ (n : ℕ). CountedAs sources n old' new') p (subst (λ (o : List ℕ). CountedAs sources count o new') q (subst (CountedAs sources count old) (sym r) h))

pub on_ok : {T E : Type 0} (r : Result T E) (P : Type 0) → IsOk r → OnOk r P → P
on_ok (Ok x) P h p = p
on_ok (Err e) P h p = absurd (false≢true h)

module _ (s : PlanValue) (c : Position) (e : Event) (sources over : List ℕ) (queues between : List QueueValue) (graph : IsGraph s.graph)
    (source : is_source s.graph.nodes e.source ≡ true) (sources_are : sources ≡ sources_of s.graph.nodes (length s.graph.nodes))
    (over_are : over ≡ asyncs_over s.graph.nodes e.source (length s.graph.nodes)) where
  pub over_within : (i a : ℕ) → slice_get over i ≡ Some a → a < length s.graph.nodes
  over_within i a h =
      source_within s.graph.nodes a (async_is_source s.graph.nodes a e.source (there_over s graph e.source over over_are a (i, h))).0

  pub over_distinct : AreDistinct over
  over_distinct = λ i j a h k.
      asyncs-distinct s.graph.nodes e.source (length s.graph.nodes) i j a (ap (λ (xs : List ℕ). slice_get xs i) (sym over_are) ∙ h)
      (ap (λ (xs : List ℕ). slice_get xs j) (sym over_are) ∙ k)

  -- each async over the event's source has room for the event's value
  pub over_roomy : AreRoomy s.graph.nodes sources c.done (length c.journal) queues → TakenFrom e.source queues between
      → (i a : ℕ) → slice_get over i ≡ Some a → 0 < (queue_at between a).spare
  over_roomy roomy taken i a h =
      let x : inner s.graph.nodes a ≡ Some e.source = there_over s graph e.source over over_are a (i, h) in
      let l : length c.journal - done_at c.done e.source < (queue_at queues a).spare =
      roomy a e.source (source_there s.graph.nodes sources sources_are a (async_is_source s.graph.nodes a e.source x).0) x in
      let n : a ≡ e.source → ⊥ = λ q. let d : e.source < a = (ordered s.graph graph).inner_down a e.source x in omega arith in
      omega (arith, ap (λ (q : QueueValue). q.spare) (taken.stays a n))
