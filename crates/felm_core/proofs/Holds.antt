-- Parts of an engine that hold what lies at a position go on to do so; and readiness is read off the edges.
use Rattle.std.proofs.Common.{◌≡◌, ◌↔◌, ℕ, suc, zero, ◌+◌, ◌<◌, ◌⊎◌, inl, inr, Bool, true, false, cond, eqb, Option, Some, None, List, [], ◌∷◌, ◌++◌, length, set, drop, replicate, get_or, refl, sym, ap, ◌∙◌, subst, arith}
use Rattle.std.specs.List.{slice_get}
use Rattle.std.proofs.lemmas.Grind.{common_steps}
use Rattle.std.proofs.lemmas.Option.{none-some, same_Some}
use Rattle.std.proofs.lemmas.Bool.{cases_eq}
use Rattle.std.proofs.lemmas.List.{length-set, length-replicate}
use Rattle.felm_term.specs.Values.{value_of}
use Rattle.felm_term.specs.declared.value.Value.{Value}
use Rattle.felm_term.specs.declared.message.Message.{Message}
use Rattle.felm_term.specs.declared.message.Message.TheVariants.{Change, NoChange}
use Rattle.felm_term.specs.declared.event.Event.{Event}
use Rattle.felm_graph.specs.Nodes.{is_source}
use Rattle.felm_graph.specs.Graphs.{IsGraph}
use Rattle.felm_meaning.specs.Nodes.{inner}
use Rattle.felm_meaning.specs.Meaning.{value_at, source_message, val, changed_in}
use Rattle.felm_meaning.specs.PlanValue.{PlanValue}
use Rattle.felm_core.specs.Positions.{Position, done_at, Reads, HasRoom, IsSound}
use Rattle.felm_core.specs.Contents.{edge_at, kept_at, waiting_at, outputs_at}
use Rattle.felm_core.specs.Moves.{sent, with_next, beginning}
use Rattle.felm_core.specs.Laws.{Sends, ComesIn, source_sends}
use Rattle.felm_core.specs.Holds.{Edges, Parts, waiting_of, Holds, SentFrom, EventFrom}
use Rattle.felm_core.proofs.Heads.{edge_length}
use Rattle.felm_core.proofs.Messages.{nothing_waits}
use Rattle.felm_core.proofs.Stays.{begin_edge, begin_kept, begin_waits, begin_shown, begin_settled}
use Rattle.felm_core.proofs.Sent.{sent_put, sent_take, sent_edge, sent_kept, sent_kept-other, sent_waits, sent_waits-other, sent_shown, sent_shown-other, sent_settled}
use Rattle.felm_core.proofs.Entered.{next_put, next_edge, next_kept, next_kept-other, next_waits-own, next_waits-over, next_waits-other, next_shown, next_shown-other, next_settled, kept_source}

-- ---- lists

pub slice_get-set_same : {X : Type 0} (xs : List X) (k : ℕ) (y : X) → k < length xs → slice_get (set xs k y) k ≡ Some y
slice_get-set_same [] k y l = absurd (omega arith)
slice_get-set_same (x ∷ xs) zero y l = refl
slice_get-set_same (x ∷ xs) (suc k) y l = slice_get-set_same xs k y (omega arith)

pub slice_get-set_other : {X : Type 0} (xs : List X) (k i : ℕ) (y : X) → (k ≡ i → ⊥) → slice_get (set xs k y) i ≡ slice_get xs i
slice_get-set_other [] k i y n = refl
slice_get-set_other (x ∷ xs) zero zero y n = absurd (n refl)
slice_get-set_other (x ∷ xs) zero (suc i) y n = refl
slice_get-set_other (x ∷ xs) (suc k) zero y n = refl
slice_get-set_other (x ∷ xs) (suc k) (suc i) y n = slice_get-set_other xs k i y (λ e. n (ap suc e))

-- ---- readiness

module _ (s : PlanValue) (c : Position) (graph : IsGraph s.graph) (sound : IsSound s c) where
  -- each edge of a node has a message exactly where each argument has done more
  pub fed_by_edges : (k : ℕ) → ((port a : ℕ) → Reads s.graph.nodes k port a → done_at c.done k < done_at c.done a)
      ↔ ((port a : ℕ) → Reads s.graph.nodes k port a → 0 < length (edge_at s c a k))
  fed_by_edges k = (
    λ f port a r. let l : done_at c.done k < done_at c.done a = f port a r in omega (arith, edge_length s c graph sound k port a r),
    λ f port a r. let l : 0 < length (edge_at s c a k) = f port a r in omega (arith, edge_length s c graph sound k port a r),
  )

  -- each edge that reads a node has fewer messages than it can hold exactly where the node has room
  pub room_by_edges : (k : ℕ) → HasRoom s c.done k ↔ ((r port : ℕ) → Reads s.graph.nodes r port k → length (edge_at s c k r) < s.capacity)
  room_by_edges k = (
    λ f r port h. let l : done_at c.done k < done_at c.done r + s.capacity = f r port h in omega (arith, edge_length s c graph sound r port k h),
    λ f r port h. let l : length (edge_at s c k r) < s.capacity = f r port h in omega (arith, edge_length s c graph sound r port k h),
  )

-- ---- after a sent turn

module _ (s : PlanValue) (c : Position) (k : ℕ) (m : Message) (old new : Edges) (before after : Parts) (sends : Sends s c k m)
    (holds : Holds s c old before) (made : SentFrom s k m old before new after) where
  sent_edges : (r port a : ℕ) → Reads s.graph.nodes r port a → (k ≡ a) ⊎ (k ≡ a → ⊥) → (k ≡ r) ⊎ (k ≡ r → ⊥) → new r port ≡ edge_at s (sent c k) a r
  sent_edges r port a h (inl q) w =
      let h' : Reads s.graph.nodes r port k = subst (λ (x : ℕ). Reads s.graph.nodes r port x) (sym q) h in
      made.put r port h' ∙
      (ap (λ (ms : List Message). ms ++ m ∷ []) (holds.edges_are r port k h') ∙
      (sym (sent_put s c k m sends.graph sends.sound sends.out sends.message r port h') ∙ ap (λ (x : ℕ). edge_at s (sent c k) x r) q))
  sent_edges r port a h (inr n) (inl q) =
      let h' : Reads s.graph.nodes k port a = subst (λ (x : ℕ). Reads s.graph.nodes x port a) (sym q) h in
      ap (λ (x : ℕ). new x port) (sym q) ∙
      (made.taken port a h' ∙
      (ap (drop 1) (holds.edges_are k port a h') ∙
      (sym (sent_take s c k m sends.graph sends.sound sends.out sends.message port a h') ∙ ap (λ (x : ℕ). edge_at s (sent c k) a x) q)))
  sent_edges r port a h (inr n) (inr o) =
      made.other r port a h n o ∙ (holds.edges_are r port a h ∙ sym (sent_edge s c k m sends.graph sends.sound sends.out sends.message a r n o))

  node : k < length s.graph.nodes
  node = (sends.sound.turns k sends.out).node

  sent_values : (x : ℕ) → x < length s.graph.nodes → (k ≡ x) ⊎ (k ≡ x → ⊥) → slice_get after.kept x ≡ kept_at s (sent c k) x
  sent_values x l (inl q) =
      ap (λ (vs : List Value). slice_get vs x) made.kept ∙
      (ap (slice_get (set before.kept k (value_of m))) (sym q) ∙
      (slice_get-set_same before.kept k (value_of m) (omega (arith, holds.kept_length, node)) ∙
      (sym (sent_kept s c k m sends.graph sends.sound sends.out sends.message) ∙ ap (kept_at s (sent c k)) q)))
  sent_values x l (inr n) =
      ap (λ (vs : List Value). slice_get vs x) made.kept ∙
      (slice_get-set_other before.kept k x (value_of m) n ∙
      (holds.kept_are x l ∙ sym (sent_kept-other s c k m sends.graph sends.sound sends.out sends.message x n)))

  sent_lists : (a : ℕ) → a < length s.graph.nodes → (o : Option ℕ) → inner s.graph.nodes a ≡ o → waiting_of after a ≡ waiting_at s (sent c k) a
  sent_lists a l None h =
      let n : inner s.graph.nodes a ≡ Some k → ⊥ = λ q. none-some k (sym h ∙ q) in
      made.waits_other a n ∙ (holds.waiting_are a l ∙ sym (sent_waits-other s c k m sends.graph sends.sound sends.out sends.message a n))
  sent_lists a l (Some x) h = go (cases_eq x k)
    where
      go : (x ≡ k) ⊎ (x ≡ k → ⊥) → waiting_of after a ≡ waiting_at s (sent c k) a
      go (inl q) =
          let i : inner s.graph.nodes a ≡ Some k = h ∙ ap (λ (y : ℕ). Some y) q in
          made.waits a i ∙
          (ap (λ (vs : List Value). vs ++ changed_in (Some m)) (holds.waiting_are a l) ∙
          sym (sent_waits s c k m sends.graph sends.sound sends.out sends.message a i))
      go (inr n) =
          let o : inner s.graph.nodes a ≡ Some k → ⊥ = λ q. n (same_Some x k (sym h ∙ q)) in
          made.waits_other a o ∙ (holds.waiting_are a l ∙ sym (sent_waits-other s c k m sends.graph sends.sound sends.out sends.message a o))

  sent_outputs : (s.graph.main ≡ k) ⊎ (s.graph.main ≡ k → ⊥) → after.outputs ≡ outputs_at s (sent c k)
  sent_outputs (inl q) =
      let t : eqb s.graph.main k ≡ true = grind (arith, common_steps) in
      made.outputs ∙
      (ap (λ (b : Bool). cond b (before.outputs ++ m ∷ []) before.outputs) t ∙
      (ap (λ (ms : List Message). ms ++ m ∷ []) holds.outputs_are ∙ sym (sent_shown s c k m sends.graph sends.sound sends.out sends.message q)))
  sent_outputs (inr n) =
      let t : eqb s.graph.main k ≡ false = grind (arith, common_steps) in
      made.outputs ∙
      (ap (λ (b : Bool). cond b (before.outputs ++ m ∷ []) before.outputs) t ∙
      (holds.outputs_are ∙ sym (sent_shown-other s c k m sends.graph sends.sound sends.out sends.message n)))

  pub sent_holds : Holds s (sent c k) new after
  sent_holds = record {
    edges_are = λ r port a h. sent_edges r port a h (cases_eq k a) (cases_eq k r);
    kept_length = ap length made.kept ∙ (length-set before.kept k (value_of m) ∙ holds.kept_length);
    kept_are = λ x l. sent_values x l (cases_eq k x);
    waiting_length = made.waiting_length ∙ holds.waiting_length;
    waiting_are = λ a l. sent_lists a l (inner s.graph.nodes a) refl;
    outputs_are = sent_outputs (cases_eq s.graph.main k);
    settled_is = made.settled ∙ (ap suc holds.settled_is ∙ sym (sent_settled s c k m sends.graph sends.sound sends.out sends.message));
  }

-- ---- after an event

module _ (s : PlanValue) (c : Position) (e : Event) (message : ℕ → Message) (old new : Edges) (before after : Parts) (comes : ComesIn s c e)
    (messages : (k : ℕ) → is_source s.graph.nodes k ≡ true → source_sends s c e k ≡ Some (message k))
    (holds : Holds s c old before) (made : EventFrom s e message old before new after) where
  at_end : (k : ℕ) → is_source s.graph.nodes k ≡ true → source_message k e (val s.graph s.budget c.journal k (length c.journal)) ≡ Some (message k)
  at_end k h = kept_source s c e comes.sound k h (message k) (messages k h)

  event_edges : (r port a : ℕ) → Reads s.graph.nodes r port a → (t : Bool) → is_source s.graph.nodes a ≡ t → new r port ≡ edge_at s (with_next s c e) a r
  event_edges r port a h true q =
      made.put a r port h q ∙
      (ap (λ (ms : List Message). ms ++ message a ∷ []) (holds.edges_are r port a h) ∙
      sym (next_put s c e comes.graph comes.sound comes.source a r port (message a) h q (at_end a q)))
  event_edges r port a h false q = made.other a r port h q ∙ (holds.edges_are r port a h ∙ sym (next_edge s c e comes.graph comes.sound comes.source a r port h q))

  event_values : (k : ℕ) → k < length s.graph.nodes → (t : Bool) → is_source s.graph.nodes k ≡ t → slice_get after.kept k ≡ kept_at s (with_next s c e) k
  event_values k l true q =
      made.kept k q ∙ (ap value_at (sym (at_end k q)) ∙ sym (next_kept s c e comes.graph comes.sound comes.source k q))
  event_values k l false q = made.kept_other k q ∙ (holds.kept_are k l ∙ sym (next_kept-other s c e comes.graph comes.sound comes.source k l q))

  event_lists : (a : ℕ) → a < length s.graph.nodes → (o : Option ℕ) → inner s.graph.nodes a ≡ o → (e.source ≡ a) ⊎ (e.source ≡ a → ⊥)
      → waiting_of after a ≡ waiting_at s (with_next s c e) a
  event_lists a l None h (inl q) =
      let w : waiting_of before e.source ≡ [] =
      ap (waiting_of before) q ∙ (holds.waiting_are a l ∙ nothing_waits s c a h) in
      ap (waiting_of after) (sym q) ∙ (made.waits_own ∙ (ap (drop 1) w ∙ sym (nothing_waits s (with_next s c e) a h)))
  event_lists a l None h (inr n) =
      let o : inner s.graph.nodes a ≡ Some e.source → ⊥ = λ q. none-some e.source (sym h ∙ q) in
      made.waits_other a n o ∙ (holds.waiting_are a l ∙ sym (next_waits-other s c e comes.graph comes.sound comes.source a n o))
  event_lists a l (Some x) h (inl q) =
      ap (waiting_of after) (sym q) ∙
      (made.waits_own ∙
      (ap (λ (y : ℕ). drop 1 (waiting_of before y)) q ∙
      (ap (drop 1) (holds.waiting_are a l) ∙ sym (next_waits-own s c e comes.graph comes.sound comes.source a x h q))))
  event_lists a l (Some x) h (inr n) = go (cases_eq x e.source)
    where
      go : (x ≡ e.source) ⊎ (x ≡ e.source → ⊥) → waiting_of after a ≡ waiting_at s (with_next s c e) a
      go (inl q) =
          let i : inner s.graph.nodes a ≡ Some e.source = h ∙ ap (λ (y : ℕ). Some y) q in
          made.waits_over a i ∙
          (ap (λ (vs : List Value). vs ++ e.value ∷ []) (holds.waiting_are a l) ∙ sym (next_waits-over s c e comes.graph comes.sound comes.source a i))
      go (inr o) =
          let i : inner s.graph.nodes a ≡ Some e.source → ⊥ = λ q. o (same_Some x e.source (sym h ∙ q)) in
          made.waits_other a n i ∙ (holds.waiting_are a l ∙ sym (next_waits-other s c e comes.graph comes.sound comes.source a n i))

  event_outputs : (t : Bool) → is_source s.graph.nodes s.graph.main ≡ t → after.outputs ≡ outputs_at s (with_next s c e)
  event_outputs true q =
      made.outputs ∙
      (ap (λ (b : Bool). cond b (before.outputs ++ message s.graph.main ∷ []) before.outputs) q ∙
      (ap (λ (ms : List Message). ms ++ message s.graph.main ∷ []) holds.outputs_are ∙
      sym (next_shown s c e comes.graph comes.sound comes.source (message s.graph.main) q (at_end s.graph.main q))))
  event_outputs false q =
      made.outputs ∙
      (ap (λ (b : Bool). cond b (before.outputs ++ message s.graph.main ∷ []) before.outputs) q ∙
      (holds.outputs_are ∙ sym (next_shown-other s c e comes.graph comes.sound comes.source q)))

  pub event_holds : Holds s (with_next s c e) new after
  event_holds = record {
    edges_are = λ r port a h. event_edges r port a h (is_source s.graph.nodes a) refl;
    kept_length = made.kept_length ∙ holds.kept_length;
    kept_are = λ k l. event_values k l (is_source s.graph.nodes k) refl;
    waiting_length = made.waiting_length ∙ holds.waiting_length;
    waiting_are = λ a l. event_lists a l (inner s.graph.nodes a) refl (cases_eq e.source a);
    outputs_are = event_outputs (is_source s.graph.nodes s.graph.main) refl;
    settled_is = made.settled ∙ (holds.settled_is ∙ sym (next_settled s c e comes.graph comes.sound comes.source));
  }

-- ---- at the beginning

nothing_at : {X : Type 0} (n a : ℕ) → get_or {A = List X} (replicate n []) a [] ≡ []
nothing_at zero a = refl
nothing_at (suc n) zero = refl
nothing_at {X = X} (suc n) (suc a) = nothing_at {X = X} n a

pub beginning_holds : (s : PlanValue) (edges : Edges) (defaults : List Value) → ((k port : ℕ) → edges k port ≡ []) → length defaults ≡ length s.graph.nodes
    → ((k : ℕ) → k < length s.graph.nodes → val s.graph s.budget [] k 0 ≡ slice_get defaults k)
    → Holds s (beginning s.graph) edges (record { kept = defaults; waiting = replicate (length s.graph.nodes) []; outputs = []; settled = 0 })
beginning_holds s edges defaults empty n d = record {
  edges_are = λ k port a h. empty k port ∙ sym (begin_edge s a k);
  kept_length = n;
  kept_are = λ k l. sym (begin_kept s k ∙ d k l);
  waiting_length = length-replicate (length s.graph.nodes) [];
  waiting_are = λ a l. nothing_at {X = Value} (length s.graph.nodes) a ∙ sym (begin_waits s a);
  outputs_are = sym (begin_shown s);
  settled_is = sym (begin_settled s);
}

pub source_sends_is : (s : PlanValue) (c : Position) (e : Event) (k : ℕ) (old : Value) → kept_at s c k ≡ Some old
    → source_sends s c e k ≡ Some (cond (eqb e.source k) (Change e.value) (NoChange old))
source_sends_is s c e k old h = ap (source_message k e) h ∙ go (eqb e.source k)
  where
    go : (t : Bool) → cond t (Some (Change e.value)) (Some (NoChange old)) ≡ Some (cond t (Change e.value) (NoChange old))
    go true = refl
    go false = refl
