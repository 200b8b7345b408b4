-- What each call does to the queues of all nodes.
use Rattle.std.proofs.Common.{◌≡◌, ℕ, ◌+◌, ◌-◌, ◌<◌, ◌≤◌, ◌⊎◌, inl, inr, Option, Some, List, [], ◌++◌, ◌∷◌, length, drop, set, get_or, refl, sym, ap, ◌∙◌, subst, arith}
use Rattle.std.specs.List.{slice_get}
use Rattle.std.specs.Option.{IfSome}
use Rattle.std.proofs.lemmas.Bool.{cases_eq}
use Rattle.std.proofs.lemmas.Option.{same_Some, slice_get_within, slice_get_read, get_or_from_slice_get}
use Rattle.std.proofs.lemmas.List.{length-set, get_or-set_same, get_or-set_other}
use Rattle.felm_term.specs.declared.value.Value.{Value}
use Rattle.felm_term.specs.declared.message.Message.TheVariants.{Change}
use Rattle.felm_engine.specs.Queued.{QueueValue, no_queue, queue_at, put_value, AreDistinct, IsIn, SameQueues, ArePrepared, PutInto, PassedOn, TakenFrom, ReservedIn}

-- a queue that was read
pub read_queue : (queues : List QueueValue) (k : ℕ) (q : QueueValue) → k < length queues → q ≡ get_or queues k q → queue_at queues k ≡ q
read_queue queues k q l e = get_or_from_slice_get queues k q no_queue (slice_get_read queues (length queues) k q refl l e)

at_set : (queues : List QueueValue) (b : ℕ) (q : QueueValue) → b < length queues → queue_at (set queues b q) b ≡ q
at_set queues b q l = get_or-set_same queues b q no_queue l

at_other : (queues : List QueueValue) (b a : ℕ) (q : QueueValue) → (a ≡ b → ⊥) → queue_at (set queues b q) a ≡ queue_at queues a
at_other queues b a q n = get_or-set_other queues b a q no_queue n

-- ---- one queue is changed

module _ (queues : List QueueValue) (b : ℕ) (q : QueueValue) (l : b < length queues) where
  pub reserved_in : q.items ≡ (queue_at queues b).items → (queue_at queues b).spare ≤ q.spare → ReservedIn b queues (set queues b q)
  reserved_in items spare = record {
    lengths = length-set queues b q;
    items = ap (λ (x : QueueValue). x.items) (at_set queues b q l) ∙ items;
    spare = subst (λ (x : QueueValue). (queue_at queues b).spare ≤ x.spare) (sym (at_set queues b q l)) spare;
    stays = λ k n. at_other queues b k q n;
  }

  pub taken_from : q.items ≡ drop 1 (queue_at queues b).items → (queue_at queues b).spare ≤ q.spare → TakenFrom b queues (set queues b q)
  taken_from items spare = record {
    lengths = length-set queues b q;
    items = ap (λ (x : QueueValue). x.items) (at_set queues b q l) ∙ items;
    spare = subst (λ (x : QueueValue). (queue_at queues b).spare ≤ x.spare) (sym (at_set queues b q l)) spare;
    stays = λ k n. at_other queues b k q n;
  }

  pub spare_at : (more : ℕ) → more ≤ q.spare → more ≤ (queue_at (set queues b q) b).spare
  spare_at more h = subst (λ (x : QueueValue). more ≤ x.spare) (sym (at_set queues b q l)) h

  -- items and room of all queues stay where they stay at this one
  pub same_queues : (initial : List QueueValue) → q.items ≡ (queue_at queues b).items → q.spare ≡ (queue_at queues b).spare → SameQueues initial queues
      → SameQueues initial (set queues b q)
  same_queues initial items spare same = record {
    lengths = length-set queues b q ∙ same.lengths;
    items = λ k. go_items k (cases_eq k b);
    spare = λ k. go_spare k (cases_eq k b);
  }
    where
      go_items : (k : ℕ) → (k ≡ b) ⊎ (k ≡ b → ⊥) → (queue_at (set queues b q) k).items ≡ (queue_at initial k).items
      go_items k (inl e) =
          subst (λ (x : ℕ). (queue_at (set queues b q) x).items ≡ (queue_at initial x).items) (sym e)
          (ap (λ (x : QueueValue). x.items) (at_set queues b q l) ∙ (items ∙ same.items b))
      go_items k (inr n) = ap (λ (x : QueueValue). x.items) (at_other queues b k q n) ∙ same.items k

      go_spare : (k : ℕ) → (k ≡ b) ⊎ (k ≡ b → ⊥) → (queue_at (set queues b q) k).spare ≡ (queue_at initial k).spare
      go_spare k (inl e) =
          subst (λ (x : ℕ). (queue_at (set queues b q) x).spare ≡ (queue_at initial x).spare) (sym e)
          (ap (λ (x : QueueValue). x.spare) (at_set queues b q l) ∙ (spare ∙ same.spare b))
      go_spare k (inr n) = ap (λ (x : QueueValue). x.spare) (at_other queues b k q n) ∙ same.spare k

  -- what was prepared stays prepared
  pub stays_prepared : (a : ℕ) (v : Value) → q.prepared ≡ Some v → (queue_at queues a).prepared ≡ Some v → (queue_at (set queues b q) a).prepared ≡ Some v
  stays_prepared a v here before = go (cases_eq a b)
    where
      go : (a ≡ b) ⊎ (a ≡ b → ⊥) → (queue_at (set queues b q) a).prepared ≡ Some v
      go (inl e) =
          subst (λ (x : ℕ). (queue_at (set queues b q) x).prepared ≡ Some v) (sym e) (ap (λ (x : QueueValue). x.prepared) (at_set queues b q l) ∙ here)
      go (inr n) = ap (λ (x : QueueValue). x.prepared) (at_other queues b a q n) ∙ before

  pub is_prepared : (v : Value) → q.prepared ≡ Some v → (queue_at (set queues b q) b).prepared ≡ Some v
  is_prepared v here = ap (λ (x : QueueValue). x.prepared) (at_set queues b q l) ∙ here

pub same_at_first : (queues : List QueueValue) → SameQueues queues queues
same_at_first queues = record { lengths = refl; items = λ k. refl; spare = λ k. refl }

-- the first n of these nodes' queues have their prepared values at their ends
pub record PutSoFar (nodes : List ℕ) (n : ℕ) (old new : List QueueValue) : Type 0 where
  pub lengths : length new ≡ length old
  pub put : (i a : ℕ) (v : Value) → i < n → slice_get nodes i ≡ Some a → (queue_at old a).prepared ≡ Some v
      → queue_at new a ≡ put_value (queue_at old a) v
  pub stays : (a : ℕ) → ((i : ℕ) → i < n → slice_get nodes i ≡ Some a → ⊥) → queue_at new a ≡ queue_at old a

pub put_none : (nodes : List ℕ) (queues : List QueueValue) → PutSoFar nodes 0 queues queues
put_none nodes queues = record { lengths = refl; put = λ i a v l h p. absurd (omega arith); stays = λ a h. refl }

pub put_all : (nodes : List ℕ) (old new : List QueueValue) → PutSoFar nodes (length nodes) old new → PutInto nodes old new
put_all nodes old new so_far = record {
  lengths = so_far.lengths;
  put = λ a v (i, h) p. so_far.put i a v (slice_get_within nodes i a h) h p;
  stays = λ a n. so_far.stays a (λ i l h. n (i, h));
}

module _ (nodes : List ℕ) (distinct : AreDistinct nodes) (n b : ℕ) (here : slice_get nodes n ≡ Some b) (old new : List QueueValue)
    (so_far : PutSoFar nodes n old new) where
  -- the next node's queue is as it was
  pub next_stays : queue_at new b ≡ queue_at old b
  next_stays = so_far.stays b (λ i l h. absurd (let e : i ≡ n = distinct i n b h here in omega arith))

  pub put_more : (q : QueueValue) → b < length new → IfSome (queue_at new b).prepared (λ v. q ≡ put_value (queue_at new b) v)
      → PutSoFar nodes (n + 1) old (set new b q)
  put_more q l put = record {
    lengths = length-set new b q ∙ so_far.lengths;
    put = λ i a v m h p. go i a v m h p (cases_eq i n);
    stays = λ a h. other a h (cases_eq a b);
  }
    where
      prepared : (v : Value) → (queue_at old b).prepared ≡ Some v → q ≡ put_value (queue_at old b) v
      prepared v p =
          let m : IfSome (queue_at old b).prepared (λ w. q ≡ put_value (queue_at old b) w) =
          subst (λ (x : QueueValue). IfSome x.prepared (λ w. q ≡ put_value x w)) next_stays put in
          subst (λ (o : Option Value). IfSome o (λ w. q ≡ put_value (queue_at old b) w)) p m

      go : (i a : ℕ) (v : Value) → i < n + 1 → slice_get nodes i ≡ Some a → (queue_at old a).prepared ≡ Some v → (i ≡ n) ⊎ (i ≡ n → ⊥)
          → queue_at (set new b q) a ≡ put_value (queue_at old a) v
      go i a v m h p (inl e) =
          let s : b ≡ a = same_Some b a (sym here ∙ (ap (slice_get nodes) (sym e) ∙ h)) in
          let p' : (queue_at old b).prepared ≡ Some v = subst (λ (x : ℕ). (queue_at old x).prepared ≡ Some v) (sym s) p in
          subst (λ (x : ℕ). queue_at (set new b q) x ≡ put_value (queue_at old x) v) s (at_set new b q l ∙ prepared v p')
      go i a v m h p (inr k) =
          let ne : a ≡ b → ⊥ = λ s. k (distinct i n b (h ∙ ap (λ (x : ℕ). Some x) s) here) in
          at_other new b a q ne ∙ so_far.put i a v (omega arith) h p

      other : (a : ℕ) → ((i : ℕ) → i < n + 1 → slice_get nodes i ≡ Some a → ⊥) → (a ≡ b) ⊎ (a ≡ b → ⊥) → queue_at (set new b q) a ≡ queue_at old a
      other a h (inl e) = absurd (h n (omega arith) (here ∙ ap (λ (x : ℕ). Some x) (sym e)))
      other a h (inr k) = at_other new b a q k ∙ so_far.stays a (λ i m. h i (omega arith))

-- a change that was prepared and put is passed on
pub passed_on : (nodes : List ℕ) (v : Value) (old mid new : List QueueValue) → SameQueues old mid → ArePrepared nodes v mid → PutInto nodes mid new
    → PassedOn nodes (Change v) old new
passed_on nodes v old mid new same prepared put = record {
  lengths = put.lengths ∙ same.lengths;
  items = λ a within. ap (λ (q : QueueValue). q.items) (here a within) ∙ ap (λ (vs : List Value). vs ++ v ∷ []) (same.items a);
  spare = λ a within.
      let e : (queue_at new a).spare ≡ (queue_at mid a).spare - 1 = ap (λ (q : QueueValue). q.spare) (here a within) in
      omega (arith, e, same.spare a);
  other_items = λ a n. ap (λ (q : QueueValue). q.items) (put.stays a n) ∙ same.items a;
  other_spare = λ a n. ap (λ (q : QueueValue). q.spare) (put.stays a n) ∙ same.spare a;
}
  where
    here : (a : ℕ) → IsIn nodes a → queue_at new a ≡ put_value (queue_at mid a) v
    here a (i, h) = put.put a v (i, h) (prepared i a h)
