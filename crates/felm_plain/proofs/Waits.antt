-- The queues hold the changes that have no event yet, event by event.
use Rattle.std.proofs.Common.{◌≡◌, ℕ, suc, zero, ◌+◌, ◌<◌, ◌≤◌, ◌≢◌, Option, Some, None, List, [], ◌∷◌, ◌++◌, length, drop, get_or, get_or-set_same, get_or-set_other, length-set, refl, sym, ap, ◌∙◌, subst, arith, add-one, inl, inr, ◌⊎◌}
use Rattle.std.specs.Prelude.{replicate}
use Rattle.std.specs.List.{slice_get}
use Rattle.std.specs.Option.{option_or, option_and_then}
use Rattle.std.proofs.Math.ListN.{set}
use Rattle.std.proofs.lemmas.Bool.{cases_eq}
use Rattle.std.proofs.lemmas.Option.{slice_get_within, slice_get_read, get_or_from_slice_get, none-some, same_Some}
use Rattle.std.proofs.lemmas.List.{drop-drop, drop-append-le}
use Rattle.felm_term.specs.declared.value.Value.{Value}
use Rattle.felm_term.specs.declared.message.Message.{Message}
use Rattle.felm_term.specs.declared.event.Event.{Event}
use Rattle.felm_graph.specs.declared.node.Node.{Node}
use Rattle.felm_graph.specs.GraphValue.{GraphValue}
use Rattle.felm_meaning.specs.Nodes.{inner_of_kind, inner}
use Rattle.felm_meaning.specs.Meaning.{at, row, msg, changes, changed_in}
use Rattle.felm_meaning.specs.Journals.{entered, event_at, waiting, first_waiting}
use Rattle.felm_meaning.proofs.Fronts.{changes-prefix, changes-grow, entered-append, entered-own, entered-other}
use Rattle.felm_plain.specs.Queues.{left_at, queue_at, Holds, first_queue, added, Added}

-- ---- the first queue in which a value waits

-- the first of some values
pub first_of : (q : List Value) → (q ≡ [] → ⊥) → (v : Value) × (slice_get q 0 ≡ Some v)
first_of [] h = absurd (h refl)
first_of (v ∷ q) h = (v, refl)

-- a queue that was read
pub read_queue : (queues : List (List Value)) (k : ℕ) (q : List Value) → k < length queues → q ≡ get_or queues k q → queue_at queues k ≡ q
read_queue queues k q l e = get_or_from_slice_get queues k q [] (slice_get_read queues (length queues) k q refl l e)

pub first_queue-none : (queues : List (List Value)) (k : ℕ) → first_queue queues k ≡ None → slice_get (queue_at queues k) 0 ≡ None
    → first_queue queues (k + 1) ≡ None
unfolding first_queue
first_queue-none queues k h q = rw (add-one, h, q) refl

pub first_queue-found : (queues : List (List Value)) (k n : ℕ) (v : Value) → first_queue queues k ≡ None → slice_get (queue_at queues k) 0 ≡ Some v → k < n
    → first_queue queues n ≡ Some (record { source = k; value = v })
unfolding first_queue
first_queue-found queues k zero v h q l = absurd (omega arith)
first_queue-found queues k (suc n) v h q l = go (cases_eq k n) (first_queue-found queues k n v h q)
  where
    go : (k ≡ n) ⊎ (k ≡ n → ⊥) → (k < n → first_queue queues n ≡ Some (record { source = k; value = v }))
        → option_or (first_queue queues n) (event_at n (slice_get (queue_at queues n) 0)) ≡ Some (record { source = k; value = v })
    go (inl e) ih =
        subst (λ (x : ℕ). option_or (first_queue queues x) (event_at x (slice_get (queue_at queues x) 0)) ≡ Some (record { source = k; value = v })) e
        (rw (h, q) refl)
    go (inr e) ih = ap (λ (o : Option Event). option_or o (event_at n (slice_get (queue_at queues n) 0))) (ih (omega arith))

-- the event of the first queue is that of a value that waits
pub first_queue-some : (queues : List (List Value)) (n : ℕ) (e : Event) → first_queue queues n ≡ Some e
    → (e.source < n) × (slice_get (queue_at queues e.source) 0 ≡ Some e.value)
unfolding first_queue
first_queue-some queues zero e h = absurd (none-some e h)
first_queue-some queues (suc n) e h = go (first_queue queues n) (slice_get (queue_at queues n) 0) refl refl h (first_queue-some queues n e)
  where
    go : (o : Option Event) (v : Option Value) → first_queue queues n ≡ o → slice_get (queue_at queues n) 0 ≡ v → option_or o (event_at n v) ≡ Some e
        → (first_queue queues n ≡ Some e → (e.source < n) × (slice_get (queue_at queues e.source) 0 ≡ Some e.value))
        → (e.source < suc n) × (slice_get (queue_at queues e.source) 0 ≡ Some e.value)
    go (Some d) v p q r ih = let s = ih (p ∙ r) in let l : e.source < n = s.0 in (omega arith, s.1)
    go None None p q r ih = absurd (none-some e r)
    go None (Some v) p q r ih =
        let d : record { source = n; value = v } ≡ e = same_Some _ e r in
        let s : n ≡ e.source = ap (λ (x : Event). x.source) d in
        let u : v ≡ e.value = ap (λ (x : Event). x.value) d in
        (omega arith, subst (λ (x : ℕ). slice_get (queue_at queues x) 0 ≡ Some e.value) s (q ∙ ap (λ (x : Value). Some x) u))

slice_get-drop : {X : Type 0} (n : ℕ) (xs : List X) → slice_get (drop n xs) 0 ≡ slice_get xs n
slice_get-drop zero xs = refl
slice_get-drop (suc n) [] = refl
slice_get-drop (suc n) (x ∷ xs) = slice_get-drop n xs

-- queues in which nothing waits
pub queue_at-replicate : (n k : ℕ) → queue_at (replicate n []) k ≡ []
queue_at-replicate zero k = refl
queue_at-replicate (suc n) zero = refl
queue_at-replicate (suc n) (suc k) = queue_at-replicate n k

-- ---- a row's changes are put, queue by queue

pub before_more : (nodes : List Node) (r : List (Option Message)) (first queues : List (List Value)) (i : ℕ) (q : List Value) (node : Node) → i < length queues
    → slice_get nodes i ≡ Some node → ((k : ℕ) → k < i → queue_at queues k ≡ queue_at first k ++ added (inner nodes k) r)
    → ((k : ℕ) → i ≤ k → queue_at queues k ≡ queue_at first k) → q ≡ queue_at queues i ++ added (inner_of_kind node.kind) r
    → (k : ℕ) → k < i + 1 → queue_at (set queues i q) k ≡ queue_at first k ++ added (inner nodes k) r
before_more nodes r first queues i q node w n before after e k l = go (cases_eq k i)
  where
    go : (k ≡ i) ⊎ (k ≡ i → ⊥) → queue_at (set queues i q) k ≡ queue_at first k ++ added (inner nodes k) r
    go (inl s) =
        subst (λ (x : ℕ). queue_at (set queues i q) x ≡ queue_at first x ++ added (inner nodes x) r) (sym s)
        (get_or-set_same queues i q [] w ∙
        (e ∙ (ap (λ (x : List Value). x ++ added (inner_of_kind node.kind) r) (after i (omega arith)) ∙
        ap (λ (o : Option Node). queue_at first i ++ added (option_and_then (λ x. inner_of_kind x.kind) o) r) (sym n))))
    go (inr s) = let ne : k ≢ i = s in get_or-set_other queues i k q [] ne ∙ before k (omega arith)

pub after_more : (first queues : List (List Value)) (i : ℕ) (q : List Value) → ((k : ℕ) → i ≤ k → queue_at queues k ≡ queue_at first k) → (k : ℕ) → i + 1 ≤ k
    → queue_at (set queues i q) k ≡ queue_at first k
after_more first queues i q after k l = let ne : k ≢ i = omega arith in get_or-set_other queues i k q [] ne ∙ after k (omega arith)

module _ (g : GraphValue) (b : ℕ) where
  -- ---- what waits is the meaning's

  queue-waiting : (j : List Event) (queues : List (List Value)) (k : ℕ) → Holds g b j (length j) queues → k < length g.nodes
      → slice_get (queue_at queues k) 0 ≡ waiting g b j k
  unfolding waiting
  queue-waiting j queues k h l = ap (λ (q : List Value). slice_get q 0) (h.left k l) ∙ go (inner g.nodes k)
    where
      go : (o : Option ℕ) → slice_get (left_at o g b j (length j) k) 0 ≡ option_and_then (λ x. slice_get (changes g b j x (length j)) (entered j k)) o
      go None = refl
      go (Some x) = slice_get-drop (entered j k) (changes g b j x (length j))

  pub queues-waiting : (j : List Event) (queues : List (List Value)) (n : ℕ) → Holds g b j (length j) queues → n ≤ length g.nodes
      → first_queue queues n ≡ first_waiting g b j n
  unfolding first_queue first_waiting
  queues-waiting j queues zero h l = refl
  queues-waiting j queues (suc n) h l =
      let ih : first_queue queues n ≡ first_waiting g b j n = queues-waiting j queues n h (omega arith) in
      let w : slice_get (queue_at queues n) 0 ≡ waiting g b j n = queue-waiting j queues n h (omega arith) in
      rw (ih, w) refl

  -- a value that waits is a change of an async's inner signal
  pub queue_left : (j : List Event) (queues : List (List Value)) (k : ℕ) (v : Value) → Holds g b j (length j) queues → k < length g.nodes
      → slice_get (queue_at queues k) 0 ≡ Some v
      → (x : ℕ) × (inner g.nodes k ≡ Some x) × (slice_get (changes g b j x (length j)) (entered j k) ≡ Some v)
  queue_left j queues k v h l q = go (inner g.nodes k) refl (sym (ap (λ (w : List Value). slice_get w 0) (h.left k l)) ∙ q)
    where
      go : (o : Option ℕ) → inner g.nodes k ≡ o → slice_get (left_at o g b j (length j) k) 0 ≡ Some v
          → (x : ℕ) × (o ≡ Some x) × (slice_get (changes g b j x (length j)) (entered j k) ≡ Some v)
      go None r s = absurd (none-some v s)
      go (Some x) r s = (x, refl, sym (slice_get-drop (entered j k) (changes g b j x (length j))) ∙ s)

  -- ---- an event is taken

  -- an async's, off its queue
  pub taken_waiting : (j : List Event) (queues after : List (List Value)) (e : Event) (i : ℕ) → Holds g b j (length j) queues → e.source < length g.nodes
      → inner g.nodes e.source ≡ Some i → slice_get (changes g b j i (length j)) (entered j e.source) ≡ Some e.value
      → after ≡ set queues e.source (drop 1 (queue_at queues e.source)) → Holds g b (j ++ e ∷ []) (length j) after
  taken_waiting j queues after e i h w q v s = record {
    lengths = ap length s ∙ (length-set queues e.source (drop 1 (queue_at queues e.source)) ∙ h.lengths);
    left = λ k l. rw s (left k l (cases_eq k e.source) (inner g.nodes k) refl);
    had = λ k x r. had k x r (cases_eq k e.source);
  }
    where
      more : entered (j ++ e ∷ []) e.source ≡ entered j e.source + 1
      more = entered-append j (e ∷ []) e.source ∙ ap (λ (n : ℕ). entered j e.source + n) (entered-own e.source e.value)

      same : (k : ℕ) → (k ≡ e.source → ⊥) → entered (j ++ e ∷ []) k ≡ entered j k
      same k n =
          let z : entered (e ∷ []) k ≡ 0 = entered-other e.source e.value k (λ (x : e.source ≡ k). n (sym x)) in
          let a : entered (j ++ e ∷ []) k ≡ entered j k + entered (e ∷ []) k = entered-append j (e ∷ []) k in
          omega arith

      left : (k : ℕ) → k < length g.nodes → (k ≡ e.source) ⊎ (k ≡ e.source → ⊥) → (o : Option ℕ) → inner g.nodes k ≡ o
          → queue_at (set queues e.source (drop 1 (queue_at queues e.source))) k ≡ left_at o g b (j ++ e ∷ []) (length j) k
      left k l (inl n) o r =
          let u : o ≡ Some i = sym r ∙ (ap (inner g.nodes) n ∙ q) in
          let f : queue_at queues e.source ≡ left_at (Some i) g b j (length j) e.source =
          h.left e.source w ∙ ap (λ (x : Option ℕ). left_at x g b j (length j) e.source) q in
          let d : drop 1 (queue_at queues e.source) ≡ drop (entered (j ++ e ∷ []) e.source) (changes g b (j ++ e ∷ []) i (length j)) =
          ap (drop 1) f ∙
          (drop-drop 1 (entered j e.source) (changes g b j i (length j)) ∙
          (ap (λ (x : ℕ). drop x (changes g b j i (length j))) (sym more) ∙
          ap (drop (entered (j ++ e ∷ []) e.source)) (sym (changes-prefix g b j (e ∷ []) i (length j) (omega arith))))) in
          let len : e.source < length queues = omega (arith, h.lengths) in
          subst (λ (x : ℕ). queue_at (set queues e.source (drop 1 (queue_at queues e.source))) x ≡ left_at o g b (j ++ e ∷ []) (length j) x) (sym n)
          (get_or-set_same queues e.source (drop 1 (queue_at queues e.source)) [] len ∙
          (d ∙ ap (λ (x : Option ℕ). left_at x g b (j ++ e ∷ []) (length j) e.source) (sym u)))
      left k l (inr n) None r =
          let ne : k ≢ e.source = n in
          get_or-set_other queues e.source k (drop 1 (queue_at queues e.source)) [] ne ∙ (h.left k l ∙ ap (λ (x : Option ℕ). left_at x g b j (length j) k) r)
      left k l (inr n) (Some x) r =
          let ne : k ≢ e.source = n in
          get_or-set_other queues e.source k (drop 1 (queue_at queues e.source)) [] ne ∙
          (h.left k l ∙
          (ap (λ (y : Option ℕ). left_at y g b j (length j) k) r ∙
          (ap (λ (y : ℕ). drop y (changes g b j x (length j))) (sym (same k n)) ∙
          ap (drop (entered (j ++ e ∷ []) k)) (sym (changes-prefix g b j (e ∷ []) x (length j) (omega arith))))))

      had : (k x : ℕ) → inner g.nodes k ≡ Some x → (k ≡ e.source) ⊎ (k ≡ e.source → ⊥)
          → entered (j ++ e ∷ []) k ≤ length (changes g b (j ++ e ∷ []) x (length j))
      had k x r (inl n) =
          let u : i ≡ x = same_Some i x (sym q ∙ (ap (inner g.nodes) (sym n) ∙ r)) in
          let c : length (changes g b (j ++ e ∷ []) x (length j)) ≡ length (changes g b j x (length j)) =
          ap length (changes-prefix g b j (e ∷ []) x (length j) (omega arith)) in
          let d : length (changes g b j i (length j)) ≡ length (changes g b j x (length j)) = ap (λ (y : ℕ). length (changes g b j y (length j))) u in
          let f : entered j e.source < length (changes g b j i (length j)) = slice_get_within (changes g b j i (length j)) (entered j e.source) e.value v in
          let a : entered (j ++ e ∷ []) k ≡ entered (j ++ e ∷ []) e.source = ap (entered (j ++ e ∷ [])) n in
          omega (arith, more)
      had k x r (inr n) =
          let c : length (changes g b (j ++ e ∷ []) x (length j)) ≡ length (changes g b j x (length j)) =
          ap length (changes-prefix g b j (e ∷ []) x (length j) (omega arith)) in
          let f : entered j k ≤ length (changes g b j x (length j)) = h.had k x r in
          omega (arith, same k n)

  -- an input's leaves the queues as they are
  pub taken_scripted : (j : List Event) (queues : List (List Value)) (e : Event) → Holds g b j (length j) queues → inner g.nodes e.source ≡ None
      → Holds g b (j ++ e ∷ []) (length j) queues
  taken_scripted j queues e h q = record {
    lengths = h.lengths;
    left = λ k l. left k l (inner g.nodes k) refl;
    had = λ k x r.
        let c : length (changes g b (j ++ e ∷ []) x (length j)) ≡ length (changes g b j x (length j)) =
        ap length (changes-prefix g b j (e ∷ []) x (length j) (omega arith)) in
        let f : entered j k ≤ length (changes g b j x (length j)) = h.had k x r in
        omega (arith, same k x r);
  }
    where
      same : (k x : ℕ) → inner g.nodes k ≡ Some x → entered (j ++ e ∷ []) k ≡ entered j k
      same k x r =
          let z : entered (e ∷ []) k ≡ 0 =
          entered-other e.source e.value k (λ (y : e.source ≡ k). none-some x (sym q ∙ (ap (inner g.nodes) y ∙ r))) in
          let a : entered (j ++ e ∷ []) k ≡ entered j k + entered (e ∷ []) k = entered-append j (e ∷ []) k in
          omega arith

      left : (k : ℕ) → k < length g.nodes → (o : Option ℕ) → inner g.nodes k ≡ o → queue_at queues k ≡ left_at o g b (j ++ e ∷ []) (length j) k
      left k l None r = h.left k l ∙ ap (λ (x : Option ℕ). left_at x g b j (length j) k) r
      left k l (Some x) r =
          h.left k l ∙
          (ap (λ (y : Option ℕ). left_at y g b j (length j) k) r ∙
          (ap (λ (y : ℕ). drop y (changes g b j x (length j))) (sym (same k x r)) ∙
          ap (drop (entered (j ++ e ∷ []) k)) (sym (changes-prefix g b j (e ∷ []) x (length j) (omega arith)))))

  -- ---- the changes of the next row are put

  pub holds_more : (j : List Event) (p : ℕ) (before after : List (List Value)) → Holds g b j p before → Added g.nodes (row g b j (suc p)) before after
      → Holds g b j (suc p) after
  unfolding changes msg
  holds_more j p before after h a = record {
    lengths = a.0 ∙ h.lengths;
    left = λ k l.
        a.1 k l ∙ (ap (λ (x : List Value). x ++ added (inner g.nodes k) (row g b j (suc p))) (h.left k l) ∙ go k (inner g.nodes k) refl);
    had = λ k i q.
        let f : entered j k ≤ length (changes g b j i p) = h.had k i q in
        let m : length (changes g b j i p) ≤ length (changes g b j i (suc p)) = changes-grow g b j i p (suc p) (omega arith) in
        omega arith;
  }
    where
      go : (k : ℕ) (o : Option ℕ) → inner g.nodes k ≡ o → left_at o g b j p k ++ added o (row g b j (suc p)) ≡ left_at o g b j (suc p) k
      go k None q = refl
      go k (Some i) q = sym (drop-append-le (entered j k) (changes g b j i p) (changed_in (at (row g b j (suc p)) i)) (h.had k i q))
