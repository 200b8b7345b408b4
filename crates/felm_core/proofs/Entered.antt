-- What lies where after an event.
use Rattle.std.proofs.Common.{◌≡◌, ℕ, suc, ◌+◌, ◌<◌, ◌≤◌, Bool, true, false, Option, Some, None, List, [], ◌∷◌, ◌++◌, length, drop, refl, sym, ap, ◌∙◌, arith}
use Rattle.std.proofs.lemmas.List.{length-append, append-nil, drop-append-le, drop-drop}
use Rattle.felm_term.specs.declared.value.Value.{Value}
use Rattle.felm_term.specs.declared.message.Message.{Message}
use Rattle.felm_term.specs.declared.event.Event.{Event}
use Rattle.felm_graph.specs.Nodes.{is_source}
use Rattle.felm_graph.specs.Graphs.{IsGraph}
use Rattle.felm_meaning.specs.Nodes.{inner}
use Rattle.felm_meaning.specs.Meaning.{msg, val, value_at, source_message, changes, sends, edge}
use Rattle.felm_meaning.specs.Journals.{entered}
use Rattle.felm_meaning.proofs.Graphs.{ordered}
use Rattle.felm_meaning.proofs.Rows.{there_within}
use Rattle.felm_meaning.proofs.Fronts.{sends-prefix, changes-prefix, entered-append, entered-own, entered-other}
use Rattle.felm_meaning.proofs.Legal.{source_within}
use Rattle.felm_meaning.specs.PlanValue.{PlanValue}
use Rattle.felm_core.specs.Positions.{Position, done_at, Reads, IsSound}
use Rattle.felm_core.specs.Contents.{edge_at, kept_at, waiting_at, outputs_at, settled_at, owed_at}
use Rattle.felm_core.specs.Moves.{counted, with_next}
use Rattle.felm_core.proofs.Wiring.{reader_within, counted-source, counted-other}
use Rattle.felm_core.proofs.Runs.{inner_there}
use Rattle.felm_core.proofs.Messages.{changed_own, changed_other, length-sends, edge-prefix, val-prefix, new_message, sends-new, changes-new}
use Rattle.felm_core.proofs.Sent.{turns-same}
use Rattle.felm_core.proofs.Messages.{waiting_is, nothing_waits}

module _ (s : PlanValue) (c : Position) (e : Event) (graph : IsGraph s.graph) (sound : IsSound s c) (source : is_source s.graph.nodes e.source ≡ true) where
  after : List ℕ
  after = counted s.graph.nodes 0 c.done

  new : List Event
  new = c.journal ++ e ∷ []

  within : (k : ℕ) → k < length s.graph.nodes → k < length c.done
  within k l = omega (arith, sound.counts)

  done_within : (k : ℕ) → k < length s.graph.nodes → done_at c.done k ≤ length c.journal
  done_within k l = there_within s.graph s.budget c.journal k (done_at c.done k) (sound.sent k (done_at c.done k) l (omega arith))

  same : (k : ℕ) → k < length s.graph.nodes → is_source s.graph.nodes k ≡ false → done_at after k ≡ done_at c.done k
  unfolding after
  same k l h = counted-other s.graph.nodes c.done k (within k l) h

  was : (k : ℕ) → is_source s.graph.nodes k ≡ true → done_at c.done k ≡ length c.journal
  was = sound.sources

  is : (k : ℕ) → is_source s.graph.nodes k ≡ true → done_at after k ≡ suc (length c.journal)
  unfolding after
  is k h = counted-source s.graph.nodes c.done k (within k (source_within s.graph.nodes k h)) h ∙ ap suc (was k h)

  -- ---- edges

  -- a source puts its message at the end of each edge that reads it
  pub next_put : (k r port : ℕ) (m : Message) → Reads s.graph.nodes r port k → is_source s.graph.nodes k ≡ true
      → source_message k e (val s.graph s.budget c.journal k (length c.journal)) ≡ Some m → edge_at s (with_next s c e) k r ≡ edge_at s c k r ++ m ∷ []
  unfolding edge_at after new
  next_put k r port m h w q =
      let l : k < length s.graph.nodes = source_within s.graph.nodes k w in
      let reader = reader_within s.graph.nodes r port k h in
      let f : done_at c.done r ≤ done_at c.done k = sound.fed r port k h in
      ap (λ (x : ℕ). edge s.graph s.budget new k x (done_at after k)) (same r reader.0 reader.1) ∙
      (ap (λ (x : ℕ). edge s.graph s.budget new k (done_at c.done r) x) (is k w) ∙
      (ap (drop (done_at c.done r)) (sends-new s.graph s.budget c.journal e k m (ordered s.graph graph) l w q) ∙
      (drop-append-le (done_at c.done r) (sends s.graph s.budget c.journal k (length c.journal)) (m ∷ []) (omega (arith, f, was k w, sent_length k l w)) ∙
      ap (λ (x : ℕ). edge s.graph s.budget c.journal k (done_at c.done r) x ++ m ∷ []) (sym (was k w)))))
    where
      sent_length : (k : ℕ) → k < length s.graph.nodes → is_source s.graph.nodes k ≡ true → length (sends s.graph s.budget c.journal k (length c.journal)) ≡ length c.journal
      sent_length k l w = length-sends s.graph s.budget c.journal k (length c.journal) (λ p u. sound.sent k p l (omega (arith, u, was k w)))

  -- the edges that read another node stay
  pub next_edge : (k r port : ℕ) → Reads s.graph.nodes r port k → is_source s.graph.nodes k ≡ false → edge_at s (with_next s c e) k r ≡ edge_at s c k r
  unfolding edge_at after new
  next_edge k r port h w =
      let reader = reader_within s.graph.nodes r port k h in
      let d : k < r = (ordered s.graph graph).down r port k h in
      let n : r < length s.graph.nodes = reader.0 in
      let l : k < length s.graph.nodes = omega arith in
      ap (λ (x : ℕ). edge s.graph s.budget new k x (done_at after k)) (same r reader.0 reader.1) ∙
      (ap (λ (x : ℕ). edge s.graph s.budget new k (done_at c.done r) x) (same k l w) ∙
      edge-prefix s.graph s.budget c.journal e k (done_at c.done r) (done_at c.done k) (done_within k l))

  -- ---- kept values

  pub next_kept : (k : ℕ) → is_source s.graph.nodes k ≡ true
      → kept_at s (with_next s c e) k ≡ value_at (source_message k e (val s.graph s.budget c.journal k (length c.journal)))
  unfolding kept_at val after new
  next_kept k w =
      ap (λ (x : ℕ). value_at (msg s.graph s.budget new k x)) (is k w) ∙
      ap value_at (new_message s.graph s.budget c.journal e k (ordered s.graph graph) (source_within s.graph.nodes k w) w)

  pub next_kept-other : (k : ℕ) → k < length s.graph.nodes → is_source s.graph.nodes k ≡ false → kept_at s (with_next s c e) k ≡ kept_at s c k
  unfolding kept_at after new
  next_kept-other k l w =
      ap (val s.graph s.budget new k) (same k l w) ∙ val-prefix s.graph s.budget c.journal e k (done_at c.done k) (done_within k l)

  -- ---- waiting lists

  changed : (x : ℕ) → x < length s.graph.nodes → e.source ≡ x
      → changes s.graph s.budget new x (done_at after x) ≡ changes s.graph s.budget c.journal x (done_at c.done x) ++ e.value ∷ []
  unfolding new
  changed x l q =
      let w : is_source s.graph.nodes x ≡ true = ap (is_source s.graph.nodes) (sym q) ∙ source in
      ap (changes s.graph s.budget new x) (is x w) ∙
      (changes-new s.graph s.budget c.journal e x (ordered s.graph graph) l w ∙
      (ap (λ (vs : List Value). changes s.graph s.budget c.journal x (length c.journal) ++ vs) (changed_own x e _ q) ∙
      ap (λ (n : ℕ). changes s.graph s.budget c.journal x n ++ e.value ∷ []) (sym (was x w))))

  unchanged : (x : ℕ) → x < length s.graph.nodes → (e.source ≡ x → ⊥)
      → changes s.graph s.budget new x (done_at after x) ≡ changes s.graph s.budget c.journal x (done_at c.done x)
  unfolding new
  unchanged x l n = go (is_source s.graph.nodes x) refl
    where
      go : (t : Bool) → is_source s.graph.nodes x ≡ t
          → changes s.graph s.budget new x (done_at after x) ≡ changes s.graph s.budget c.journal x (done_at c.done x)
      go true w =
          ap (changes s.graph s.budget new x) (is x w) ∙
          (changes-new s.graph s.budget c.journal e x (ordered s.graph graph) l w ∙
          (ap (λ (vs : List Value). changes s.graph s.budget c.journal x (length c.journal) ++ vs) (changed_other x e _ n) ∙
          (append-nil (changes s.graph s.budget c.journal x (length c.journal)) ∙ ap (changes s.graph s.budget c.journal x) (sym (was x w)))))
      go false w =
          ap (changes s.graph s.budget new x) (same x l w) ∙
          changes-prefix s.graph s.budget c.journal (e ∷ []) x (done_at c.done x) (done_within x l)

  entered_one : (a : ℕ) → e.source ≡ a → entered new a ≡ entered c.journal a + 1
  unfolding new
  entered_one a q = entered-append c.journal (e ∷ []) a ∙ ap (λ (n : ℕ). entered c.journal a + n) (ap (entered (e ∷ [])) (sym q) ∙ entered-own e.source e.value)

  entered_none : (a : ℕ) → (e.source ≡ a → ⊥) → entered new a ≡ entered c.journal a
  unfolding new
  entered_none a n =
      let o : entered (e ∷ []) a ≡ 0 = entered-other e.source e.value a n in
      entered-append c.journal (e ∷ []) a ∙ omega arith

  -- the async whose event it is loses its first value
  pub next_waits-own : (a x : ℕ) → inner s.graph.nodes a ≡ Some x → e.source ≡ a → waiting_at s (with_next s c e) a ≡ drop 1 (waiting_at s c a)
  unfolding after new
  next_waits-own a x h q =
      let l : x < a = (ordered s.graph graph).inner_down a x h in
      waiting_is s (with_next s c e) a x h ∙
      (ap (drop (entered new a)) (unchanged x (inner_there s graph a x h) (λ (i : e.source ≡ x). omega arith)) ∙
      (ap (λ (n : ℕ). drop n (changes s.graph s.budget c.journal x (done_at c.done x))) (entered_one a q) ∙
      (sym (drop-drop 1 (entered c.journal a) (changes s.graph s.budget c.journal x (done_at c.done x))) ∙ ap (drop 1) (sym (waiting_is s c a x h)))))

  -- an async over the event's source gets the event's value
  pub next_waits-over : (a : ℕ) → inner s.graph.nodes a ≡ Some e.source → waiting_at s (with_next s c e) a ≡ waiting_at s c a ++ e.value ∷ []
  unfolding after new
  next_waits-over a h =
      let l : e.source < a = (ordered s.graph graph).inner_down a e.source h in
      waiting_is s (with_next s c e) a e.source h ∙
      (ap (drop (entered new a)) (changed e.source (inner_there s graph a e.source h) refl) ∙
      (ap (λ (n : ℕ). drop n (changes s.graph s.budget c.journal e.source (done_at c.done e.source) ++ e.value ∷ [])) (entered_none a (λ (i : e.source ≡ a). omega arith)) ∙
      (drop-append-le (entered c.journal a) (changes s.graph s.budget c.journal e.source (done_at c.done e.source)) (e.value ∷ []) (sound.entered a e.source h) ∙
      ap (λ (vs : List Value). vs ++ e.value ∷ []) (sym (waiting_is s c a e.source h)))))

  -- any other waiting list stays
  pub next_waits-other : (a : ℕ) → (e.source ≡ a → ⊥) → (inner s.graph.nodes a ≡ Some e.source → ⊥) → waiting_at s (with_next s c e) a ≡ waiting_at s c a
  unfolding after new
  next_waits-other a n o = go (inner s.graph.nodes a) refl
    where
      there : (x : ℕ) → inner s.graph.nodes a ≡ Some x → waiting_at s (with_next s c e) a ≡ waiting_at s c a
      there x h =
          waiting_is s (with_next s c e) a x h ∙
          (ap (λ (n : ℕ). drop n (changes s.graph s.budget new x (done_at after x))) (entered_none a n) ∙
          (ap (drop (entered c.journal a)) (unchanged x (inner_there s graph a x h) (λ (i : e.source ≡ x). o (h ∙ ap (λ (y : ℕ). Some y) (sym i)))) ∙
          sym (waiting_is s c a x h)))

      go : (i : Option ℕ) → inner s.graph.nodes a ≡ i → waiting_at s (with_next s c e) a ≡ waiting_at s c a
      go None h = nothing_waits s (with_next s c e) a h ∙ sym (nothing_waits s c a h)
      go (Some x) h = there x h

  -- ---- outputs

  pub next_shown : (m : Message) → is_source s.graph.nodes s.graph.main ≡ true
      → source_message s.graph.main e (val s.graph s.budget c.journal s.graph.main (length c.journal)) ≡ Some m
      → outputs_at s (with_next s c e) ≡ outputs_at s c ++ m ∷ []
  unfolding outputs_at after new
  next_shown m w q =
      ap (sends s.graph s.budget new s.graph.main) (is s.graph.main w) ∙
      (sends-new s.graph s.budget c.journal e s.graph.main m (ordered s.graph graph) graph.main_there w q ∙
      ap (λ (n : ℕ). sends s.graph s.budget c.journal s.graph.main n ++ m ∷ []) (sym (was s.graph.main w)))

  pub next_shown-other : is_source s.graph.nodes s.graph.main ≡ false → outputs_at s (with_next s c e) ≡ outputs_at s c
  unfolding outputs_at after new
  next_shown-other w =
      ap (sends s.graph s.budget new s.graph.main) (same s.graph.main graph.main_there w) ∙
      sends-prefix s.graph s.budget c.journal (e ∷ []) s.graph.main (done_at c.done s.graph.main) (done_within s.graph.main graph.main_there)

  -- ---- counts

  pub next_settled : settled_at s (with_next s c e) ≡ settled_at s c
  unfolding after
  next_settled = turns-same s.graph.nodes c.done after (length s.graph.nodes) same

  pub next_owed : (k : ℕ) → k < length s.graph.nodes → is_source s.graph.nodes k ≡ false → owed_at (with_next s c e) k ≡ suc (owed_at c k)
  unfolding after new
  next_owed k l w = omega (arith, length-append c.journal (e ∷ []), same k l w, done_within k l)

  pub next_owed-source : (k : ℕ) → is_source s.graph.nodes k ≡ true → owed_at (with_next s c e) k ≡ 0
  unfolding after new
  next_owed-source k w = omega (arith, length-append c.journal (e ∷ []), is k w)

-- a source's kept value is the one at the journal's end
pub kept_is : (s : PlanValue) (c : Position) (e : Event) → IsSound s c → (k : ℕ) → is_source s.graph.nodes k ≡ true
    → kept_at s c k ≡ val s.graph s.budget c.journal k (length c.journal)
unfolding kept_at
kept_is s c e sound k h = ap (val s.graph s.budget c.journal k) (sound.sources k h)

pub kept_source : (s : PlanValue) (c : Position) (e : Event) → IsSound s c → (k : ℕ) → is_source s.graph.nodes k ≡ true → (m : Message)
    → source_message k e (kept_at s c k) ≡ Some m → source_message k e (val s.graph s.budget c.journal k (length c.journal)) ≡ Some m
kept_source s c e sound k h m q = ap (source_message k e) (sym (kept_is s c e sound k h)) ∙ q
