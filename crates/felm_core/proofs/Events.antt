-- An event that enters keeps a sound position sound.
use Rattle.std.proofs.Common.{◌≡◌, ℕ, suc, ◌+◌, ◌<◌, ◌≤◌, ◌⊎◌, inl, inr, Bool, true, false, Some, List, [], ◌∷◌, ◌++◌, length, refl, sym, ap, ◌∙◌, subst, arith}
use Rattle.std.specs.List.{slice_get}
use Rattle.std.proofs.lemmas.Option.{same_Some, slice_get_within}
use Rattle.std.proofs.lemmas.Bool.{cases_eq, cases_lt}
use Rattle.std.proofs.lemmas.List.{length-append}
use Rattle.felm_term.specs.declared.event.Event.{Event}
use Rattle.felm_graph.specs.GraphValue.{GraphValue}
use Rattle.felm_graph.specs.Nodes.{is_source}
use Rattle.felm_graph.specs.Graphs.{IsGraph}
use Rattle.felm_meaning.specs.Nodes.{inner}
use Rattle.felm_meaning.specs.Meaning.{msg, changes, IsThere}
use Rattle.felm_meaning.specs.Journals.{entered}
use Rattle.felm_meaning.proofs.Graphs.{ordered}
use Rattle.felm_meaning.proofs.Rows.{slice_get-append_left, slice_get_last, msg-prefix, there_within}
use Rattle.felm_meaning.proofs.Fronts.{source_there, changes-prefix, changes-grow, entered-append, entered-own, entered-other}
use Rattle.felm_meaning.proofs.Legal.{caused-more, source_within, async_is_source}
use Rattle.felm_meaning.proofs.Edges.{default-there}
use Rattle.felm_meaning.specs.PlanValue.{PlanValue}
use Rattle.felm_core.specs.Positions.{StopValue, Position, done_at, Reads, HasTurn, IsStop, IsSound}
use Rattle.felm_core.specs.Moves.{counted, with_next, HasPlace}
use Rattle.felm_core.proofs.Wiring.{reader_within, reads_some, length-counted, counted-source, counted-other, counted-more}

-- the last place
pub at_last : {X : Type 0} (xs : List X) (y : X) (p : ℕ) (f : X) → slice_get (xs ++ y ∷ []) p ≡ Some f → length xs ≤ p → p ≡ length xs
at_last xs y p f q l = let w : p < length (xs ++ y ∷ []) = slice_get_within (xs ++ y ∷ []) p f q in omega (arith, length-append xs (y ∷ []))

-- an event that comes next has its cause where, if it is an async's, it carries the next change of the inner signal
abbrev pub HasCause : GraphValue → ℕ → List Event → Event → Type 0
HasCause g b j e = (x : ℕ) → inner g.nodes e.source ≡ Some x → slice_get (changes g b j x (length j)) (entered j e.source) ≡ Some e.value

module _ (s : PlanValue) (c : Position) (e : Event) (graph : IsGraph s.graph) (sound : IsSound s c) (place : HasPlace s c)
    (source : is_source s.graph.nodes e.source ≡ true) (cause : HasCause s.graph s.budget c.journal e)
    (waited : (x : ℕ) → inner s.graph.nodes e.source ≡ Some x → suc (entered c.journal e.source) ≤ length (changes s.graph s.budget c.journal x (done_at c.done x))) where
  after : List ℕ
  after = counted s.graph.nodes 0 c.done

  longer : length (c.journal ++ e ∷ []) ≡ suc (length c.journal)
  longer = length-append c.journal (e ∷ []) ∙ omega arith

  within : (k : ℕ) → k < length s.graph.nodes → k < length c.done
  within k l = omega (arith, sound.counts)

  node : (k : ℕ) → is_source s.graph.nodes k ≡ true → k < length c.done
  node k h = within k (source_within s.graph.nodes k h)

  rise : (k : ℕ) → done_at c.done k ≤ done_at after k
  unfolding after
  rise k = counted-more s.graph.nodes c.done k

  same : (k : ℕ) → k < length s.graph.nodes → is_source s.graph.nodes k ≡ false → done_at after k ≡ done_at c.done k
  unfolding after
  same k l h = counted-other s.graph.nodes c.done k (within k l) h

  more : (k : ℕ) → is_source s.graph.nodes k ≡ true → done_at after k ≡ suc (done_at c.done k)
  unfolding after
  more k h = counted-source s.graph.nodes c.done k (node k h) h

  reader : (k port a : ℕ) → Reads s.graph.nodes k port a → done_at after k ≡ done_at c.done k
  reader k port a r = let w = reader_within s.graph.nodes k port a r in same k w.0 w.1

  room : (k port a : ℕ) → Reads s.graph.nodes k port a → (t : Bool) → is_source s.graph.nodes a ≡ t → done_at after a ≤ done_at after k + s.capacity
  room k port a r true h =
      let f : done_at c.done a < done_at c.done k + s.capacity = place.room a h k port r in omega (arith, more a h, reader k port a r)
  room k port a r false h =
      let l : a < k = (ordered s.graph graph).down k port a r in
      let n : k < length s.graph.nodes = (reader_within s.graph.nodes k port a r).0 in
      let f : done_at c.done a ≤ done_at c.done k + s.capacity = sound.room k port a r in
      let q : done_at after a ≡ done_at c.done a = same a (omega arith) h in
      omega (arith, reader k port a r)

  old : (k q : ℕ) → k < length s.graph.nodes → q ≤ done_at c.done k → IsThere (msg s.graph s.budget (c.journal ++ e ∷ []) k q)
  old k q l h =
      let t = sound.sent k q l h in
      (t.0, msg-prefix s.graph s.budget c.journal (e ∷ []) k q (there_within s.graph s.budget c.journal k q t) ∙ t.1)

  sends : (k q : ℕ) → k < length s.graph.nodes → q ≤ done_at after k → (t : Bool) → is_source s.graph.nodes k ≡ t
      → IsThere (msg s.graph s.budget (c.journal ++ e ∷ []) k q)
  sends k q l h true w =
      source_there s.graph s.budget (c.journal ++ e ∷ []) k q (ordered s.graph graph) l w
      (default-there s.graph s.budget (c.journal ++ e ∷ []) k (sound.defaults k l)) (omega (arith, more k w, sound.sources k w, longer))
  sends k q l h false w = old k q l (omega (arith, same k l w))

  done_within : (k : ℕ) → k < length s.graph.nodes → done_at c.done k ≤ length c.journal
  done_within k l = there_within s.graph s.budget c.journal k (done_at c.done k) (sound.sent k (done_at c.done k) l (omega arith))

  -- the changes so far are kept, and more may have come
  grown : (x : ℕ) → x < length s.graph.nodes
      → length (changes s.graph s.budget c.journal x (done_at c.done x)) ≤ length (changes s.graph s.budget (c.journal ++ e ∷ []) x (done_at after x))
  grown x l =
      let a : changes s.graph s.budget (c.journal ++ e ∷ []) x (done_at c.done x) ≡ changes s.graph s.budget c.journal x (done_at c.done x) =
      changes-prefix s.graph s.budget c.journal (e ∷ []) x (done_at c.done x) (done_within x l) in
      let b : length (changes s.graph s.budget (c.journal ++ e ∷ []) x (done_at c.done x)) ≤ length (changes s.graph s.budget (c.journal ++ e ∷ []) x (done_at after x)) =
      changes-grow s.graph s.budget (c.journal ++ e ∷ []) x (done_at c.done x) (done_at after x) (rise x) in
      omega (arith, ap length a)

  inner_within : (a x : ℕ) → inner s.graph.nodes a ≡ Some x → x < length s.graph.nodes
  inner_within a x h =
      let l : x < a = (ordered s.graph graph).inner_down a x h in
      let m : a < length s.graph.nodes = source_within s.graph.nodes a (async_is_source s.graph.nodes a x h).0 in
      omega arith

  entered_once : (a x : ℕ) → inner s.graph.nodes a ≡ Some x → (e.source ≡ a) ⊎ (e.source ≡ a → ⊥)
      → entered (c.journal ++ e ∷ []) a ≤ length (changes s.graph s.budget (c.journal ++ e ∷ []) x (done_at after x))
  entered_once a x h (inl q) =
      let f : entered (c.journal ++ e ∷ []) a ≡ entered c.journal a + entered (e ∷ []) a = entered-append c.journal (e ∷ []) a in
      let o : entered (e ∷ []) a ≡ 1 = ap (entered (e ∷ [])) (sym q) ∙ entered-own e.source e.value in
      let w : suc (entered c.journal a) ≤ length (changes s.graph s.budget c.journal x (done_at c.done x)) =
      subst (λ (y : ℕ). suc (entered c.journal y) ≤ length (changes s.graph s.budget c.journal x (done_at c.done x))) q (waited x (ap (inner s.graph.nodes) q ∙ h)) in
      omega (arith, grown x (inner_within a x h))
  entered_once a x h (inr q) =
      let f : entered (c.journal ++ e ∷ []) a ≡ entered c.journal a + entered (e ∷ []) a = entered-append c.journal (e ∷ []) a in
      let o : entered (e ∷ []) a ≡ 0 = entered-other e.source e.value a q in
      omega (arith, sound.entered a x h, grown x (inner_within a x h))

  turns : (k : ℕ) → HasTurn s c.done k → HasTurn s after k
  turns k t = record {
    node = t.node;
    no_source = t.no_source;
    fed = λ port a r. let f : done_at c.done k < done_at c.done a = t.fed port a r in omega (arith, same k t.node t.no_source, rise a);
    room = λ r port q. let f : done_at c.done k < done_at c.done r + s.capacity = t.room r port q in omega (arith, same k t.node t.no_source, rise r);
  }

  stops : (t : StopValue) → IsStop s c.journal c.done t → IsStop s (c.journal ++ e ∷ []) after t
  stops t h =
      let a = reads_some s.graph t.node graph h.node h.no_source in
      let l : t.position ≤ length c.journal = there_within s.graph s.budget c.journal a.0 t.position (h.arguments 0 a.0 a.1) in
      record {
        node = h.node;
        no_source = h.no_source;
        next = h.next ∙ ap suc (sym (same t.node h.node h.no_source));
        arguments = λ port k r. let m = h.arguments port k r in (m.0, msg-prefix s.graph s.budget c.journal (e ∷ []) k t.position l ∙ m.1);
        none = msg-prefix s.graph s.budget c.journal (e ∷ []) t.node t.position l ∙ h.none;
      }

  events : (p : ℕ) (d : Event) → slice_get (c.journal ++ e ∷ []) p ≡ Some d → (p < length c.journal) ⊎ (length c.journal ≤ p) → is_source s.graph.nodes d.source ≡ true
  events p d h (inl l) = sound.events p d (sym (slice_get-append_left c.journal (e ∷ []) p l) ∙ h)
  events p d h (inr l) =
      let m : p ≡ length c.journal = at_last c.journal e p d h l in
      let q : d ≡ e = same_Some d e (sym h ∙ (ap (slice_get (c.journal ++ e ∷ [])) m ∙ slice_get_last c.journal e)) in
      ap (λ (y : Event). is_source s.graph.nodes y.source) q ∙ source

  pub next_sound : IsSound s (with_next s c e)
  unfolding after
  next_sound = record {
    counts = length-counted s.graph.nodes 0 c.done ∙ sound.counts;
    flags = sound.flags;
    defaults = sound.defaults;
    within = let l : length c.journal < s.limit = place.below in omega (arith, longer);
    events = λ p d h. events p d h (cases_lt p (length c.journal));
    caused = caused-more s.graph s.budget c.journal e sound.caused cause;
    sources = λ k h. more k h ∙ (ap suc (sound.sources k h) ∙ sym longer);
    fed = λ k port a r. let f : done_at c.done k ≤ done_at c.done a = sound.fed k port a r in omega (arith, reader k port a r, rise a);
    room = λ k port a r. room k port a r (is_source s.graph.nodes a) refl;
    sent = λ k q l h. sends k q l h (is_source s.graph.nodes k) refl;
    entered = λ a x h. entered_once a x h (cases_eq e.source a);
    turns = λ k h. turns k (sound.turns k h);
    stops = λ t h. stops t (sound.stops t h);
  }
