-- What edges, waiting lists, outputs and kept values are after a move: lemmas over plain lists and positions.
use Rattle.std.proofs.Common.{◌≡◌, ℕ, suc, ◌+◌, ◌<◌, ◌≤◌, Bool, true, false, cond, eqb, Option, Some, None, List, [], ◌∷◌, ◌++◌, length, drop, sym, ap, ◌∙◌, arith}
use Rattle.std.specs.Option.{option_map_or, option_to_list}
use Rattle.std.proofs.lemmas.Grind.{common_steps}
use Rattle.std.proofs.lemmas.List.{drop-append-le, drop-drop}
use Rattle.felm_term.specs.declared.value.Value.{Value}
use Rattle.felm_term.specs.declared.message.Message.{Message}
use Rattle.felm_term.specs.declared.message.Message.TheVariants.{Change, NoChange}
use Rattle.felm_term.specs.declared.event.Event.{Event}
use Rattle.felm_graph.specs.GraphValue.{GraphValue}
use Rattle.felm_graph.specs.Nodes.{is_source}
use Rattle.felm_meaning.specs.Nodes.{inner}
use Rattle.felm_meaning.specs.Meaning.{source_message, msg, val, value_at, changes, changed_in, sends, edge, IsThere}
use Rattle.felm_meaning.specs.Journals.{entered}
use Rattle.felm_meaning.proofs.Graphs.{IsOrdered}
use Rattle.felm_meaning.proofs.Rows.{slice_get_last, msg-prefix, msg-source}
use Rattle.felm_meaning.proofs.Fronts.{sends-prefix, changes-prefix}
use Rattle.felm_meaning.proofs.Edges.{edge-holds}
use Rattle.felm_meaning.specs.PlanValue.{PlanValue}
use Rattle.felm_core.specs.Positions.{Position, done_at}
use Rattle.felm_core.specs.Contents.{waiting_at}

-- ---- waiting lists

pub waiting_is : (s : PlanValue) (c : Position) (a x : ℕ) → inner s.graph.nodes a ≡ Some x
    → waiting_at s c a ≡ drop (entered c.journal a) (changes s.graph s.budget c.journal x (done_at c.done x))
unfolding waiting_at
waiting_is s c a x h =
    ap (λ (o : Option ℕ). option_map_or (λ y. drop (entered c.journal a) (changes s.graph s.budget c.journal y (done_at c.done y))) o []) h

pub nothing_waits : (s : PlanValue) (c : Position) (a : ℕ) → inner s.graph.nodes a ≡ None → waiting_at s c a ≡ []
unfolding waiting_at
nothing_waits s c a h =
    ap (λ (o : Option ℕ). option_map_or (λ y. drop (entered c.journal a) (changes s.graph s.budget c.journal y (done_at c.done y))) o []) h

-- ---- the change in a source's message

pub changed_own : (k : ℕ) (e : Event) (old : Option Value) → e.source ≡ k → changed_in (source_message k e old) ≡ e.value ∷ []
changed_own k e old h =
    let t : eqb e.source k ≡ true = grind (arith, common_steps) in
    ap (λ (c : Bool). changed_in (cond c (Some (Change e.value)) (source_other old))) t
  where
    source_other : Option Value → Option Message
    source_other None = None
    source_other (Some v) = Some (NoChange v)

pub changed_other : (k : ℕ) (e : Event) (old : Option Value) → (e.source ≡ k → ⊥) → changed_in (source_message k e old) ≡ []
changed_other k e old h = go old (grind (arith, common_steps))
  where
    go : (o : Option Value) → eqb e.source k ≡ false → changed_in (source_message k e o) ≡ []
    go None t = ap (λ (c : Bool). changed_in (cond c (Some (Change e.value)) None)) t
    go (Some v) t = ap (λ (c : Bool). changed_in (cond c (Some (Change e.value)) (Some (NoChange v)))) t

module _ (g : GraphValue) (b : ℕ) (j : List Event) where
  -- ---- one more message

  pub sends-more : (k w : ℕ) (m : Message) → msg g b j k (suc w) ≡ Some m → sends g b j k (suc w) ≡ sends g b j k w ++ m ∷ []
  unfolding sends
  sends-more k w m h = ap (λ (o : Option Message). sends g b j k w ++ option_to_list o) h

  pub changes-one : (k w : ℕ) (m : Message) → msg g b j k (suc w) ≡ Some m → changes g b j k (suc w) ≡ changes g b j k w ++ changed_in (Some m)
  unfolding changes
  changes-one k w m h = ap (λ (o : Option Message). changes g b j k w ++ changed_in o) h

  pub length-sends : (k w : ℕ) → ((p : ℕ) → p ≤ w → IsThere (msg g b j k p)) → length (sends g b j k w) ≡ w
  length-sends k w h =
      let n : 0 + length (sends g b j k w) ≡ w = (edge-holds g b j k 0 w (omega arith) (λ p l. h (suc p) (omega arith))).0 in omega arith

  -- a message is put at the end of an edge
  pub edge-put : (k r w : ℕ) (m : Message) → ((p : ℕ) → p ≤ w → IsThere (msg g b j k p)) → r ≤ w → msg g b j k (suc w) ≡ Some m
      → edge g b j k r (suc w) ≡ edge g b j k r w ++ m ∷ []
  edge-put k r w m h l e = ap (drop r) (sends-more k w m e) ∙ drop-append-le r (sends g b j k w) (m ∷ []) (omega (arith, length-sends k w h))

  -- and the first one is taken
  pub edge-drop : (k r w : ℕ) → edge g b j k (suc r) w ≡ drop 1 (edge g b j k r w)
  edge-drop k r w =
      let e : r + 1 ≡ suc r = omega arith in sym (drop-drop 1 r (sends g b j k w) ∙ ap (λ (x : ℕ). drop x (sends g b j k w)) e)

  -- ---- a journal with one more event

  pub edge-prefix : (e : Event) (k r w : ℕ) → w ≤ length j → edge g b (j ++ e ∷ []) k r w ≡ edge g b j k r w
  edge-prefix e k r w h = ap (drop r) (sends-prefix g b j (e ∷ []) k w h)

  pub val-prefix : (e : Event) (k p : ℕ) → p ≤ length j → val g b (j ++ e ∷ []) k p ≡ val g b j k p
  unfolding val
  val-prefix e k p h = ap value_at (msg-prefix g b j (e ∷ []) k p h)

  -- a source's message at the new event
  pub new_message : (e : Event) (k : ℕ) → IsOrdered g.nodes → k < length g.nodes → is_source g.nodes k ≡ true
      → msg g b (j ++ e ∷ []) k (suc (length j)) ≡ source_message k e (val g b j k (length j))
  new_message e k ordered l s =
      msg-source g b (j ++ e ∷ []) k (length j) e ordered l s (slice_get_last j e) ∙
      ap (source_message k e) (val-prefix e k (length j) (omega arith))

  pub sends-new : (e : Event) (k : ℕ) (m : Message) → IsOrdered g.nodes → k < length g.nodes → is_source g.nodes k ≡ true
      → source_message k e (val g b j k (length j)) ≡ Some m
      → sends g b (j ++ e ∷ []) k (suc (length j)) ≡ sends g b j k (length j) ++ m ∷ []
  unfolding sends
  sends-new e k m ordered l s h =
      ap (λ (o : Option Message). sends g b (j ++ e ∷ []) k (length j) ++ option_to_list o) (new_message e k ordered l s ∙ h) ∙
      ap (λ (xs : List Message). xs ++ m ∷ []) (sends-prefix g b j (e ∷ []) k (length j) (omega arith))

  pub changes-new : (e : Event) (k : ℕ) → IsOrdered g.nodes → k < length g.nodes → is_source g.nodes k ≡ true
      → changes g b (j ++ e ∷ []) k (suc (length j)) ≡ changes g b j k (length j) ++ changed_in (source_message k e (val g b j k (length j)))
  unfolding changes
  changes-new e k ordered l s =
      ap (λ (o : Option Message). changes g b (j ++ e ∷ []) k (length j) ++ changed_in o) (new_message e k ordered l s) ∙
      ap (λ (xs : List Value). xs ++ changed_in (source_message k e (val g b j k (length j)))) (changes-prefix g b j (e ∷ []) k (length j) (omega arith))
