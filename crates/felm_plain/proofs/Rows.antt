-- What nodes send one after the other is the meaning's next row.
use Rattle.std.proofs.Common.{◌≡◌, ℕ, suc, zero, ◌+◌, ◌-◌, ◌<◌, ◌≤◌, Bool, true, false, cond, Option, Some, None, List, [], ◌∷◌, ◌++◌, length, map, drop, All, get_or, refl, sym, ap, ◌∙◌, subst, arith, add-one, append_assoc}
use Rattle.std.specs.List.{slice_get}
use Rattle.std.specs.Option.{option_map_or, option_and_then}
use Rattle.std.proofs.Math.ListN.{set}
use Rattle.std.proofs.Math.Seq.{drop-cons, set-append_seam}
use Rattle.std.proofs.lemmas.Option.{slice_get-get_or, get_or_from_slice_get, slice_get_read}
use Rattle.std.proofs.lemmas.Grind.{common_steps}
use Rattle.std.proofs.lemmas.List.{get_or-map, length-map, length-append, length-drop, append-nil, get_or_append_left, get_or-append_right, get_or_push, map-set, drop-map, drop_at}
use Rattle.felm_term.specs.Values.{value_of}
use Rattle.felm_term.specs.declared.value.Value.{Value}
use Rattle.felm_term.specs.declared.value.Value.TheVariants as value
use Rattle.felm_term.specs.declared.message.Message.{Message}
use Rattle.felm_term.specs.declared.message.Message.TheVariants.{Change, NoChange}
use Rattle.felm_term.specs.declared.event.Event.{Event}
use Rattle.felm_graph.specs.declared.node.Node.{Node}
use Rattle.felm_graph.specs.declared.node.NodeKind.{NodeKind}
use Rattle.felm_graph.specs.declared.node.NodeKind.TheVariants as kind
use Rattle.felm_graph.specs.GraphValue.{GraphValue}
use Rattle.felm_graph.specs.Graphs.{IsGraph}
use Rattle.felm_graph.specs.Nodes.{is_source_kind, is_source, arguments_of_kind, arguments_of}
use Rattle.felm_meaning.specs.declared.job.Job.{Job}
use Rattle.felm_meaning.specs.declared.job.Job.TheVariants as job
use Rattle.felm_meaning.specs.Nodes.{job_of_kind, job_of, inner_of_kind}
use Rattle.felm_meaning.specs.Step.{lift_step, foldp_step, step}
use Rattle.felm_meaning.specs.Meaning.{all_of, at, value_at, source_message, turn_message, message_of, row_to, row, msg, val}
use Rattle.felm_meaning.specs.Journals.{IsLeastNone}
use Rattle.felm_meaning.specs.Types.{EventsFit, TurnFits, CallFits, IsCallable}
use Rattle.felm_meaning.specs.Values.{message_at, messages_at}
use Rattle.felm_meaning.proofs.Graphs.{IsOrdered, ordered}
use Rattle.felm_meaning.proofs.Rows.{item_within, map_same, slice_get_last, length-row, length-row_to, row_to-upto, row-event, row-prefix}
use Rattle.felm_meaning.proofs.Fitting.{turn_fits}
use Rattle.felm_plain.specs.Rows.{row_of, kept_at, MayStep, Precedes}

-- ---- messages that are there

pub row-message : (ms : List Message) (k : ℕ) → k < length ms → at (row_of ms) k ≡ Some (message_at ms k)
row-message ms k h = get_or-map (λ m. Some m) ms k (NoChange value.Unit) None h

row-kept : (ms : List Message) (k : ℕ) → k < length ms → value_at (at (row_of ms) k) ≡ Some (kept_at ms k)
row-kept ms k h = ap value_at (row-message ms k h)

all-messages : (ms : List Message) (places : List ℕ) → All (λ a. a < length ms) places → all_of (map (at (row_of ms)) places) ≡ Some (messages_at ms places)
all-messages ms [] h = refl
all-messages ms (a ∷ places) h =
    let l : a < length ms = h 0 0 (omega arith) in
    let e : at (row_of ms) a ≡ Some (message_at ms a) = row-message ms a l in
    let ih : all_of (map (at (row_of ms)) places) ≡ Some (messages_at ms places) = all-messages ms places (λ k d n. h (suc k) d (omega arith)) in
    rw (e, ih) refl

-- messages that make one row are the same
same_messages : (ms ns : List Message) → row_of ms ≡ row_of ns → ms ≡ ns
same_messages [] [] h = refl
same_messages [] (n ∷ ns) h = cc
same_messages (m ∷ ms) [] h = cc
same_messages (m ∷ ms) (n ∷ ns) h = cc (same_messages ms ns (cc))

drop_all : {X : Type 0} (xs : List X) (n : ℕ) → length xs ≤ n → drop n xs ≡ []
drop_all [] zero h = refl
drop_all [] (suc n) h = refl
drop_all (x ∷ xs) zero h = absurd (omega arith)
drop_all (x ∷ xs) (suc n) h = drop_all xs n (omega arith)

-- a message that was put in its place
pub sent : (old new : List Message) (k : ℕ) (m : Message) → new ≡ set old k m → row_of new ≡ set (row_of old) k (Some m)
sent old new k m h = ap row_of h ∙ map-set (λ x. Some x) old k m

-- a message that was read
pub read_message : (ms : List Message) (k : ℕ) (m : Message) → k < length ms → m ≡ get_or ms k m → message_at ms k ≡ m
read_message ms k m l e = get_or_from_slice_get ms k m (NoChange value.Unit) (slice_get_read ms (length ms) k m refl l e)

-- what a source sends
pub own_message : (k : ℕ) (e : Event) (v : Value) → e.source ≡ k → Some (Change e.value) ≡ source_message k e (Some v)
own_message k e v s = grind (arith, common_steps)

pub other_message : (k : ℕ) (e : Event) (v : Value) → (e.source ≡ k → ⊥) → Some (NoChange v) ≡ source_message k e (Some v)
other_message k e v s = grind (arith, common_steps)

-- what a node reads has smaller numbers
pub reads_below : (nodes : List Node) (k z : ℕ) (n : Node) → IsOrdered nodes → slice_get nodes k ≡ Some n → k ≤ z → All (λ a. a < z) (arguments_of_kind n.kind)
reads_below nodes k z n ok h l = λ i d w.
    let e : slice_get (arguments_of_kind n.kind) i ≡ Some (get_or (arguments_of_kind n.kind) i d) = slice_get-get_or (arguments_of_kind n.kind) i d w in
    let r : slice_get (arguments_of nodes k) i ≡ Some (get_or (arguments_of_kind n.kind) i d) =
    ap (λ (o : Option Node). slice_get (option_map_or (λ m. arguments_of_kind m.kind) o []) i) h ∙ e in
    let b : get_or (arguments_of_kind n.kind) i d < k = ok.down k i (get_or (arguments_of_kind n.kind) i d) r in
    omega arith

-- a node that was read
pub node_read : (g : GraphValue) (nodes : List Node) (k : ℕ) (n : Node) → nodes ≡ g.nodes → k < length g.nodes → slice_get g.nodes k ≡ Some (get_or nodes k n)
node_read g nodes k n e l =
    let w : k < length nodes = omega (arith, ap length e) in
    subst (λ (ns : List Node). slice_get ns k ≡ Some (get_or nodes k n)) e (slice_get-get_or nodes k n w)

pub arguments_within : (g : GraphValue) (k z : ℕ) (n : Node) (kd : NodeKind) → IsGraph g → slice_get g.nodes k ≡ Some n → n.kind ≡ kd → k ≤ z
    → All (λ a. a < z) (arguments_of_kind kd)
arguments_within g k z n kd graph h q l =
    subst (λ (x : NodeKind). All (λ a. a < z) (arguments_of_kind x)) q (reads_below g.nodes k z n (ordered g graph) h l)

-- an inner signal has a smaller number
pub inner_within : (g : GraphValue) (k z : ℕ) (n : Node) → IsGraph g → slice_get g.nodes k ≡ Some n → k ≤ z → (x : ℕ) → inner_of_kind n.kind ≡ Some x → x < z
inner_within g k z n graph h l x q =
    let b : x < k = (ordered g graph).inner_down k x (ap (λ (o : Option Node). option_and_then (λ m. inner_of_kind m.kind) o) h ∙ q) in omega arith

-- ---- one node

module _ (g : GraphValue) (b : ℕ) (ms : List Message) (e : Event) (k : ℕ) (n : Node) (node : slice_get g.nodes k ≡ Some n) (within : k < length ms) where
  pub source_sends : is_source_kind n.kind ≡ true → source_message k e (Some (kept_at ms k)) ≡ message_of g b (row_of ms) e (row_of ms) k
  unfolding message_of
  source_sends s =
      sym (ap (λ (t : Bool). cond t (source_message k e (value_at (at (row_of ms) k)))
      (turn_message (job_of g.nodes k) b (value_at (at (row_of ms) k)) (all_of (map (at (row_of ms)) (arguments_of g.nodes k)))))
      (ap (λ (o : Option Node). option_map_or (λ m. is_source_kind m.kind) o false) node ∙ s) ∙
      ap (source_message k e) (row-kept ms k within))

  turn_sends : (w : Job) → is_source_kind n.kind ≡ false → job_of_kind n.kind ≡ Some w → All (λ a. a < length ms) (arguments_of_kind n.kind)
      → step w (kept_at ms k) (messages_at ms (arguments_of_kind n.kind)) b ≡ message_of g b (row_of ms) e (row_of ms) k
  unfolding message_of
  turn_sends w s j h =
      sym (ap (λ (o : Option Node). cond (option_map_or (λ m. is_source_kind m.kind) o false) (source_message k e (value_at (at (row_of ms) k)))
      (turn_message (option_and_then (λ m. job_of_kind m.kind) o) b (value_at (at (row_of ms) k))
      (all_of (map (at (row_of ms)) (option_map_or (λ m. arguments_of_kind m.kind) o []))))) node ∙
      (ap (λ (t : Bool). cond t (source_message k e (value_at (at (row_of ms) k)))
      (turn_message (job_of_kind n.kind) b (value_at (at (row_of ms) k)) (all_of (map (at (row_of ms)) (arguments_of_kind n.kind))))) s ∙
      (ap (λ (o : Option Job). turn_message o b (value_at (at (row_of ms) k)) (all_of (map (at (row_of ms)) (arguments_of_kind n.kind)))) j ∙
      (ap (λ (o : Option Value). turn_message (Some w) b o (all_of (map (at (row_of ms)) (arguments_of_kind n.kind)))) (row-kept ms k within) ∙
      ap (λ (o : Option (List Message)). turn_message (Some w) b (Some (kept_at ms k)) o) (all-messages ms (arguments_of_kind n.kind) h)))))

  pub lift_sends : (f : Value) (arguments : List ℕ) → n.kind ≡ kind.Lift f arguments → All (λ a. a < length ms) arguments
      → lift_step f (kept_at ms k) (messages_at ms arguments) b ≡ message_of g b (row_of ms) e (row_of ms) k
  unfolding step
  lift_sends f arguments q h =
      ap (λ (kd : NodeKind). step (job.Lift f) (kept_at ms k) (messages_at ms (arguments_of_kind kd)) b) (sym q) ∙
      turn_sends (job.Lift f) (ap is_source_kind q) (ap job_of_kind q) (subst (λ (kd : NodeKind). All (λ a. a < length ms) (arguments_of_kind kd)) (sym q) h)

  pub foldp_sends : (f base : Value) (argument : ℕ) → n.kind ≡ kind.Foldp f base argument → All (λ a. a < length ms) (argument ∷ [])
      → foldp_step f (kept_at ms k) (messages_at ms (argument ∷ [])) b ≡ message_of g b (row_of ms) e (row_of ms) k
  unfolding step
  foldp_sends f base argument q h =
      ap (λ (kd : NodeKind). step (job.Foldp f) (kept_at ms k) (messages_at ms (arguments_of_kind kd)) b) (sym q) ∙
      turn_sends (job.Foldp f) (ap is_source_kind q) (ap job_of_kind q) (subst (λ (kd : NodeKind). All (λ a. a < length ms) (arguments_of_kind kd)) (sym q) h)

  -- ---- its call

  turn_may : (w : Job) → job_of_kind n.kind ≡ Some w → All (λ a. a < length ms) (arguments_of_kind n.kind) → MayStep g.nodes k ms
      → TurnFits w (kept_at ms k) (messages_at ms (arguments_of_kind n.kind))
  turn_may w j h may =
      may w (messages_at ms (arguments_of_kind n.kind)) (ap (λ (o : Option Node). option_and_then (λ m. job_of_kind m.kind) o) node ∙ j)
      (ap (λ (o : Option Node). all_of (map (at (row_of ms)) (option_map_or (λ m. arguments_of_kind m.kind) o []))) node ∙
      all-messages ms (arguments_of_kind n.kind) h)

  pub lift_callable : (f : Value) (arguments : List ℕ) → n.kind ≡ kind.Lift f arguments → All (λ a. a < length ms) arguments → MayStep g.nodes k ms
      → IsCallable f (map value_of (messages_at ms arguments))
  lift_callable f arguments q h may =
      let t = turn_may (job.Lift f) (ap job_of_kind q) (subst (λ (kd : NodeKind). All (λ a. a < length ms) (arguments_of_kind kd)) (sym q) h) may in
      subst (λ (kd : NodeKind). IsCallable f (map value_of (messages_at ms (arguments_of_kind kd)))) q (t.type, t.simple, t.called)

  pub foldp_callable : (f base : Value) (argument : ℕ) → n.kind ≡ kind.Foldp f base argument → All (λ a. a < length ms) (argument ∷ [])
      → MayStep g.nodes k ms → IsCallable f (kept_at ms argument ∷ kept_at ms k ∷ [])
  foldp_callable f base argument q h may =
      let t = turn_may (job.Foldp f) (ap job_of_kind q) (subst (λ (kd : NodeKind). All (λ a. a < length ms) (arguments_of_kind kd)) (sym q) h) may in
      let one : message_at ms argument ∷ [] ≡ t.called.0 ∷ [] =
      sym (ap (λ (kd : NodeKind). messages_at ms (arguments_of_kind kd)) q) ∙ t.called.1 in
      let same : t.called.0 ≡ message_at ms argument = cc one in
      (t.type, t.simple, subst (λ (m : Message). CallFits f (value_of m ∷ kept_at ms k ∷ []) t.type) same t.called.2)

-- ---- all nodes

-- the row after one more event
pub next_row-is : (g : GraphValue) (b : ℕ) (j : List Event) (e : Event)
    → row g b (j ++ e ∷ []) (suc (length j)) ≡ row_to g b (row g b j (length j)) e (length g.nodes)
next_row-is g b j e =
    row-event g b (j ++ e ∷ []) (length j) e (slice_get_last j e) ∙
    ap (λ (r : List (Option Message)). row_to g b r e (length g.nodes)) (row-prefix g b j (e ∷ []) (length j) (omega arith))

-- at node i of an event: the nodes before it have sent their messages, the others have those of the row before
pub record IsPart (g : GraphValue) (b : ℕ) (old : List (Option Message)) (e : Event) (i : ℕ) (ms : List Message) : Type 0 where
  pub graph : IsGraph g
  pub within : i < length g.nodes
  pub lengths : length ms ≡ length g.nodes
  pub olds : length old ≡ length g.nodes
  pub row : row_of ms ≡ row_to g b old e i ++ drop i old

-- as the loop comes to it
module _ {g : GraphValue} {b : ℕ} {first : List Message} {e : Event} (i : ℕ) (ms : List Message) (graph : IsGraph g) (before : Precedes g b first e)
    (invariant : row_of ms ≡ row_to g b (row_of first) e i ++ drop i (row_of first)) where
  first_length : length (row_of first) ≡ length g.nodes
  first_length = ap length before.row ∙ length-row g b before.journal (length before.journal) (omega arith)

  pub part_length : i ≤ length g.nodes → length ms ≡ length g.nodes
  part_length h =
      let a : length (row_of ms) ≡ length ms = length-map ms (λ m. Some m) in
      let c : length (row_of ms) ≡ length (row_to g b (row_of first) e i ++ drop i (row_of first)) = ap length invariant in
      let d : length (row_to g b (row_of first) e i ++ drop i (row_of first)) ≡ length (row_to g b (row_of first) e i) + length (drop i (row_of first)) =
      length-append (row_to g b (row_of first) e i) (drop i (row_of first)) in
      omega (arith, first_length, length-row_to g b (row_of first) e i, length-drop i (row_of first))

  pub part_here : i < length g.nodes → IsPart g b (row_of first) e i ms
  part_here h = record { graph = graph; within = h; lengths = part_length (omega arith); olds = first_length; row = invariant }

  -- after the last node
  pub part_whole : length g.nodes ≤ i → i ≤ length g.nodes → row_of ms ≡ row_to g b (row_of first) e (length g.nodes)
  part_whole h l =
      let s : i ≡ length g.nodes = omega arith in
      let z : drop i (row_of first) ≡ [] = drop_all (row_of first) i (omega (arith, first_length)) in
      invariant ∙ (ap (λ (r : List (Option Message)). row_to g b (row_of first) e i ++ r) z ∙
      (append-nil (row_to g b (row_of first) e i) ∙ ap (row_to g b (row_of first) e) s))

module _ {g : GraphValue} {b : ℕ} {old : List (Option Message)} {e : Event} {i : ℕ} {ms : List Message} (p : IsPart g b old e i ms) where
  part_within : i < length ms
  part_within = omega (arith, p.within, p.lengths)

  part_old : at (row_of ms) i ≡ at old i
  part_old =
      let w : i < length old = omega (arith, p.within, p.olds) in
      let n : i ≤ i = omega arith in
      let a : at (row_to g b old e i ++ drop i old) i ≡ at (drop i old) (i - i) =
      get_or-append_right (row_to g b old e i) (drop i old) i i None (length-row_to g b old e i) n in
      let z : i - i ≡ 0 = omega arith in
      let d : drop i old ≡ at old i ∷ drop (suc i) old = drop-cons old i None w in
      ap (λ (r : List (Option Message)). at r i) p.row ∙
      (a ∙ (ap (λ (x : ℕ). at (drop i old) x) z ∙ ap (λ (r : List (Option Message)). at r 0) d))

  -- what the row has before node i
  part_front : (a : ℕ) → a < i → at (row_of ms) a ≡ at (row_to g b old e i) a
  part_front a l =
      ap (λ (r : List (Option Message)). at r a) p.row ∙
      get_or_append_left (row_to g b old e i) (drop i old) None a (omega (arith, length-row_to g b old e i))

  pub part_message : message_of g b (row_of ms) e (row_of ms) i ≡ message_of g b old e (row_to g b old e i) i
  unfolding message_of
  part_message =
      let f : map (at (row_of ms)) (arguments_of g.nodes i) ≡ map (at (row_to g b old e i)) (arguments_of g.nodes i) =
      map_same (at (row_of ms)) (at (row_to g b old e i)) (arguments_of g.nodes i) (λ port a q. part_front a ((ordered g p.graph).down i port a q)) in
      ap (λ (m : Option Message). cond (is_source g.nodes i) (source_message i e (value_at m))
      (turn_message (job_of g.nodes i) b (value_at m) (all_of (map (at (row_of ms)) (arguments_of g.nodes i))))) part_old ∙
      ap (λ (os : List (Option Message)). cond (is_source g.nodes i) (source_message i e (value_at (at old i)))
      (turn_message (job_of g.nodes i) b (value_at (at old i)) (all_of os))) f

  -- one more node
  pub part_more : (new : List Message) → row_of new ≡ set (row_of ms) i (message_of g b (row_of ms) e (row_of ms) i)
      → row_of new ≡ row_to g b old e (i + 1) ++ drop (i + 1) old
  unfolding row_to
  part_more new h =
      let w : i < length old = omega (arith, p.within, p.olds) in
      let d : drop i old ≡ at old i ∷ drop (suc i) old = drop-cons old i None w in
      let l : length (row_to g b old e i) ≡ i = length-row_to g b old e i in
      let m : Option Message = message_of g b old e (row_to g b old e i) i in
      let q : row_of ms ≡ row_to g b old e i ++ at old i ∷ drop (suc i) old =
      p.row ∙ ap (λ (r : List (Option Message)). row_to g b old e i ++ r) d in
      let u : set (row_of ms) i m ≡ row_to g b old e i ++ m ∷ drop (suc i) old =
      ap (λ (r : List (Option Message)). set r i m) q ∙
      (ap (λ (x : ℕ). set (row_to g b old e i ++ at old i ∷ drop (suc i) old) x m) (sym l) ∙
      set-append_seam (row_to g b old e i) (at old i) (drop (suc i) old) m) in
      let t : row_to g b old e i ++ m ∷ drop (suc i) old ≡ (row_to g b old e i ++ m ∷ []) ++ drop (suc i) old =
      sym (append_assoc (row_to g b old e i) (m ∷ []) (drop (suc i) old)) in
      rw add-one (h ∙ (ap (λ (o : Option Message). set (row_of ms) i o) part_message ∙ (u ∙ t)))

  part_last : at (row_to g b old e (suc i)) i ≡ message_of g b old e (row_to g b old e i) i
  unfolding row_to
  part_last = get_or_push (row_to g b old e i) (message_of g b old e (row_to g b old e i) i) None i (length-row_to g b old e i)

  -- the nodes from i on have what they had
  pub part_rest : (first : List Message) → old ≡ row_of first → drop i ms ≡ drop i first
  part_rest first h =
      let rows : drop i (row_of ms) ≡ drop i (row_of first) =
      ap (drop i) p.row ∙ (drop_at (row_to g b old e i) (drop i old) i (length-row_to g b old e i) ∙ ap (drop i) h) in
      same_messages (drop i ms) (drop i first) (sym (drop-map (λ m. Some m) i ms) ∙ (rows ∙ drop-map (λ m. Some m) i first))

  -- the least node without a message
  pub part_ends : message_of g b (row_of ms) e (row_of ms) i ≡ None → IsLeastNone g (row_to g b old e (length g.nodes)) i
  part_ends h = (
    p.within,
    row_to-upto g b old e (length g.nodes) i p.within ∙ (part_last ∙ (sym part_message ∙ h)),
    λ a l.
        let w : a < length ms = omega (arith, part_within) in
        let v : a < length g.nodes = omega (arith, p.within) in
        (message_at ms a, row_to-upto g b old e (length g.nodes) a v ∙ (sym (row_to-upto g b old e i a l) ∙ (sym (part_front a l) ∙ row-message ms a w))),
  )

  -- its turn is one of the meaning
  pub part_may : (j : List Event) → old ≡ row g b j (length j) → EventsFit g (j ++ e ∷ []) → MayStep g.nodes i ms
  unfolding val msg
  part_may j r fit = λ w mss here all.
      let n = item_within g.nodes i p.within in
      let next : row g b (j ++ e ∷ []) (suc (length j)) ≡ row_to g b old e (length g.nodes) =
      next_row-is g b j e ∙ ap (λ (x : List (Option Message)). row_to g b x e (length g.nodes)) (sym r) in
      let kept : val g b (j ++ e ∷ []) i (length j) ≡ Some (kept_at ms i) =
      ap (λ (x : List (Option Message)). value_at (at x i)) (row-prefix g b j (e ∷ []) (length j) (omega arith) ∙ sym r) ∙
      (ap value_at (sym part_old) ∙ row-kept ms i part_within) in
      turn_fits g b (j ++ e ∷ []) p.graph fit i (length j) n.0 w (kept_at ms i) mss n.1 here kept
      (ap all_of (map_same (λ a. msg g b (j ++ e ∷ []) a (suc (length j))) (at (row_of ms)) (arguments_of g.nodes i)
      (λ port a q.
      let l : a < i = (ordered g p.graph).down i port a q in
      let v : a < length g.nodes = omega (arith, p.within) in
      ap (λ (x : List (Option Message)). at x a) next ∙
      (row_to-upto g b old e (length g.nodes) a v ∙ (sym (row_to-upto g b old e i a l) ∙ sym (part_front a l))))) ∙ all)
