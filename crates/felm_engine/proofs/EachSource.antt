-- Loops over a list of sources: what holds of the first of them.
use Rattle.std.proofs.Common.{◌≡◌, ℕ, ◌+◌, ◌-◌, ◌<◌, ◌≤◌, ◌⊎◌, inl, inr, Bool, true, false, List, [], ◌∷◌, ◌++◌, Some, None, length, set, get_or, refl, sym, ap, ◌∙◌, subst, arith}
use Rattle.std.specs.Bool.{MatchBool}
use Rattle.std.specs.List.{slice_get, All}
use Rattle.std.specs.Option.{IsSome, option_and_then}
use Rattle.std.proofs.lemmas.Option.{same_Some, none-some, slice_get_within, slice_get-get_or, get_or_from_slice_get}
use Rattle.std.proofs.lemmas.Bool.{cases_eq, cases_lt}
use Rattle.std.proofs.lemmas.List.{length-set, get_or-set_same, get_or-set_other}
use Rattle.std.proofs.lemmas.List.Elements.{All-get_or, All-from_get_or}
use Rattle.felm_term.specs.declared.value.Value.{Value}
use Rattle.felm_term.specs.declared.message.Message.{Message}
use Rattle.felm_term.specs.declared.event.Event.{Event}
use Rattle.felm_graph.specs.declared.node.Node.{Node}
use Rattle.felm_graph.specs.declared.node.NodeKind.{NodeKind}
use Rattle.felm_graph.specs.declared.node.NodeKind.TheVariants as kind
use Rattle.felm_meaning.specs.Nodes.{inner, inner_of_kind}
use Rattle.felm_edges.specs.EdgesValue.{EdgesValue, IsWired, ReadsIn, edge_in, prepared_in, HasRoomIn}
use Rattle.felm_edges.specs.Changes.{PreparedFrom, PutFrom}
use Rattle.felm_core.specs.Positions.{done_at}
use Rattle.felm_core.specs.EngineLaws.{message_by}
use Rattle.felm_engine.specs.Queued.{QueueValue, queue_at, AreDistinct, IsIn, ReservedIn}
use Rattle.felm_engine.specs.Sources.{SameEdges, AreDue, PutAll, CountedAs, Grown, AreRoomy}

-- ---- the first n of some nodes

abbrev pub IsAmong : List ℕ → ℕ → ℕ → Type 0
IsAmong xs n k = (i : ℕ) × (i < n) × (slice_get xs i ≡ Some k)

pub among_none : (xs : List ℕ) (k : ℕ) → IsAmong xs 0 k → ⊥
among_none xs k w = let l : w.0 < 0 = w.1 in omega arith

pub among_kept : (xs : List ℕ) (n k : ℕ) → IsAmong xs n k → IsAmong xs (n + 1) k
among_kept xs n k w = let l : w.0 < n = w.1 in (w.0, omega arith, w.2)

pub among_last : (xs : List ℕ) (n k : ℕ) → slice_get xs n ≡ Some k → IsAmong xs (n + 1) k
among_last xs n k h = (n, omega arith, h)

pub among_more : (xs : List ℕ) (n k x : ℕ) → slice_get xs n ≡ Some k → IsAmong xs (n + 1) x → IsAmong xs n x ⊎ (x ≡ k)
among_more xs n k x h w = go (cases_lt w.0 n)
  where
    go : (w.0 < n) ⊎ (n ≤ w.0) → IsAmong xs n x ⊎ (x ≡ k)
    go (inl l) = inl (w.0, l, w.2)
    go (inr l) =
        let b : w.0 < n + 1 = w.1 in
        let e : w.0 ≡ n = omega arith in
        inr (same_Some x k (sym w.2 ∙ (ap (slice_get xs) e ∙ h)))

pub among_all : (xs : List ℕ) (k : ℕ) → IsIn xs k → IsAmong xs (length xs) k
among_all xs k w = (w.0, slice_get_within xs w.0 k w.1, w.1)

pub among_in : (xs : List ℕ) (n k : ℕ) → IsAmong xs n k → IsIn xs k
among_in xs n k w = (w.0, w.2)

pub among_not : (xs : List ℕ) (n k : ℕ) → AreDistinct xs → slice_get xs n ≡ Some k → IsAmong xs n k → ⊥
among_not xs n k distinct h w = let e : w.0 ≡ n = distinct w.0 n k w.2 h in let l : w.0 < n = w.1 in omega arith

-- what holds of all holds of each
pub all_at : (P : ℕ → Type 0) (xs : List ℕ) (i k : ℕ) → All P xs → slice_get xs i ≡ Some k → P k
all_at P xs i k h e =
    let l : i < length xs = slice_get_within xs i k e in
    subst P (get_or_from_slice_get xs i k 0 e) (All-get_or P xs i 0 l h)

-- and what holds of each holds of all
pub all_of : (P : ℕ → Type 0) (xs : List ℕ) → ((k : ℕ) → IsIn xs k → P k) → All P xs
all_of P xs f = All-from_get_or P xs 0 (λ i l. f (get_or xs i 0) (i, slice_get-get_or xs i 0 l))

-- what holds where a test is true, and what where it is false
pub match_weaker : {P Q P' Q' : Type 0} (b : Bool) → (P → P') → (Q → Q') → MatchBool b P Q → MatchBool b P' Q'
match_weaker true f g h = f h
match_weaker false f g h = g h

-- ---- inner signals

pub inner_there : (nodes : List Node) (k : ℕ) (node : Node) (x : ℕ) → slice_get nodes k ≡ Some node → node.kind ≡ kind.Async x → inner nodes k ≡ Some x
inner_there nodes k node x h e = ap (option_and_then (λ (n : Node). inner_of_kind n.kind)) h ∙ ap inner_of_kind e

pub inner_none : (nodes : List Node) (k : ℕ) (node : Node) → slice_get nodes k ≡ Some node → ((x : ℕ) → node.kind ≡ kind.Async x → ⊥) → inner nodes k ≡ None
inner_none nodes k node h n = ap (option_and_then (λ (m : Node). inner_of_kind m.kind)) h ∙ go node.kind refl
  where
    go : (w : NodeKind) → node.kind ≡ w → inner_of_kind w ≡ None
    go (kind.Input number) e = refl
    go (kind.Lift f arguments) e = refl
    go (kind.Foldp f base argument) e = refl
    go (kind.Async x) e = absurd (n x e)

-- ---- prepared messages

-- those of the first n of these nodes are prepared
pub record DueSoFar (xs : List ℕ) (n : ℕ) (e : Event) (kept : List Value) (old new : EdgesValue) : Type 0 where
  pub same : SameEdges old new
  pub due : (k : ℕ) (v : Value) → IsAmong xs n k → slice_get kept k ≡ Some v → prepared_in new k ≡ Some (message_by e k v)

pub due_none : (xs : List ℕ) (e : Event) (kept : List Value) (edges : EdgesValue) → DueSoFar xs 0 e kept edges edges
due_none xs e kept edges = record {
  same = record { wiring = refl; capacity = refl; lists = refl };
  due = λ k v w q. absurd (among_none xs k w);
}

pub same_prepared : (old mid new : EdgesValue) (k : ℕ) (o : _) → SameEdges old mid → PreparedFrom mid k o new → SameEdges old new
same_prepared old mid new k o s p = record {
  wiring = p.wiring ∙ s.wiring;
  capacity = p.capacity ∙ s.capacity;
  lists = p.lists ∙ s.lists;
}

pub due_more : (xs : List ℕ) (n : ℕ) (e : Event) (kept : List Value) (old mid new : EdgesValue) (k : ℕ) (v : Value) (m : Message)
    → DueSoFar xs n e kept old mid → slice_get xs n ≡ Some k → slice_get kept k ≡ Some v → m ≡ message_by e k v → PreparedFrom mid k (Some m) new
    → DueSoFar xs (n + 1) e kept old new
due_more xs n e kept old mid new k v m s h q is p = record {
  same = same_prepared old mid new k (Some m) s.same p;
  due = λ x u w r. due x u w r (cases_eq x k);
}
  where
    due : (x : ℕ) (u : Value) → IsAmong xs (n + 1) x → slice_get kept x ≡ Some u → (x ≡ k) ⊎ (x ≡ k → ⊥) → prepared_in new x ≡ Some (message_by e x u)
    due x u w r (inl c) =
        let same : u ≡ v = same_Some u v (sym r ∙ (ap (slice_get kept) c ∙ q)) in
        let t : message_by e x u ≡ message_by e k v = ap (λ (y : ℕ). message_by e y u) c ∙ ap (λ (y : Value). message_by e k y) same in
        ap (prepared_in new) c ∙ (p.prepared ∙ ap (λ (y : Message). Some y) (is ∙ sym t))
    due x u w r (inr c) = p.others x c ∙ s.due x u (elim (among_more xs n k x h w) [ inl y ↦ y | inr y ↦ absurd (c y) ]) r

pub due_all : (xs : List ℕ) (e : Event) (kept : List Value) (old new : EdgesValue) → DueSoFar xs (length xs) e kept old new → AreDue xs e kept new
due_all xs e kept old new s = λ k v w q. s.due k v (among_all xs k w) q

-- ---- messages that are put

pub record PutSoFar (xs : List ℕ) (n : ℕ) (old new : EdgesValue) : Type 0 where
  pub wiring : new.wiring ≡ old.wiring
  pub capacity : new.capacity ≡ old.capacity
  pub put : (k r port : ℕ) (m : Message) → IsAmong xs n k → ReadsIn old r port k → prepared_in old k ≡ Some m
      → edge_in new r port ≡ edge_in old r port ++ m ∷ []
  pub stays : (k r port : ℕ) → (IsAmong xs n k → ⊥) → ReadsIn old r port k → edge_in new r port ≡ edge_in old r port
  pub prepared : (k : ℕ) → (IsAmong xs n k → ⊥) → prepared_in new k ≡ prepared_in old k

pub put_none : (xs : List ℕ) (edges : EdgesValue) → PutSoFar xs 0 edges edges
put_none xs edges = record {
  wiring = refl;
  capacity = refl;
  put = λ k r port m w h q. absurd (among_none xs k w);
  stays = λ k r port w h. refl;
  prepared = λ k w. refl;
}

reads_along : (old new : EdgesValue) (r port k : ℕ) → new.wiring ≡ old.wiring → ReadsIn old r port k → ReadsIn new r port k
reads_along old new r port k e h = subst (λ (w : List (List ℕ)). IsWired w r port k) (sym e) h

reads_back : (old new : EdgesValue) (r port k : ℕ) → new.wiring ≡ old.wiring → ReadsIn new r port k → ReadsIn old r port k
reads_back old new r port k e h = subst (λ (w : List (List ℕ)). IsWired w r port k) e h

pub put_more : (xs : List ℕ) (n : ℕ) (old mid new : EdgesValue) (k : ℕ) → AreDistinct xs → slice_get xs n ≡ Some k → PutSoFar xs n old mid
    → PutFrom mid k new → PutSoFar xs (n + 1) old new
put_more xs n old mid new k distinct h s p = record {
  wiring = p.wiring ∙ s.wiring;
  capacity = p.capacity ∙ s.capacity;
  put = λ x r port m w q z. put x r port m q z (among_more xs n k x h w);
  stays = λ x r port w q.
      let ne : x ≡ k → ⊥ = λ e. w (subst (IsAmong xs (n + 1)) (sym e) (among_last xs n k h)) in
      p.stays r port x (reads_along old mid r port x s.wiring q) ne ∙ s.stays x r port (λ y. w (among_kept xs n x y)) q;
  prepared = λ x w.
      let ne : x ≡ k → ⊥ = λ e. w (subst (IsAmong xs (n + 1)) (sym e) (among_last xs n k h)) in
      p.others x ne ∙ s.prepared x (λ y. w (among_kept xs n x y));
}
  where
    fresh : IsAmong xs n k → ⊥
    fresh = among_not xs n k distinct h

    put : (x r port : ℕ) (m : Message) → ReadsIn old r port x → prepared_in old x ≡ Some m → IsAmong xs n x ⊎ (x ≡ k)
        → edge_in new r port ≡ edge_in old r port ++ m ∷ []
    put x r port m q z (inl w) =
        let ne : x ≡ k → ⊥ = λ e. fresh (subst (IsAmong xs n) e w) in
        p.stays r port x (reads_along old mid r port x s.wiring q) ne ∙ s.put x r port m w q z
    put x r port m q z (inr e) =
        let q' : ReadsIn old r port k = subst (λ (y : ℕ). ReadsIn old r port y) e q in
        let z' : prepared_in old k ≡ Some m = subst (λ (y : ℕ). prepared_in old y ≡ Some m) e z in
        p.put r port m (reads_along old mid r port k s.wiring q') (s.prepared k fresh ∙ z') ∙ ap (λ (ms : List Message). ms ++ m ∷ []) (s.stays k r port fresh q')

pub put_room : (xs : List ℕ) (n : ℕ) (old mid : EdgesValue) (k : ℕ) → AreDistinct xs → slice_get xs n ≡ Some k → All (HasRoomIn old) xs
    → PutSoFar xs n old mid → HasRoomIn mid k
put_room xs n old mid k distinct h room s = λ r port q.
    let q' : ReadsIn old r port k = reads_back old mid r port k s.wiring q in
    let l : length (edge_in old r port) < old.capacity = all_at (HasRoomIn old) xs n k room h r port q' in
    let e : edge_in mid r port ≡ edge_in old r port = s.stays k r port (among_not xs n k distinct h) q' in
    omega (arith, ap length e, s.capacity)

pub put_prepared : (xs : List ℕ) (n : ℕ) (old mid : EdgesValue) (k : ℕ) → AreDistinct xs → slice_get xs n ≡ Some k
    → All (λ x. IsSome (prepared_in old x)) xs → PutSoFar xs n old mid → IsSome (prepared_in mid k)
put_prepared xs n old mid k distinct h there s =
    subst IsSome (sym (s.prepared k (among_not xs n k distinct h))) (all_at (λ x. IsSome (prepared_in old x)) xs n k there h)

pub put_all : (xs : List ℕ) (old new : EdgesValue) → PutSoFar xs (length xs) old new → PutAll xs old new
put_all xs old new s = record {
  wiring = s.wiring;
  capacity = s.capacity;
  put = λ k r port m w q z. s.put k r port m (among_all xs k w) q z;
  stays = λ k r port w q. s.stays k r port (λ y. w (among_in xs (length xs) k y)) q;
}

-- ---- counts

pub record CountedSoFar (xs : List ℕ) (n count : ℕ) (old new : List ℕ) : Type 0 where
  pub lengths : length new ≡ length old
  pub counted : (k : ℕ) → IsAmong xs n k → done_at new k ≡ count
  pub stays : (k : ℕ) → (IsAmong xs n k → ⊥) → done_at new k ≡ done_at old k

pub counted_none : (xs : List ℕ) (count : ℕ) (done : List ℕ) → CountedSoFar xs 0 count done done
counted_none xs count done = record { lengths = refl; counted = λ k w. absurd (among_none xs k w); stays = λ k w. refl }

pub counted_more : (xs : List ℕ) (n count : ℕ) (old mid new : List ℕ) (k : ℕ) → CountedSoFar xs n count old mid → slice_get xs n ≡ Some k
    → k < length old → new ≡ set mid k count → CountedSoFar xs (n + 1) count old new
counted_more xs n count old mid new k s h l e = subst (CountedSoFar xs (n + 1) count old) (sym e) (record {
  lengths = length-set mid k count ∙ s.lengths;
  counted = λ x w. counted x w (cases_eq x k);
  stays = λ x w.
      let ne : x ≡ k → ⊥ = λ q. w (subst (IsAmong xs (n + 1)) (sym q) (among_last xs n k h)) in
      get_or-set_other mid k x count 0 ne ∙ s.stays x (λ y. w (among_kept xs n x y));
})
  where
    counted : (x : ℕ) → IsAmong xs (n + 1) x → (x ≡ k) ⊎ (x ≡ k → ⊥) → done_at (set mid k count) x ≡ count
    counted x w (inl q) = ap (done_at (set mid k count)) q ∙ get_or-set_same mid k count 0 (omega (arith, s.lengths))
    counted x w (inr q) = get_or-set_other mid k x count 0 q ∙ s.counted x (elim (among_more xs n k x h w) [ inl y ↦ y | inr y ↦ absurd (q y) ])

pub counted_all : (xs : List ℕ) (count : ℕ) (old new : List ℕ) → CountedSoFar xs (length xs) count old new → CountedAs xs count old new
counted_all xs count old new s = record {
  lengths = s.lengths;
  counted = λ k w. s.counted k (among_all xs k w);
  stays = λ k w. s.stays k (λ y. w (among_in xs (length xs) k y));
}

-- ---- room in queues

pub record RoomySoFar (nodes : List Node) (xs : List ℕ) (n : ℕ) (done : List ℕ) (events : ℕ) (old new : List QueueValue) : Type 0 where
  pub grown : Grown old new
  pub roomy : (a x : ℕ) → IsAmong xs n a → inner nodes a ≡ Some x → events - done_at done x < (queue_at new a).spare

pub roomy_none : (nodes : List Node) (xs done : List ℕ) (events : ℕ) (queues : List QueueValue) → RoomySoFar nodes xs 0 done events queues queues
roomy_none nodes xs done events queues = record {
  grown = record { lengths = refl; items = λ k. refl; spare = λ k. omega arith };
  roomy = λ a x w q. absurd (among_none xs a w);
}

grown_more : (old mid new : List QueueValue) (k : ℕ) → Grown old mid → ReservedIn k mid new → Grown old new
grown_more old mid new k g r = record {
  lengths = r.lengths ∙ g.lengths;
  items = λ x. items x (cases_eq x k);
  spare = λ x. spare x (cases_eq x k);
}
  where
    items : (x : ℕ) → (x ≡ k) ⊎ (x ≡ k → ⊥) → (queue_at new x).items ≡ (queue_at old x).items
    items x (inl e) = subst (λ (y : ℕ). (queue_at new y).items ≡ (queue_at mid y).items) (sym e) r.items ∙ g.items x
    items x (inr n) = ap (λ (q : QueueValue). q.items) (r.stays x n) ∙ g.items x

    spare : (x : ℕ) → (x ≡ k) ⊎ (x ≡ k → ⊥) → (queue_at old x).spare ≤ (queue_at new x).spare
    spare x (inl e) =
        let l : (queue_at mid x).spare ≤ (queue_at new x).spare = subst (λ (y : ℕ). (queue_at mid y).spare ≤ (queue_at new y).spare) (sym e) r.spare in
        omega (arith, g.spare x)
    spare x (inr n) = omega (arith, ap (λ (q : QueueValue). q.spare) (r.stays x n), g.spare x)

reserved_spare : (mid new : List QueueValue) (k x : ℕ) → ReservedIn k mid new → (queue_at mid x).spare ≤ (queue_at new x).spare
reserved_spare mid new k x r = go (cases_eq x k)
  where
    go : (x ≡ k) ⊎ (x ≡ k → ⊥) → (queue_at mid x).spare ≤ (queue_at new x).spare
    go (inl e) = subst (λ (y : ℕ). (queue_at mid y).spare ≤ (queue_at new y).spare) (sym e) r.spare
    go (inr n) = omega (arith, ap (λ (q : QueueValue). q.spare) (r.stays x n))

-- the next node is an async
pub roomy_more : (nodes : List Node) (xs : List ℕ) (n : ℕ) (done : List ℕ) (events : ℕ) (old mid new : List QueueValue) (k x : ℕ)
    → RoomySoFar nodes xs n done events old mid → slice_get xs n ≡ Some k → inner nodes k ≡ Some x → ReservedIn k mid new
    → events - done_at done x < (queue_at new k).spare → RoomySoFar nodes xs (n + 1) done events old new
roomy_more nodes xs n done events old mid new k x s h i r l = record {
  grown = grown_more old mid new k s.grown r;
  roomy = λ a y w q. roomy a y q (among_more xs n k a h w);
}
  where
    roomy : (a y : ℕ) → inner nodes a ≡ Some y → IsAmong xs n a ⊎ (a ≡ k) → events - done_at done y < (queue_at new a).spare
    roomy a y q (inl w) = let b : events - done_at done y < (queue_at mid a).spare = s.roomy a y w q in omega (arith, reserved_spare mid new k a r)
    roomy a y q (inr e) =
        let same : x ≡ y = same_Some x y (sym i ∙ (ap (inner nodes) (sym e) ∙ q)) in
        let P : ℕ → Type 0 = λ z. events - done_at done z < (queue_at new a).spare in
        subst P same (subst (λ (z : ℕ). events - done_at done x < (queue_at new z).spare) (sym e) l)

-- it is none
pub roomy_same : (nodes : List Node) (xs : List ℕ) (n : ℕ) (done : List ℕ) (events : ℕ) (old new : List QueueValue) (k : ℕ)
    → RoomySoFar nodes xs n done events old new → slice_get xs n ≡ Some k → inner nodes k ≡ None → RoomySoFar nodes xs (n + 1) done events old new
roomy_same nodes xs n done events old new k s h i = record {
  grown = s.grown;
  roomy = λ a y w q. roomy a y q (among_more xs n k a h w);
}
  where
    roomy : (a y : ℕ) → inner nodes a ≡ Some y → IsAmong xs n a ⊎ (a ≡ k) → events - done_at done y < (queue_at new a).spare
    roomy a y q (inl w) = s.roomy a y w q
    roomy a y q (inr e) = absurd (none-some y (sym i ∙ (ap (inner nodes) (sym e) ∙ q)))

pub roomy_all : (nodes : List Node) (xs done : List ℕ) (events : ℕ) (old new : List QueueValue)
    → RoomySoFar nodes xs (length xs) done events old new → AreRoomy nodes xs done events new
roomy_all nodes xs done events old new s = λ a x w q. s.roomy a x (among_all xs a w) q
