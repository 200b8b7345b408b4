-- What the edges of an engine tell of its position.
use Rattle.std.proofs.Common.{◌≡◌, ℕ, suc, zero, ◌<◌, Option, Some, None, List, [], ◌∷◌, length, map, get_or, refl, sym, ap, ◌∙◌, subst, arith}
use Rattle.std.specs.List.{slice_get}
use Rattle.std.specs.Option.{option_map, option_and_then}
use Rattle.std.proofs.lemmas.Option.{none-some, same_Some, slice_get_within, slice_get-get_or}
use Rattle.felm_term.specs.declared.message.Message.{Message}
use Rattle.felm_graph.specs.Graphs.{IsGraph}
use Rattle.felm_graph.specs.Nodes.{arguments_of}
use Rattle.felm_meaning.specs.PlanValue.{PlanValue}
use Rattle.felm_meaning.specs.Meaning.{all_of}
use Rattle.felm_core.specs.Positions.{Position, done_at, Reads, HasRoom, IsSound}
use Rattle.felm_core.specs.Contents.{edge_at}
use Rattle.felm_core.specs.Holds.{Parts, Holds}
use Rattle.felm_core.specs.Laws.{heads_at}
use Rattle.felm_core.proofs.Holds.{fed_by_edges, room_by_edges}
use Rattle.felm_edges.specs.EdgesValue.{EdgesValue, wiring_of, IsWired, ReadsIn, read_in, edge_in, HasRoomIn, IsFedIn}
use Rattle.felm_edges.proofs.Wiring.{wired_reads, reads_wired, wired_row}
use Rattle.felm_engine.specs.Heads.{AreHeads}

-- ---- lists of parts that may be none

pub all_of-from : {X : Type 0} (f : ℕ → Option X) (args : List ℕ) (ms : List X) → length ms ≡ length args
    → ((port a : ℕ) → slice_get args port ≡ Some a → slice_get ms port ≡ f a) → all_of (map f args) ≡ Some ms
all_of-from f [] [] n h = refl
all_of-from f [] (m ∷ ms) n h = absurd (omega arith)
all_of-from f (a ∷ args) [] n h = absurd (omega arith)
all_of-from f (a ∷ args) (m ∷ ms) n h =
    let l : length ms ≡ length args = omega arith in
    let ih = all_of-from f args ms l (λ port b e. h (suc port) b e) in
    let here : f a ≡ Some m = sym (h 0 a refl) in
    rw (here, ih) refl

-- each of them is there, at its place
abbrev pub AreThere : {X : Type 0} (f : ℕ → Option X) → List ℕ → List X → Type 0
AreThere f args ms = (length ms ≡ length args) × ((port a : ℕ) → slice_get args port ≡ Some a → slice_get ms port ≡ f a)

there_more : {X : Type 0} (f : ℕ → Option X) (a : ℕ) (args : List ℕ) (m : X) (rest : List X) → f a ≡ Some m → AreThere f args rest
    → AreThere f (a ∷ args) (m ∷ rest)
there_more {X = X} f a args m rest e ih = (ap suc ih.0, ports)
  where
    ports : (port b : ℕ) → slice_get (a ∷ args) port ≡ Some b → slice_get (m ∷ rest) port ≡ f b
    ports zero b p = sym e ∙ ap f (same_Some a b p)
    ports (suc port) b p = ih.1 port b p

pub all_of-to : {X : Type 0} (f : ℕ → Option X) (args : List ℕ) (ms : List X) → all_of (map f args) ≡ Some ms → AreThere f args ms
all_of-to f [] ms h = (ap length (sym (same_Some [] ms h)), λ port a e. absurd (none-some a e))
all_of-to {X = X} f (a ∷ args) ms h = go (f a) refl (all_of (map f args)) refl h (all_of-to f args)
  where
    go : (o : Option X) → f a ≡ o → (r : Option (List X)) → all_of (map f args) ≡ r
        → option_and_then (λ first. option_map (λ rest. first ∷ rest) r) o ≡ Some ms
        → ((rest : List X) → all_of (map f args) ≡ Some rest → AreThere f args rest) → AreThere f (a ∷ args) ms
    go None e r q h ih = absurd (none-some ms h)
    go (Some m) e None q h ih = absurd (none-some ms h)
    go (Some m) e (Some rest) q h ih =
        subst (λ (xs : List X). AreThere f (a ∷ args) xs) (same_Some (m ∷ rest) ms h) (there_more f a args m rest e (ih rest q))

-- ---- edges

-- an edge that is fed has a first message
pub first_of : (ms : List Message) → 0 < length ms → (m : Message) × (slice_get ms 0 ≡ Some m)
first_of [] l = absurd (omega arith)
first_of (m ∷ ms) l = (m, refl)

pub fed_at : (edges : EdgesValue) (k port : ℕ) → IsFedIn edges k → port < length (read_in edges k) → 0 < length (edge_in edges k port)
fed_at edges k port fed l = fed port (get_or (read_in edges k) port 0) (slice_get-get_or (read_in edges k) port 0 l)

module _ (plan : PlanValue) (c : Position) (edges : EdgesValue) (parts : Parts) (graph : IsGraph plan.graph) (sound : IsSound plan c)
    (wiring : edges.wiring ≡ wiring_of plan.graph.nodes) (capacity : edges.capacity ≡ plan.capacity) (holds : Holds plan c (edge_in edges) parts) where
  pub reads : (r port k : ℕ) → ReadsIn edges r port k → Reads plan.graph.nodes r port k
  reads r port k h = wired_reads plan.graph.nodes r port k (subst (λ (w : List (List ℕ)). IsWired w r port k) wiring h)

  pub wired : (r port k : ℕ) → Reads plan.graph.nodes r port k → ReadsIn edges r port k
  wired r port k h = subst (λ (w : List (List ℕ)). IsWired w r port k) (sym wiring) (reads_wired plan.graph.nodes r port k h)

  pub ports_are : (k : ℕ) → read_in edges k ≡ arguments_of plan.graph.nodes k
  ports_are k = ap (λ (w : List (List ℕ)). get_or w k []) wiring ∙ wired_row plan.graph.nodes k

  pub fed_in : (k : ℕ) → IsFedIn edges k → (port a : ℕ) → Reads plan.graph.nodes k port a → done_at c.done k < done_at c.done a
  fed_in k fed = (fed_by_edges plan c graph sound k).1
      (λ port a h. subst (λ (ms : List Message). 0 < length ms) (holds.edges_are k port a h) (fed port a (wired k port a h)))

  pub in_fed : (k : ℕ) → ((port a : ℕ) → Reads plan.graph.nodes k port a → done_at c.done k < done_at c.done a) → IsFedIn edges k
  in_fed k turn port a h =
      let r : Reads plan.graph.nodes k port a = reads k port a h in
      subst (λ (ms : List Message). 0 < length ms) (sym (holds.edges_are k port a r)) ((fed_by_edges plan c graph sound k).0 turn port a r)

  pub room_in : (k : ℕ) → HasRoomIn edges k → HasRoom plan c.done k
  room_in k room = (room_by_edges plan c graph sound k).1
      (λ r port h.
      let l : length (edge_in edges r port) < edges.capacity = room r port (wired r port k h) in
      let e : length (edge_in edges r port) ≡ length (edge_at plan c k r) = ap length (holds.edges_are r port k h) in
      omega (arith, l, e, capacity))

  pub in_room : (k : ℕ) → HasRoom plan c.done k → HasRoomIn edges k
  in_room k room r port h =
      let d : Reads plan.graph.nodes r port k = reads r port k h in
      let l : length (edge_at plan c k r) < plan.capacity = (room_by_edges plan c graph sound k).0 room r port d in
      let e : length (edge_in edges r port) ≡ length (edge_at plan c k r) = ap length (holds.edges_are r port k d) in
      omega (arith, l, e, capacity)

  -- the first messages of a node's edges are the heads at the position
  pub heads_in : (k : ℕ) (ms : List Message) → AreHeads edges k ms → heads_at plan c k ≡ Some ms
  heads_in k ms heads =
      all_of-from (λ a. slice_get (edge_at plan c a k) 0) (arguments_of plan.graph.nodes k) ms (heads.ports ∙ ap length (ports_are k))
      (λ port a h.
      let l : port < length (arguments_of plan.graph.nodes k) = slice_get_within (arguments_of plan.graph.nodes k) port a h in
      let n : length (read_in edges k) ≡ length (arguments_of plan.graph.nodes k) = ap length (ports_are k) in
      heads.first port (omega (arith, l, n, heads.ports)) ∙ ap (λ (xs : List Message). slice_get xs 0) (holds.edges_are k port a h))

  pub in_heads : (k : ℕ) (ms : List Message) → heads_at plan c k ≡ Some ms → AreHeads edges k ms
  in_heads k ms h = record { ports = parts_of.0 ∙ sym (ap length (ports_are k)); first = first }
    where
      parts_of : AreThere (λ a. slice_get (edge_at plan c a k) 0) (arguments_of plan.graph.nodes k) ms
      parts_of = all_of-to (λ a. slice_get (edge_at plan c a k) 0) (arguments_of plan.graph.nodes k) ms h

      first : (port : ℕ) → port < length ms → slice_get ms port ≡ slice_get (edge_in edges k port) 0
      first port l =
          let a : ℕ = get_or (arguments_of plan.graph.nodes k) port 0 in
          let r : Reads plan.graph.nodes k port a = slice_get-get_or (arguments_of plan.graph.nodes k) port 0 (omega (arith, l, parts_of.0)) in
          parts_of.1 port a r ∙ ap (λ (xs : List Message). slice_get xs 0) (sym (holds.edges_are k port a r))
