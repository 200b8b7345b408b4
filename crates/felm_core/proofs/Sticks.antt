-- A run never sticks: where a node lags behind the journal, some node is ready; where none does, an event may come in.
use Rattle.std.proofs.Common.{◌≡◌, ℕ, suc, zero, ◌+◌, ◌<◌, ◌≤◌, ◌⊎◌, inl, inr, Bool, true, false, Option, Some, None, List, [], length, drop, refl, sym, ap, ◌∙◌, subst, arith}
use Rattle.std.specs.List.{slice_get}
use Rattle.std.specs.Option.{option_map_or, option_and_then}
use Rattle.std.proofs.lemmas.Bool.{cases_eq, cases_lt, false≢true}
use Rattle.felm_graph.specs.declared.node.Node.{Node}
use Rattle.felm_graph.specs.Nodes.{is_source}
use Rattle.felm_graph.specs.Graphs.{IsGraph}
use Rattle.felm_meaning.specs.Nodes.{inner}
use Rattle.felm_meaning.specs.Meaning.{changes, sends, IsThere, msg}
use Rattle.felm_meaning.specs.Journals.{entered, waiting, AllThere}
use Rattle.felm_meaning.proofs.Graphs.{ordered}
use Rattle.felm_meaning.proofs.Rows.{there_within}
use Rattle.felm_meaning.specs.PlanValue.{PlanValue}
use Rattle.felm_core.specs.Positions.{Position, done_at, is_out, Reads, HasRoom, HasTurn, IsSound, IsReady, IsSettled}
use Rattle.felm_core.specs.Contents.{waiting_at, outputs_at}
use Rattle.felm_core.proofs.Wiring.{reader_within, reads_some}
use Rattle.felm_core.proofs.Runs.{inner_there, slice_get-drop}

-- a node that lags: no source, and it has taken fewer turns than there are events
pub record Lags (nodes : List Node) (done : List ℕ) (events k : ℕ) : Type 0 where
  pub no_source : is_source nodes k ≡ false
  pub behind : done_at done k < events

-- of the first n nodes none lags, or this one does, with the least count, and the least number of those with that count
data Least (nodes : List Node) (done : List ℕ) (events n : ℕ) : Type 0 where
  nobody : ((x : ℕ) → x < n → Lags nodes done events x → ⊥) → Least nodes done events n
  least : (k : ℕ) → k < n → Lags nodes done events k → ((x : ℕ) → x < n → Lags nodes done events x → done_at done k ≤ done_at done x)
      → ((x : ℕ) → x < k → Lags nodes done events x → done_at done k < done_at done x) → Least nodes done events n

module _ (nodes : List Node) (done : List ℕ) (events : ℕ) where
  lags_or : (k : ℕ) → Lags nodes done events k ⊎ (Lags nodes done events k → ⊥)
  lags_or k = go (is_source nodes k) refl (cases_lt (done_at done k) events)
    where
      go : (t : Bool) → is_source nodes k ≡ t → (done_at done k < events) ⊎ (events ≤ done_at done k) → Lags nodes done events k ⊎ (Lags nodes done events k → ⊥)
      go true s c = inr (λ h. false≢true (sym h.no_source ∙ s))
      go false s (inl l) = inl (record { no_source = s; behind = l })
      go false s (inr l) = inr (λ h. let b : done_at done k < events = h.behind in omega arith)

  -- what holds of each node below n that lags, and of n, holds below n + 1
  below_next : (n bound : ℕ) → ((x : ℕ) → x < n → Lags nodes done events x → bound ≤ done_at done x) → (Lags nodes done events n → bound ≤ done_at done n)
      → (x : ℕ) → x < suc n → Lags nodes done events x → bound ≤ done_at done x
  below_next n bound f g x l h = go (cases_eq x n)
    where
      go : (x ≡ n) ⊎ (x ≡ n → ⊥) → bound ≤ done_at done x
      go (inl e) = let b : bound ≤ done_at done n = g (subst (Lags nodes done events) e h) in subst (λ (y : ℕ). bound ≤ done_at done y) (sym e) b
      go (inr ne) = f x (omega arith) h

  least_of : (n : ℕ) → Least nodes done events n
  least_of zero = nobody (λ x l h. omega arith)
  least_of (suc n) = go (least_of n) (lags_or n)
    where
      go : Least nodes done events n → Lags nodes done events n ⊎ (Lags nodes done events n → ⊥) → Least nodes done events (suc n)
      go (nobody f) (inr calm) = nobody (λ x l h. at x h (cases_eq x n) l)
        where
          at : (x : ℕ) → Lags nodes done events x → (x ≡ n) ⊎ (x ≡ n → ⊥) → x < suc n → ⊥
          at x h (inl e) l = calm (subst (Lags nodes done events) e h)
          at x h (inr ne) l = f x (omega arith) h
      go (nobody f) (inl lag) =
          least n (omega arith) lag (below_next n (done_at done n) (λ x l h. absurd (f x l h)) (λ h. omega arith)) (λ x l h. absurd (f x l h))
      go (least k l y a b) (inr calm) = least k (omega arith) y (below_next n (done_at done k) a (λ h. absurd (calm h))) b
      go (least k l y a b) (inl lag) = pick (cases_lt (done_at done n) (done_at done k))
        where
          pick : (done_at done n < done_at done k) ⊎ (done_at done k ≤ done_at done n) → Least nodes done events (suc n)
          pick (inl lt) =
              least n (omega arith) lag
              (below_next n (done_at done n) (λ x l h. let q : done_at done k ≤ done_at done x = a x l h in omega arith) (λ h. omega arith))
              (λ x l h. let q : done_at done k ≤ done_at done x = a x l h in omega arith)
          pick (inr le) = least k (omega arith) y (below_next n (done_at done k) a (λ h. le)) b

module _ (s : PlanValue) (c : Position) (graph : IsGraph s.graph) (sound : IsSound s c) where
  pub done_within : (k : ℕ) → k < length s.graph.nodes → done_at c.done k ≤ length c.journal
  done_within k l = there_within s.graph s.budget c.journal k (done_at c.done k) (sound.sent k (done_at c.done k) l (omega arith))

  -- the lagging node of the least count, and then of the least number, can take a turn
  least_turn : (k : ℕ) → 1 ≤ s.capacity → k < length s.graph.nodes → Lags s.graph.nodes c.done (length c.journal) k
      → ((x : ℕ) → x < length s.graph.nodes → Lags s.graph.nodes c.done (length c.journal) x → done_at c.done k ≤ done_at c.done x)
      → ((x : ℕ) → x < k → Lags s.graph.nodes c.done (length c.journal) x → done_at c.done k < done_at c.done x) → HasTurn s c.done k
  least_turn k one w y a b = record {
    node = w;
    no_source = y.no_source;
    fed = λ port x r. fed port x r (is_source s.graph.nodes x) refl (cases_lt (done_at c.done x) (length c.journal));
    room = λ r port e. room r port e (cases_lt (done_at c.done r) (length c.journal));
  }
    where
      fed : (port x : ℕ) → Reads s.graph.nodes k port x → (t : Bool) → is_source s.graph.nodes x ≡ t
          → (done_at c.done x < length c.journal) ⊎ (length c.journal ≤ done_at c.done x) → done_at c.done k < done_at c.done x
      fed port x r true q o =
          let e : done_at c.done x ≡ length c.journal = sound.sources x q in let l : done_at c.done k < length c.journal = y.behind in omega arith
      fed port x r false q (inl l) = b x ((ordered s.graph graph).down k port x r) (record { no_source = q; behind = l })
      fed port x r false q (inr l) = let m : done_at c.done k < length c.journal = y.behind in omega arith

      room : (r port : ℕ) → Reads s.graph.nodes r port k → (done_at c.done r < length c.journal) ⊎ (length c.journal ≤ done_at c.done r)
          → done_at c.done k < done_at c.done r + s.capacity
      room r port e (inl l) =
          let w = reader_within s.graph.nodes r port k e in
          let n : done_at c.done k ≤ done_at c.done r = a r w.0 (record { no_source = w.1; behind = l }) in omega arith
      room r port e (inr l) = let m : done_at c.done k < length c.journal = y.behind in omega arith

  -- with no turn out and no stop, all is settled or some node is ready
  pub never_sticks : 1 ≤ s.capacity → ((k : ℕ) → is_out c.out k ≡ false) → c.stop ≡ None → IsSettled s c ⊎ ((k : ℕ) × IsReady s c k)
  never_sticks one no_out no_stop = go (least_of s.graph.nodes c.done (length c.journal) (length s.graph.nodes))
    where
      at : ((x : ℕ) → x < length s.graph.nodes → Lags s.graph.nodes c.done (length c.journal) x → ⊥) → (x : ℕ) → x < length s.graph.nodes
          → is_source s.graph.nodes x ≡ false → (done_at c.done x < length c.journal) ⊎ (length c.journal ≤ done_at c.done x) → done_at c.done x ≡ length c.journal
      at f x w n (inl l) = absurd (f x w (record { no_source = n; behind = l }))
      at f x w n (inr l) = omega (arith, done_within x w)

      go : Least s.graph.nodes c.done (length c.journal) (length s.graph.nodes) → IsSettled s c ⊎ ((k : ℕ) × IsReady s c k)
      go (nobody f) = inl (λ x w n. at f x w n (cases_lt (done_at c.done x) (length c.journal)))
      go (least k l y a b) = inr (k, record { turn = least_turn k one l y a b; no_stop = no_stop; not_out = no_out k })

  -- where all is settled no node is ready
  pub settled_rests : IsSettled s c → (k : ℕ) → IsReady s c k → ⊥
  settled_rests settled k r =
      let a = reads_some s.graph k graph r.turn.node r.turn.no_source in
      let f : done_at c.done k < done_at c.done a.0 = r.turn.fed 0 a.0 a.1 in
      let e : done_at c.done k ≡ length c.journal = settled k r.turn.node r.turn.no_source in
      let d : a.0 < k = (ordered s.graph graph).down k 0 a.0 a.1 in
      let n : k < length s.graph.nodes = r.turn.node in
      let l : done_at c.done a.0 ≤ length c.journal = done_within a.0 (omega arith) in
      omega arith

  -- and each source has room
  pub settled_room : 1 ≤ s.capacity → IsSettled s c → (k : ℕ) → is_source s.graph.nodes k ≡ true → HasRoom s c.done k
  settled_room one settled k h r port e =
      let w = reader_within s.graph.nodes r port k e in
      let a : done_at c.done k ≡ length c.journal = sound.sources k h in
      let b : done_at c.done r ≡ length c.journal = settled r w.0 w.1 in omega arith

  -- every node has done as much as the journal is long
  pub settled_done : IsSettled s c → (k : ℕ) → k < length s.graph.nodes → done_at c.done k ≡ length c.journal
  settled_done settled k l = go (is_source s.graph.nodes k) refl
    where
      go : (t : Bool) → is_source s.graph.nodes k ≡ t → done_at c.done k ≡ length c.journal
      go true h = sound.sources k h
      go false h = settled k l h

  -- and the shown node has sent all its messages
  pub settled_shown : IsSettled s c → outputs_at s c ≡ sends s.graph s.budget c.journal s.graph.main (length c.journal)
  unfolding outputs_at
  settled_shown settled = ap (sends s.graph s.budget c.journal s.graph.main) (settled_done settled s.graph.main graph.main_there)

  -- what waits first there is what waits after the journal
  pub settled_waits : IsSettled s c → (a : ℕ) → slice_get (waiting_at s c a) 0 ≡ waiting s.graph s.budget c.journal a
  unfolding waiting_at waiting
  settled_waits settled a = go (inner s.graph.nodes a) refl
    where
      go : (o : Option ℕ) → inner s.graph.nodes a ≡ o
          → slice_get (option_map_or (λ x. drop (entered c.journal a) (changes s.graph s.budget c.journal x (done_at c.done x))) o []) 0
          ≡ option_and_then (λ x. slice_get (changes s.graph s.budget c.journal x (length c.journal)) (entered c.journal a)) o
      go None h = refl
      go (Some x) h =
          slice_get-drop (changes s.graph s.budget c.journal x (done_at c.done x)) (entered c.journal a) ∙
          ap (λ (n : ℕ). slice_get (changes s.graph s.budget c.journal x n) (entered c.journal a)) (settled_done settled x (inner_there s graph a x h))

  -- and every message at its end is there
  pub settled_there : IsSettled s c → AllThere s.graph s.budget c.journal
  settled_there settled k l =
      subst (λ (n : ℕ). IsThere (msg s.graph s.budget c.journal k n)) (settled_done settled k l) (sound.sent k (done_at c.done k) l (omega arith))
