-- How large the counts of an engine get, and when all is settled.
use Rattle.std.proofs.Common.{◌≡◌, ℕ, suc, zero, ◌+◌, ◌-◌, ◌*◌, ◌<◌, ◌≤◌, ◌⊎◌, inl, inr, Bool, true, false, cond, List, length, refl, sym, ap, ◌∙◌, arith}
use Rattle.std.proofs.Math.Nat.{mul-le-mul_left}
use Rattle.std.proofs.lemmas.Bool.{cases_eq, false≢true}
use Rattle.felm_graph.specs.declared.node.Node.{Node}
use Rattle.felm_graph.specs.Graphs.{IsGraph}
use Rattle.felm_graph.specs.Nodes.{is_source}
use Rattle.felm_meaning.specs.PlanValue.{PlanValue}
use Rattle.felm_meaning.proofs.Graphs.{ordered}
use Rattle.felm_core.specs.Positions.{Position, done_at, IsSound, IsSettled}
use Rattle.felm_core.specs.Contents.{turns_of, settled_at, turning}
use Rattle.felm_core.proofs.Wiring.{reads_some}
use Rattle.felm_core.proofs.Measures.{settled_most, settled_all}
use Rattle.felm_core.proofs.Sticks.{done_within}
use Rattle.felm_engine.specs.Lists.{sources_of}
use Rattle.felm_engine.proofs.OverLists.{sources-and-turning}

product_grows : (n l t : ℕ) → n ≤ l → n * t ≤ l * t
product_grows n l t h = let q : t * n ≤ t * l = mul-le-mul_left t h in grind arith

-- ---- the first node is a source

turning-less : (nodes : List Node) (n : ℕ) → is_source nodes 0 ≡ true → turning nodes (suc n) ≤ n
unfolding turning
turning-less nodes zero s = by (is_source nodes 0) s
  where
    by : (t : Bool) → t ≡ true → 0 + cond t 0 1 ≤ 0
    by true q = omega arith
    by false q = absurd (false≢true q)
turning-less nodes (suc n) s = go (is_source nodes (suc n)) (turning-less nodes n s)
  where
    go : (t : Bool) → turning nodes (suc n) ≤ n → turning nodes (suc n) + cond t 0 1 ≤ suc n
    go true ih = omega arith
    go false ih = omega arith

module _ (plan : PlanValue) (graph : IsGraph plan.graph) where
  first_source : is_source plan.graph.nodes 0 ≡ true
  first_source = go (is_source plan.graph.nodes 0) refl
    where
      go : (t : Bool) → is_source plan.graph.nodes 0 ≡ t → is_source plan.graph.nodes 0 ≡ true
      go true q = q
      go false q =
          let m : 0 < length plan.graph.nodes = omega (arith, graph.main_there) in
          let a = reads_some plan.graph 0 graph m q in
          let l : a.0 < 0 = (ordered plan.graph graph).down 0 0 a.0 a.1 in
          absurd (omega (arith, l))

  pub turning_most : turning plan.graph.nodes (length plan.graph.nodes) < 16384
  turning_most = go (length plan.graph.nodes) graph.main_there graph.few
    where
      go : (n : ℕ) → plan.graph.main < n → n ≤ 16384 → turning plan.graph.nodes n < 16384
      go zero l m = absurd (omega (arith, l))
      go (suc n) l m = let t : turning plan.graph.nodes (suc n) ≤ n = turning-less plan.graph.nodes n first_source in omega arith

  pub settled_bound : (c : Position) → IsSound plan c → plan.limit ≤ 16777216 → settled_at plan c < 274877906944
  settled_bound c sound most =
      let t : ℕ = turning plan.graph.nodes (length plan.graph.nodes) in
      let a : settled_at plan c ≤ length c.journal * t = settled_most plan c graph sound in
      let j : length c.journal ≤ 16777216 = omega (arith, sound.within) in
      let m : length c.journal * t ≤ 16777216 * t = product_grows (length c.journal) 16777216 t j in
      let b : t < 16384 = turning_most in
      omega (arith, a, m, b)

  -- as many nodes take turns as are no sources
  pub turning_is : (n s : ℕ) → n ≡ length plan.graph.nodes → s ≡ length (sources_of plan.graph.nodes (length plan.graph.nodes))
      → (s ≤ n) × (n - s ≡ turning plan.graph.nodes (length plan.graph.nodes))
  turning_is n s e q =
      let w : turning plan.graph.nodes (length plan.graph.nodes) + length (sources_of plan.graph.nodes (length plan.graph.nodes)) ≡ length plan.graph.nodes =
      sources-and-turning plan.graph.nodes (length plan.graph.nodes) in
      (omega (arith, e, q, w), omega (arith, e, q, w))

-- ---- all is settled exactly where all turns are counted

turns-most : (nodes : List Node) (done : List ℕ) (events n : ℕ) → ((x : ℕ) → x < n → done_at done x ≤ events) → turns_of nodes done n ≤ events * turning nodes n
unfolding turns_of turning
turns-most nodes done events zero h = omega arith
turns-most nodes done events (suc n) h = go (is_source nodes n) (turns-most nodes done events n (λ x l. h x (omega arith)))
  where
    go : (t : Bool) → turns_of nodes done n ≤ events * turning nodes n
        → turns_of nodes done n + cond t 0 (done_at done n) ≤ events * (turning nodes n + cond t 0 1)
    go true ih = omega arith
    go false ih = let l : done_at done n ≤ events = h n (omega arith) in omega arith

turns-whole : (nodes : List Node) (done : List ℕ) (events n : ℕ) → ((x : ℕ) → x < n → done_at done x ≤ events)
    → turns_of nodes done n ≡ events * turning nodes n → (k : ℕ) → k < n → is_source nodes k ≡ false → done_at done k ≡ events
unfolding turns_of turning
turns-whole nodes done events zero h e k l s = absurd (omega (arith, l))
turns-whole nodes done events (suc n) h e k l s =
    go (is_source nodes n) refl e (cases_eq k n) (λ q m. turns-whole nodes done events n (λ x o. h x (omega (arith, o))) q k (omega (arith, l, m)) s)
  where
    most : turns_of nodes done n ≤ events * turning nodes n
    most = turns-most nodes done events n (λ x m. h x (omega (arith, m)))

    last : done_at done n ≤ events
    last = h n (omega arith)

    go : (t : Bool) → is_source nodes n ≡ t → turns_of nodes done n + cond t 0 (done_at done n) ≡ events * (turning nodes n + cond t 0 1)
        → (k ≡ n) ⊎ (k ≡ n → ⊥) → (turns_of nodes done n ≡ events * turning nodes n → (k ≡ n → ⊥) → done_at done k ≡ events) → done_at done k ≡ events
    go true q e (inl m) ih = absurd (false≢true (sym s ∙ (ap (is_source nodes) m ∙ q)))
    go true q e (inr m) ih = ih (omega (arith, e)) m
    go false q e (inl m) ih = ap (done_at done) m ∙ omega (arith, e, last, most)
    go false q e (inr m) ih = ih (omega (arith, e, last, most)) m

module _ (plan : PlanValue) (c : Position) (graph : IsGraph plan.graph) (sound : IsSound plan c) where
  pub counted_settled : settled_at plan c ≡ length c.journal * turning plan.graph.nodes (length plan.graph.nodes) → IsSettled plan c
  counted_settled e k l s =
      turns-whole plan.graph.nodes c.done (length c.journal) (length plan.graph.nodes) (done_within plan c graph sound) e k l s

  pub settled_counted : IsSettled plan c → settled_at plan c ≡ length c.journal * turning plan.graph.nodes (length plan.graph.nodes)
  settled_counted settled = settled_all plan c graph sound settled
