-- What lies where at the beginning, and that it depends on the journal and the done counts alone.
use Rattle.std.proofs.Common.{◌≡◌, ℕ, suc, zero, ◌+◌, Bool, true, false, cond, Option, Some, None, List, [], length, drop, replicate, refl, sym, ap, ◌∙◌, arith}
use Rattle.std.specs.Option.{option_map_or}
use Rattle.felm_graph.specs.declared.node.Node.{Node}
use Rattle.felm_graph.specs.Nodes.{is_source}
use Rattle.felm_meaning.specs.Nodes.{inner}
use Rattle.felm_meaning.specs.Meaning.{val, changes, sends, edge}
use Rattle.felm_meaning.specs.Journals.{entered}
use Rattle.felm_meaning.specs.PlanValue.{PlanValue}
use Rattle.felm_core.specs.Positions.{Position, done_at}
use Rattle.felm_core.specs.Contents.{edge_at, kept_at, waiting_at, outputs_at, turns_of, settled_at, owed_at}
use Rattle.felm_core.specs.Moves.{beginning}
use Rattle.felm_core.specs.Holds.{Edges, Parts, Holds}

zeros : (n k : ℕ) → done_at (replicate n 0) k ≡ 0
zeros zero k = refl
zeros (suc n) zero = refl
zeros (suc n) (suc k) = zeros n k

zero_turns : (nodes : List Node) (m n : ℕ) → turns_of nodes (replicate m 0) n ≡ 0
unfolding turns_of
zero_turns nodes m zero = refl
zero_turns nodes m (suc n) = go (is_source nodes n) (zero_turns nodes m n)
  where
    go : (t : Bool) → turns_of nodes (replicate m 0) n ≡ 0 → turns_of nodes (replicate m 0) n + cond t 0 (done_at (replicate m 0) n) ≡ 0
    go true ih = omega arith
    go false ih = let z : done_at (replicate m 0) n ≡ 0 = zeros m n in omega arith

module _ (s : PlanValue) where
  none : (k : ℕ) → done_at (beginning s.graph).done k ≡ 0
  none k = zeros (length s.graph.nodes) k

  pub begin_edge : (a k : ℕ) → edge_at s (beginning s.graph) a k ≡ []
  unfolding edge_at sends
  begin_edge a k =
      ap (λ (r : ℕ). edge s.graph s.budget [] a r (done_at (beginning s.graph).done a)) (none k) ∙ ap (sends s.graph s.budget [] a) (none a)

  pub begin_kept : (k : ℕ) → kept_at s (beginning s.graph) k ≡ val s.graph s.budget [] k 0
  unfolding kept_at
  begin_kept k = ap (val s.graph s.budget [] k) (none k)

  pub begin_waits : (a : ℕ) → waiting_at s (beginning s.graph) a ≡ []
  unfolding waiting_at changes entered
  begin_waits a = go (inner s.graph.nodes a)
    where
      go : (o : Option ℕ)
          → option_map_or (λ x. drop (entered [] a) (changes s.graph s.budget [] x (done_at (beginning s.graph).done x))) o [] ≡ []
      go None = refl
      go (Some x) = ap (λ (n : ℕ). changes s.graph s.budget [] x n) (none x)

  pub begin_shown : outputs_at s (beginning s.graph) ≡ []
  unfolding outputs_at sends
  begin_shown = ap (sends s.graph s.budget [] s.graph.main) (none s.graph.main)

  pub begin_settled : settled_at s (beginning s.graph) ≡ 0
  begin_settled = go (length s.graph.nodes)
    where
      go : (n : ℕ) → turns_of s.graph.nodes (replicate (length s.graph.nodes) 0) n ≡ 0
      go n = zero_turns s.graph.nodes (length s.graph.nodes) n

  pub begin_owed : (k : ℕ) → owed_at (beginning s.graph) k ≡ 0
  begin_owed k = omega arith

  module _ (c d : Position) (journal : d.journal ≡ c.journal) (done : d.done ≡ c.done) where
    pub stay_edge : (a k : ℕ) → edge_at s d a k ≡ edge_at s c a k
    unfolding edge_at
    stay_edge a k = rw (journal, done) refl

    pub stay_kept : (k : ℕ) → kept_at s d k ≡ kept_at s c k
    unfolding kept_at
    stay_kept k = rw (journal, done) refl

    pub stay_waits : (a : ℕ) → waiting_at s d a ≡ waiting_at s c a
    unfolding waiting_at
    stay_waits a = rw (journal, done) refl

    pub stay_shown : outputs_at s d ≡ outputs_at s c
    unfolding outputs_at
    stay_shown = rw (journal, done) refl

    pub stay_settled : settled_at s d ≡ settled_at s c
    stay_settled = ap (λ (ds : List ℕ). turns_of s.graph.nodes ds (length s.graph.nodes)) done

    pub stay_owed : (k : ℕ) → owed_at d k ≡ owed_at c k
    stay_owed k = rw (journal, done) refl

    pub stay_holds : (edges : Edges) (parts : Parts) → Holds s c edges parts → Holds s d edges parts
    stay_holds edges parts holds = record {
      edges_are = λ k port a h. holds.edges_are k port a h ∙ sym (stay_edge a k);
      kept_length = holds.kept_length;
      kept_are = λ k l. holds.kept_are k l ∙ sym (stay_kept k);
      waiting_length = holds.waiting_length;
      waiting_are = λ a l. holds.waiting_are a l ∙ sym (stay_waits a);
      outputs_are = holds.outputs_are ∙ sym stay_shown;
      settled_is = holds.settled_is ∙ sym stay_settled;
    }
