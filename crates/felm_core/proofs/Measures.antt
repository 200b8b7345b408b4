-- How many turns there are in all: for runs that have to end.
use Rattle.std.proofs.Common.{◌≡◌, ℕ, suc, zero, ◌+◌, ◌*◌, ◌<◌, ◌≤◌, Bool, true, false, cond, Option, Some, List, [], ◌∷◌, length, take, refl, ap, ◌∙◌, subst, arith}
use Rattle.std.specs.List.{slice_get, count_by}
use Rattle.std.specs.Option.{option_map_or}
use Rattle.std.proofs.lemmas.List.Sums.{sum_by-append}
use Rattle.felm_graph.specs.declared.node.Node.{Node}
use Rattle.felm_graph.specs.Nodes.{is_source_kind, is_source}
use Rattle.felm_meaning.proofs.Rows.{item_within, take_whole}
use Rattle.felm_meaning.proofs.Plain.{take-more}
use Rattle.felm_graph.specs.Graphs.{IsGraph}
use Rattle.felm_meaning.specs.PlanValue.{PlanValue}
use Rattle.felm_core.specs.Positions.{Position, done_at, IsSound, IsSettled}
use Rattle.felm_core.specs.Contents.{turns_of, settled_at, turning}
use Rattle.felm_core.proofs.Sticks.{done_within}

turns-most : (nodes : List Node) (done : List ℕ) (events n : ℕ) → ((x : ℕ) → x < n → done_at done x ≤ events) → turns_of nodes done n ≤ events * turning nodes n
unfolding turns_of turning
turns-most nodes done events zero h = omega arith
turns-most nodes done events (suc n) h = go (is_source nodes n) (turns-most nodes done events n (λ x l. h x (omega arith)))
  where
    go : (t : Bool) → turns_of nodes done n ≤ events * turning nodes n
        → turns_of nodes done n + cond t 0 (done_at done n) ≤ events * (turning nodes n + cond t 0 1)
    go true ih = omega arith
    go false ih = let l : done_at done n ≤ events = h n (omega arith) in omega arith

turns-all : (nodes : List Node) (done : List ℕ) (events n : ℕ) → ((x : ℕ) → x < n → is_source nodes x ≡ false → done_at done x ≡ events)
    → turns_of nodes done n ≡ events * turning nodes n
unfolding turns_of turning
turns-all nodes done events zero h = omega arith
turns-all nodes done events (suc n) h = go (is_source nodes n) refl (turns-all nodes done events n (λ x l q. h x (omega arith) q))
  where
    go : (t : Bool) → is_source nodes n ≡ t → turns_of nodes done n ≡ events * turning nodes n
        → turns_of nodes done n + cond t 0 (done_at done n) ≡ events * (turning nodes n + cond t 0 1)
    go true q ih = omega arith
    go false q ih = let l : done_at done n ≡ events = h n (omega arith) q in omega arith

module _ (s : PlanValue) (c : Position) (graph : IsGraph s.graph) (sound : IsSound s c) where
  pub settled_most : settled_at s c ≤ length c.journal * turning s.graph.nodes (length s.graph.nodes)
  settled_most = turns-most s.graph.nodes c.done (length c.journal) (length s.graph.nodes) (done_within s c graph sound)

  pub settled_all : IsSettled s c → settled_at s c ≡ length c.journal * turning s.graph.nodes (length s.graph.nodes)
  settled_all settled = turns-all s.graph.nodes c.done (length c.journal) (length s.graph.nodes) settled

-- each node is a source, or takes turns
turning-front : (nodes : List Node) (n : ℕ) → n ≤ length nodes → turning nodes n + count_by (λ node. is_source_kind node.kind) (take n nodes) ≡ n
unfolding turning
turning-front nodes zero l = refl
turning-front nodes (suc n) l = let x = item_within nodes n (omega arith) in go x.0 x.1 (is_source_kind (x.0).kind) refl (turning-front nodes n (omega arith))
  where
    go : (x : Node) → slice_get nodes n ≡ Some x → (t : Bool) → is_source_kind x.kind ≡ t
        → turning nodes n + count_by (λ node. is_source_kind node.kind) (take n nodes) ≡ n
        → (turning nodes n + cond (is_source nodes n) 0 1) + count_by (λ node. is_source_kind node.kind) (take (suc n) nodes) ≡ suc n
    go x h t q ih =
        let s : is_source nodes n ≡ t = ap (λ (o : Option Node). option_map_or (λ y. is_source_kind y.kind) o false) h ∙ q in
        let c : count_by (λ node. is_source_kind node.kind) (take (suc n) nodes)
        ≡ count_by (λ node. is_source_kind node.kind) (take n nodes) + (0 + cond t 1 0) =
        ap (λ (ns : List Node). count_by (λ node. is_source_kind node.kind) ns) (take-more nodes n x h) ∙
        (sum_by-append (λ y. cond (is_source_kind y.kind) 1 0) (take n nodes) (x ∷ []) ∙
        ap (λ (b : Bool). count_by (λ node. is_source_kind node.kind) (take n nodes) + (0 + cond b 1 0)) q) in
        rw (s, c) (by t ih)
      where
        by : (t : Bool) → turning nodes n + count_by (λ node. is_source_kind node.kind) (take n nodes) ≡ n
            → (turning nodes n + cond t 0 1) + (count_by (λ node. is_source_kind node.kind) (take n nodes) + (0 + cond t 1 0)) ≡ suc n
        by true ih = omega arith
        by false ih = omega arith

pub turning_whole : (nodes : List Node) → turning nodes (length nodes) + count_by (λ node. is_source_kind node.kind) nodes ≡ length nodes
turning_whole nodes =
    subst (λ (ns : List Node). turning nodes (length nodes) + count_by (λ node. is_source_kind node.kind) ns ≡ length nodes) (take_whole nodes)
    (turning-front nodes (length nodes) (omega arith))
