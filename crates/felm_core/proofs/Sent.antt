-- What lies where after a turn that sent its message.
use Rattle.std.proofs.Common.{◌≡◌, ℕ, suc, zero, ◌+◌, ◌-◌, ◌<◌, ◌≤◌, ◌⊎◌, inl, inr, Bool, true, false, cond, Option, Some, None, List, [], ◌∷◌, ◌++◌, length, set, drop, refl, sym, ap, ◌∙◌, subst, arith}
use Rattle.std.specs.Option.{option_map_or}
use Rattle.std.proofs.lemmas.Bool.{cases_eq}
use Rattle.std.proofs.lemmas.List.{drop-append-le, get_or-set_same, get_or-set_other}
use Rattle.felm_term.specs.Values.{value_of}
use Rattle.felm_term.specs.declared.value.Value.{Value}
use Rattle.felm_term.specs.declared.message.Message.{Message}
use Rattle.felm_graph.specs.declared.node.Node.{Node}
use Rattle.felm_graph.specs.Nodes.{is_source}
use Rattle.felm_graph.specs.Graphs.{IsGraph}
use Rattle.felm_meaning.specs.Nodes.{inner}
use Rattle.felm_meaning.specs.Meaning.{msg, val, value_at, changes, changed_in, sends, edge, IsThere}
use Rattle.felm_meaning.specs.Journals.{entered}
use Rattle.felm_meaning.proofs.Graphs.{ordered}
use Rattle.felm_meaning.proofs.Rows.{there_within}
use Rattle.felm_meaning.specs.PlanValue.{PlanValue}
use Rattle.felm_core.specs.Positions.{Position, done_at, is_out, Reads, HasTurn, IsSound}
use Rattle.felm_core.specs.Contents.{edge_at, kept_at, waiting_at, outputs_at, turns_of, settled_at, owed_at}
use Rattle.felm_core.specs.Moves.{sent}
use Rattle.felm_core.proofs.Wiring.{reads_some}
use Rattle.felm_core.proofs.Messages.{waiting_is, sends-more, changes-one, edge-put, edge-drop}

-- ---- counts

pub turns-same : (nodes : List Node) (done after : List ℕ) (n : ℕ) → ((x : ℕ) → x < n → is_source nodes x ≡ false → done_at after x ≡ done_at done x)
    → turns_of nodes after n ≡ turns_of nodes done n
unfolding turns_of
turns-same nodes done after zero h = refl
turns-same nodes done after (suc n) h = go (is_source nodes n) refl (turns-same nodes done after n (λ x l q. h x (omega arith) q))
  where
    go : (t : Bool) → is_source nodes n ≡ t → turns_of nodes after n ≡ turns_of nodes done n
        → turns_of nodes after n + cond t 0 (done_at after n) ≡ turns_of nodes done n + cond t 0 (done_at done n)
    go true q ih = omega arith
    go false q ih = let e : done_at after n ≡ done_at done n = h n (omega arith) q in omega arith

turns-more : (nodes : List Node) (done after : List ℕ) (k n : ℕ) → k < n → is_source nodes k ≡ false → done_at after k ≡ suc (done_at done k)
    → ((x : ℕ) → (k ≡ x → ⊥) → done_at after x ≡ done_at done x) → turns_of nodes after n ≡ suc (turns_of nodes done n)
unfolding turns_of
turns-more nodes done after k zero l s e h = absurd (omega arith)
turns-more nodes done after k (suc n) l s e h = go (is_source nodes n) refl (cases_eq k n) (turns-more nodes done after k n)
  where
    go : (t : Bool) → is_source nodes n ≡ t → (k ≡ n) ⊎ (k ≡ n → ⊥)
        → (k < n → is_source nodes k ≡ false → done_at after k ≡ suc (done_at done k) → ((x : ℕ) → (k ≡ x → ⊥) → done_at after x ≡ done_at done x)
        → turns_of nodes after n ≡ suc (turns_of nodes done n))
        → turns_of nodes after n + cond t 0 (done_at after n) ≡ suc (turns_of nodes done n + cond t 0 (done_at done n))
    go true q (inl i) ih = absurd (no (sym (ap (is_source nodes) i ∙ q) ∙ s))
      where
        no : true ≡ false → ⊥
        no w = elim (subst {A = Bool} (λ t. cond t (Unit {0}) ⊥) w tt) [ ]
    go false q (inl i) ih =
        let front : turns_of nodes after n ≡ turns_of nodes done n = turns-same nodes done after n (λ x u w. h x (λ v. omega arith)) in
        let here : done_at after n ≡ suc (done_at done n) = subst (λ (x : ℕ). done_at after x ≡ suc (done_at done x)) i e in
        omega arith
    go true q (inr i) ih = let r : turns_of nodes after n ≡ suc (turns_of nodes done n) = ih (omega arith) s e h in omega arith
    go false q (inr i) ih =
        let r : turns_of nodes after n ≡ suc (turns_of nodes done n) = ih (omega arith) s e h in
        let w : done_at after n ≡ done_at done n = h n i in omega arith

module _ (s : PlanValue) (c : Position) (k : ℕ) (m : Message) (graph : IsGraph s.graph) (sound : IsSound s c) (out : is_out c.out k ≡ true)
    (message : msg s.graph s.budget c.journal k (suc (done_at c.done k)) ≡ Some m) where
  turn : HasTurn s c.done k
  turn = sound.turns k out

  after : List ℕ
  after = set c.done k (suc (done_at c.done k))

  own : done_at after k ≡ suc (done_at c.done k)
  unfolding after
  own = get_or-set_same c.done k _ 0 (omega (arith, turn.node, sound.counts))

  other : (x : ℕ) → (k ≡ x → ⊥) → done_at after x ≡ done_at c.done x
  unfolding after
  other x n = get_or-set_other c.done k x _ 0 (λ e. n (sym e))

  there : (x p : ℕ) → x < length s.graph.nodes → p ≤ done_at c.done x → IsThere (msg s.graph s.budget c.journal x p)
  there = sound.sent

  -- ---- edges

  pub sent_put : (r port : ℕ) → Reads s.graph.nodes r port k → edge_at s (sent c k) k r ≡ edge_at s c k r ++ m ∷ []
  unfolding edge_at after
  sent_put r port h =
      let l : k < r = (ordered s.graph graph).down r port k h in
      ap (λ (x : ℕ). edge s.graph s.budget c.journal k x (done_at after k)) (other r (λ (e : k ≡ r). omega arith)) ∙
      (ap (λ (x : ℕ). edge s.graph s.budget c.journal k (done_at c.done r) x) own ∙
      edge-put s.graph s.budget c.journal k (done_at c.done r) (done_at c.done k) m (λ p u. there k p turn.node u) (sound.fed r port k h) message)

  pub sent_take : (port a : ℕ) → Reads s.graph.nodes k port a → edge_at s (sent c k) a k ≡ drop 1 (edge_at s c a k)
  unfolding edge_at after
  sent_take port a h =
      let l : a < k = (ordered s.graph graph).down k port a h in
      ap (λ (x : ℕ). edge s.graph s.budget c.journal a (done_at after k) x) (other a (λ (e : k ≡ a). omega arith)) ∙
      (ap (λ (x : ℕ). edge s.graph s.budget c.journal a x (done_at c.done a)) own ∙ edge-drop s.graph s.budget c.journal a (done_at c.done k) (done_at c.done a))

  pub sent_edge : (a r : ℕ) → (k ≡ a → ⊥) → (k ≡ r → ⊥) → edge_at s (sent c k) a r ≡ edge_at s c a r
  unfolding edge_at after
  sent_edge a r n o =
      ap (λ (x : ℕ). edge s.graph s.budget c.journal a x (done_at after a)) (other r o) ∙
      ap (λ (x : ℕ). edge s.graph s.budget c.journal a (done_at c.done r) x) (other a n)

  -- ---- kept values

  pub sent_kept : kept_at s (sent c k) k ≡ Some (value_of m)
  unfolding kept_at val after
  sent_kept = ap (λ (x : ℕ). value_at (msg s.graph s.budget c.journal k x)) own ∙ ap value_at message

  pub sent_kept-other : (x : ℕ) → (k ≡ x → ⊥) → kept_at s (sent c k) x ≡ kept_at s c x
  unfolding kept_at after
  sent_kept-other x n = ap (val s.graph s.budget c.journal x) (other x n)

  -- ---- waiting lists

  pub sent_waits : (a : ℕ) → inner s.graph.nodes a ≡ Some k → waiting_at s (sent c k) a ≡ waiting_at s c a ++ changed_in (Some m)
  unfolding after
  sent_waits a h =
      waiting_is s (sent c k) a k h ∙
      (ap (λ (x : ℕ). drop (entered c.journal a) (changes s.graph s.budget c.journal k x)) own ∙
      (ap (drop (entered c.journal a)) (changes-one s.graph s.budget c.journal k (done_at c.done k) m message) ∙
      (drop-append-le (entered c.journal a) (changes s.graph s.budget c.journal k (done_at c.done k)) (changed_in (Some m)) (sound.entered a k h) ∙
      ap (λ (xs : List Value). xs ++ changed_in (Some m)) (sym (waiting_is s c a k h)))))

  pub sent_waits-other : (a : ℕ) → (inner s.graph.nodes a ≡ Some k → ⊥) → waiting_at s (sent c k) a ≡ waiting_at s c a
  unfolding waiting_at after
  sent_waits-other a n = go (inner s.graph.nodes a) refl
    where
      go : (o : Option ℕ) → inner s.graph.nodes a ≡ o
          → option_map_or (λ x. drop (entered c.journal a) (changes s.graph s.budget c.journal x (done_at after x))) o []
          ≡ option_map_or (λ x. drop (entered c.journal a) (changes s.graph s.budget c.journal x (done_at c.done x))) o []
      go None h = refl
      go (Some x) h =
          ap (λ (w : ℕ). drop (entered c.journal a) (changes s.graph s.budget c.journal x w))
          (other x (λ (e : k ≡ x). n (h ∙ ap (λ (y : ℕ). Some y) (sym e))))

  -- ---- outputs

  pub sent_shown : s.graph.main ≡ k → outputs_at s (sent c k) ≡ outputs_at s c ++ m ∷ []
  unfolding outputs_at after
  sent_shown h =
      subst (λ (x : ℕ). sends s.graph s.budget c.journal x (done_at after x) ≡ sends s.graph s.budget c.journal x (done_at c.done x) ++ m ∷ []) (sym h)
      (ap (sends s.graph s.budget c.journal k) own ∙ sends-more s.graph s.budget c.journal k (done_at c.done k) m message)

  pub sent_shown-other : (s.graph.main ≡ k → ⊥) → outputs_at s (sent c k) ≡ outputs_at s c
  unfolding outputs_at after
  sent_shown-other n = ap (sends s.graph s.budget c.journal s.graph.main) (other s.graph.main (λ e. n (sym e)))

  -- ---- counts

  pub sent_settled : settled_at s (sent c k) ≡ suc (settled_at s c)
  unfolding after
  sent_settled = turns-more s.graph.nodes c.done after k (length s.graph.nodes) turn.node turn.no_source own other

  -- one message less is owed
  pub sent_owed : owed_at c k ≡ suc (owed_at (sent c k) k)
  unfolding after
  sent_owed =
      let a = reads_some s.graph k graph turn.node turn.no_source in
      let f : done_at c.done k < done_at c.done a.0 = turn.fed 0 a.0 a.1 in
      let l : a.0 < k = (ordered s.graph graph).down k 0 a.0 a.1 in
      let n : k < length s.graph.nodes = turn.node in
      let w : done_at c.done a.0 ≤ length c.journal =
      there_within s.graph s.budget c.journal a.0 (done_at c.done a.0) (there a.0 (done_at c.done a.0) (omega arith) (omega arith)) in
      omega (arith, own)

  pub sent_owed-other : (x : ℕ) → (k ≡ x → ⊥) → owed_at (sent c k) x ≡ owed_at c x
  unfolding after
  sent_owed-other x n = ap (λ (w : ℕ). length c.journal - w) (other x n)
